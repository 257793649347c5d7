-- A total leaves the layouts whose sum has the relation to the target. Assumes nothing.
use Rattle.std.proofs.Common.{◌≡◌, ℕ, ◌+◌, ◌<◌, ◌≤◌, Bool, true, false, cond, eqb, leb, List, [], ◌∷◌, length, sym, refl, ap, ◌∙◌, arith}
use Rattle.std.specs.List.{AllByRecursion}
use Rattle.std.proofs.lemmas.List.{length_push}
use Rattle.std.proofs.lemmas.Bool.Decides.{nat_tests}
use Rattle.kinds.specs.declared.item.Item.{Item}
use Rattle.kinds.specs.declared.item.Item.TheVariants.{Variable}
use Rattle.kinds.specs.Items.{variable_of, names}
use Rattle.kinds.specs.Meaning.{Meaning}
use Rattle.linear.specs.Leq.{leq}
use Rattle.linear.specs.Plus.{plus}
use Rattle.linear.specs.Same.{same}
use Rattle.rows.specs.Rows.{Posted}
use Rattle.theory.proofs.Stretches.{all_front, all_back}
use Rattle.calls.specs.Catalogues.{Catalogue, LawfulAll}
use Rattle.calls.specs.Posts.{all_declared}
use Rattle.calls.specs.Totals.{sum_range, with_sum, summed, last_sum, link_code, link_items, totalled, highs}
use Rattle.calls.specs.View.{View, is_declared}
use Rattle.calls.proofs.Sitting.{names_below}
use Rattle.calls.proofs.Summing.{Addable, addable, addable_on}
use Rattle.promise.specs.Layouts.{sum_of, related, SameLayout}
use Rattle.promise.proofs.LayParts.{RowMet, Laid, declared_there, beside_more, declared_more, row_laid, sum_from, sum_laid}

-- what was there before the sums
rows_before : (P : Posted → Type 0) (v : View) (s : ℕ) (items : List Item) → AllByRecursion P (summed v s items).rows → AllByRecursion P v.rows
rows_before P v s [] all = all
rows_before P v s (i ∷ items) all =
    let n : ℕ = length v.ranges in
    all_front P v.rows (record { code = 1; items = Variable s ∷ Variable (variable_of i) ∷ Variable n ∷ [] } ∷ []) (rows_before P (with_sum v s (variable_of i)) n items all)

declared_still : (v : View) (s : ℕ) (items : List Item) → length v.declared ≡ length v.ranges → (x : ℕ) → is_declared v x ≡ true → is_declared (summed v s items) x ≡ true
declared_still v s [] beside x h = h
declared_still v s (i ∷ items) beside x h =
    declared_still (with_sum v s (variable_of i)) (length v.ranges) items
    (beside_more v false (sum_range v.ranges s (variable_of i)) beside) x
    (declared_more v false (sum_range v.ranges s (variable_of i)) beside x h)

last_there : (v : View) (s : ℕ) (items : List Item) → s < length v.ranges → last_sum v s items < length (summed v s items).ranges
last_there v s [] l = l
last_there v s (i ∷ items) l = last_there (with_sum v s (variable_of i)) (length v.ranges) items (omega (arith, length_push v.ranges (sum_range v.ranges s (variable_of i))))

-- the sum is that of the declared variables' values
same_sum : (v : View) (w u : ℕ → ℕ) → SameLayout v w u → (items : List Item) → all_declared v items ≡ true → sum_of w items ≡ sum_of u items
same_sum v w u same [] h = refl
same_sum v w u same (i ∷ items) h = grind (arith, same (variable_of i), same_sum v w u same items)

module _ (k : Catalogue) (law : LawfulAll k) (one : k.meaning 1 ≡ plus) (two : k.meaning 2 ≡ leq) (three : k.meaning 3 ≡ same) where
  summed_laid : (v : View) (s : ℕ) (items : List Item) (P : (ℕ → ℕ) → Type 0) → Addable v (Variable s ∷ items) → Laid k v P → Laid k (summed v s items) P
  summed_laid v s [] P h l = l
  summed_laid v s (i ∷ items) P h l =
      summed_laid (with_sum v s (variable_of i)) (length v.ranges) items P (addable_on v (Variable s) i items h)
      (sum_laid k one v s (variable_of i) P h.below.0 h.below.1.0 (omega (arith, h.small)) l)

  -- the last running sum is the sum
  last_is : (w : ℕ → ℕ) (v : View) (s : ℕ) (items : List Item) → AllByRecursion (RowMet k w) (summed v s items).rows → w (last_sum v s items) ≡ w s + sum_of w items
  last_is w v s [] all = omega arith
  last_is w v s (i ∷ items) all =
      let n : ℕ = length v.ranges in
      let v' : View = with_sum v s (variable_of i) in
      let met = all_back (RowMet k w) v.rows (record { code = 1; items = Variable s ∷ Variable (variable_of i) ∷ Variable n ∷ [] } ∷ []) (rows_before (RowMet k w) v' n items all) in
      omega (arith, last_is w v' n items all, sum_from k one w s (variable_of i) n met.0)

  -- the link, whichever way round
  module _ (t target : ℕ) where
    abbrev link : Bool → List Item
    link c = cond c (Variable target ∷ Variable t ∷ []) (Variable t ∷ Variable target ∷ [])

    link_formed : (b c : Bool) → (k.meaning (cond b 3 2)).formed (link c) ≡ true
    link_formed true true = ap (λ (m : Meaning). m.formed (link true)) three
    link_formed true false = ap (λ (m : Meaning). m.formed (link false)) three
    link_formed false true = ap (λ (m : Meaning). m.formed (link true)) two
    link_formed false false = ap (λ (m : Meaning). m.formed (link false)) two

    link_there : (n : ℕ) → t < n → target < n → (c : Bool) (x : ℕ) → names (link c) x ≡ true → x < n
    link_there n ht hg true = names_below n (link true) (hg, (ht, tt))
    link_there n ht hg false = names_below n (link false) (ht, (hg, tt))

    link_meets : (w : ℕ → ℕ) (b c : Bool) → (k.meaning (cond b 3 2)).meets (link c) w ≡ cond b (eqb (w t) (w target)) (cond c (leb (w target) (w t)) (leb (w t) (w target)))
    link_meets w true true = ap (λ (m : Meaning). m.meets (link true) w) three ∙ turn (w target) (w t)
      where
        turn : (a b : ℕ) → eqb a b ≡ eqb b a
        turn a b = grind (arith, nat_tests)
    link_meets w true false = ap (λ (m : Meaning). m.meets (link false) w) three
    link_meets w false true = ap (λ (m : Meaning). m.meets (link true) w) two
    link_meets w false false = ap (λ (m : Meaning). m.meets (link false) w) two

  pub total_laid : (v : View) (relation target : ℕ) (items : List Item) (P : (ℕ → ℕ) → Type 0) → 1 ≤ length items → is_declared v target ≡ true → all_declared v items ≡ true → highs v.ranges items ≤ 255 → Laid k v P → Laid k (totalled v relation target items) (λ u. P u × (related relation (sum_of u items) (u target) ≡ true))
  total_laid v relation target [] P some goal declared small l = absurd (omega arith)
  total_laid v relation target (i ∷ items) P some goal declared small l =
      let s : ℕ = variable_of i in
      let h : Addable v (i ∷ items) = addable v l.beside (i ∷ items) declared small in
      let v' : View = summed v s items in
      let l' : Laid k v' P = summed_laid v s items P (record { below = h.below; small = h.small }) l in
      let t : ℕ = last_sum v s items in
      let still : (x : ℕ) → is_declared v x ≡ true → is_declared v' x ≡ true = declared_still v s items l.beside in
      let means : (w : ℕ → ℕ) → AllByRecursion (RowMet k w) v'.rows → (k.meaning (link_code relation)).meets (link_items relation t target) w ≡ related relation (sum_of w (i ∷ items)) (w target) =
      λ w all. link_meets t target w (eqb relation 1) (eqb relation 3) ∙ ap (λ n. related relation n (w target)) (last_is w v s items all) in
      row_laid k law v' (link_code relation) (link_items relation t target) P (λ u. related relation (sum_of u (i ∷ items)) (u target) ≡ true)
      (link_formed t target (eqb relation 1) (eqb relation 3))
      (link_there t target (length v'.ranges) (last_there v s items h.below.0) (declared_there v' l'.beside target (still target goal)) (eqb relation 3))
      (λ u w sol alike q.
      means w sol.meets
      ∙ ap (λ n. related relation n (w target)) (same_sum v w u (λ x g. alike x (still x g)) (i ∷ items) declared)
      ∙ ap (λ n. related relation (sum_of u (i ∷ items)) n) (alike target (still target goal))
      ∙ q)
      (λ w sol met. sym (means w sol.meets) ∙ met)
      l'
