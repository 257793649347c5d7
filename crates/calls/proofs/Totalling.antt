-- A total keeps the invariant: each sum that it adds sits, and so does its link. Assumes nothing.
use Rattle.std.proofs.Common.{◌≡◌, ℕ, ◌+◌, ◌<◌, ◌≤◌, Bool, true, false, cond, eqb, List, [], ◌∷◌, ◌++◌, length, sym, refl, subst, arith}
use Rattle.std.specs.List.{AllByRecursion}
use Rattle.std.proofs.lemmas.List.{length_push}
use Rattle.std.proofs.ByRecursion.{All-weaker}
use Rattle.order.specs.declared.range.Range.{Range}
use Rattle.kinds.specs.declared.item.Item.{Item}
use Rattle.kinds.specs.declared.item.Item.TheVariants.{Variable}
use Rattle.kinds.specs.Items.{variable_of}
use Rattle.kinds.specs.Meaning.{Apt}
use Rattle.linear.specs.Leq.{leq}
use Rattle.linear.specs.Plus.{plus}
use Rattle.linear.specs.Same.{same}
use Rattle.calls.specs.Catalogues.{Catalogue, LawfulAll}
use Rattle.calls.specs.Invariant.{Invariant}
use Rattle.calls.specs.Jobs.{Sits}
use Rattle.calls.specs.Totals.{sum_range, with_sum, summed, last_sum, link_code, link_items, totalled}
use Rattle.calls.specs.View.{View, with_variable}
use Rattle.calls.proofs.Extending.{variable_keeps, row_keeps}
use Rattle.calls.proofs.Sitting.{Below, names_below}

module _ (k : Catalogue) (law : LawfulAll k) (one : k.meaning 1 ≡ plus) (two : k.meaning 2 ≡ leq) (three : k.meaning 3 ≡ same) where
  with_sum_keeps : (v : View) (s x : ℕ) → s < length v.ranges → x < length v.ranges → Invariant k v → Invariant k (with_sum v s x)
  with_sum_keeps v s x hs hx inv =
      let r : Range = sum_range v.ranges s x in
      let items : List Item = Variable s ∷ Variable x ∷ Variable (length v.ranges) ∷ [] in
      let rs : List Range = v.ranges ++ r ∷ [] in
      let long : length rs ≡ length v.ranges + 1 = length_push v.ranges r in
      row_keeps k law (with_variable v false r) 1 items (record {
        apt = subst (λ m. Apt m items rs) (sym one) (refl, refl);
        there = names_below (length rs) items (omega arith, (omega arith, (omega arith, tt)));
      }) (variable_keeps k law v false r inv)

  -- what sums leave: the invariant, a last sum that is there, and all variables that were
  record Summed (v : View) (s : ℕ) (items : List Item) : Type 0 where
    keeps : Invariant k (summed v s items)
    last : last_sum v s items < length (summed v s items).ranges
    more : length v.ranges ≤ length (summed v s items).ranges

  sums : (v : View) (s : ℕ) (items : List Item) → s < length v.ranges → AllByRecursion (Below (length v.ranges)) items → Invariant k v → Summed v s items
  sums v s [] hs all inv = record { keeps = inv; last = hs; more = omega arith }
  sums v s (i ∷ items) hs all inv =
      let n : ℕ = length v.ranges in
      let w : View = with_sum v s (variable_of i) in
      let long : length w.ranges ≡ n + 1 = length_push v.ranges (sum_range v.ranges s (variable_of i)) in
      let rest : Summed w n items = sums w n items (omega arith) (All-weaker (Below n) (Below (length w.ranges)) (λ _ h. omega arith) items all.1) (with_sum_keeps v s (variable_of i) hs all.0 inv) in
      record { keeps = rest.keeps; last = rest.last; more = omega (arith, rest.more) }

  -- the link: equal or at most, either way round
  module _ (rs : List Range) where
    pair_apt : (b : Bool) (items : List Item) → leq.formed items ≡ true → Apt (k.meaning (cond b 3 2)) items rs
    pair_apt true items formed = subst (λ m. Apt m items rs) (sym three) (formed, refl)
    pair_apt false items formed = subst (λ m. Apt m items rs) (sym two) (formed, refl)

    pair_sits : (b : Bool) (x y : ℕ) → x < length rs → y < length rs → Sits k.meaning rs (record { code = cond b 3 2; items = Variable x ∷ Variable y ∷ [] })
    pair_sits b x y hx hy = record {
      apt = pair_apt b (Variable x ∷ Variable y ∷ []) refl;
      there = names_below (length rs) (Variable x ∷ Variable y ∷ []) (hx, (hy, tt));
    }

    link_sits : (b c : Bool) (t target : ℕ) → t < length rs → target < length rs → Sits k.meaning rs (record { code = cond b 3 2; items = cond c (Variable target ∷ Variable t ∷ []) (Variable t ∷ Variable target ∷ []) })
    link_sits b true t target ht hg = pair_sits b target t hg ht
    link_sits b false t target ht hg = pair_sits b t target ht hg

  pub totalled_keeps : (v : View) (relation target : ℕ) (items : List Item) → target < length v.ranges → AllByRecursion (Below (length v.ranges)) items → Invariant k v → Invariant k (totalled v relation target items)
  totalled_keeps v relation target [] hg all inv = inv
  totalled_keeps v relation target (i ∷ items) hg all inv =
      let s : Summed v (variable_of i) items = sums v (variable_of i) items all.0 all.1 inv in
      let w : View = summed v (variable_of i) items in
      let t : ℕ = last_sum v (variable_of i) items in
      row_keeps k law w (link_code relation) (link_items relation t target)
      (link_sits w.ranges (eqb relation 1) (eqb relation 3) t target s.last (omega (arith, s.more)))
      s.keeps
