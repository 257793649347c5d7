-- A job whose declared variables fix all others: what one more variable, sum or row leaves of it. Assumes nothing.
use Rattle.std.proofs.Common.{◌≡◌, ℕ, ◌+◌, ◌<◌, ◌≤◌, Bool, true, false, cond, eqb, List, [], ◌∷◌, ◌++◌, length, sym, refl, ap, ◌∙◌, subst, inl, inr, arith}
use Rattle.std.specs.List.{AllByRecursion}
use Rattle.std.proofs.lemmas.List.{length_push, get_or_append_left, get_or_push}
use Rattle.std.proofs.ByRecursion.{All-push}
use Rattle.std.proofs.lemmas.Bool.Decides.{nat_tests}
use Rattle.std.proofs.lemmas.Bool.{false≢true, cases_lt, and_from, eq-eqb, eqb-true}
use Rattle.order.specs.declared.range.Range.{Range}
use Rattle.order.specs.Ranges.{low, high, no_range}
use Rattle.kinds.specs.declared.item.Item.{Item}
use Rattle.kinds.specs.declared.item.Item.TheVariants.{Variable}
use Rattle.kinds.specs.Items.{names}
use Rattle.kinds.specs.Meaning.{Meaning}
use Rattle.linear.specs.Plus.{plus}
use Rattle.rows.specs.Rows.{Posted}
use Rattle.theory.proofs.Growing.{low_more, high_more}
use Rattle.theory.proofs.Stretches.{all_front, all_back}
use Rattle.calls.specs.Catalogues.{Catalogue, LawfulAll}
use Rattle.calls.specs.Totals.{sum_range, with_sum}
use Rattle.calls.specs.View.{View, with_variable, with_row, is_declared}
use Rattle.calls.proofs.Sitting.{declared_below}
use Rattle.promise.specs.Layouts.{SameLayout}

-- the first n variables have the same values
abbrev pub Alike : ℕ → (ℕ → ℕ) → (ℕ → ℕ) → Type 0
Alike n w w' = (x : ℕ) → x < n → w x ≡ w' x

abbrev pub RowMet : Catalogue → (ℕ → ℕ) → Posted → Type 0
RowMet k w p = (k.meaning p.code).meets p.items w ≡ true

-- the variables that are there have values in range, and each row is met
pub record Solved (k : Catalogue) (rs : List Range) (ps : List Posted) (w : ℕ → ℕ) : Type 0 where
  pub inside : (x : ℕ) → x < length rs → (low rs x ≤ w x) × (w x ≤ high rs x)
  pub meets : AllByRecursion (RowMet k w) ps

abbrev pub Inside : View → (ℕ → ℕ) → Type 0
Inside v u = (x : ℕ) → is_declared v x ≡ true → (low v.ranges x ≤ u x) × (u x ≤ high v.ranges x)

-- the layouts with P are those of the solutions, each of exactly one
pub record Laid (k : Catalogue) (v : View) (P : (ℕ → ℕ) → Type 0) : Type 0 where
  pub beside : length v.declared ≡ length v.ranges
  -- rows name no variable that is not there
  pub stays : (w w' : ℕ → ℕ) → Alike (length v.ranges) w w' → AllByRecursion (RowMet k w) v.rows → AllByRecursion (RowMet k w') v.rows
  pub extends : (u : ℕ → ℕ) → Inside v u → P u → (w : ℕ → ℕ) × (Solved k v.ranges v.rows w × SameLayout v w u)
  pub holds : (w : ℕ → ℕ) → Solved k v.ranges v.rows w → P w
  pub only : (w w' : ℕ → ℕ) → Solved k v.ranges v.rows w → Solved k v.ranges v.rows w' → SameLayout v w w' → Alike (length v.ranges) w w'

pub laid_as : {k : Catalogue} {v : View} (P Q : (ℕ → ℕ) → Type 0) → ((u : ℕ → ℕ) → Q u → P u) → ((u : ℕ → ℕ) → P u → Q u) → Laid k v P → Laid k v Q
laid_as P Q back on l = record {
  beside = l.beside;
  stays = l.stays;
  extends = λ u i q. l.extends u i (back u q);
  holds = λ w s. on w (l.holds w s);
  only = l.only;
}

-- a declared variable is there
pub declared_there : (v : View) → length v.declared ≡ length v.ranges → (x : ℕ) → is_declared v x ≡ true → x < length v.ranges
declared_there v beside x h = (declared_below v beside (Variable x ∷ []) (and_from (is_declared v x) true h refl)).0

-- values, with another at h
abbrev changed : (ℕ → ℕ) → ℕ → ℕ → ℕ → ℕ
changed w h n x = cond (eqb x h) n (w x)

changed_before : (w : ℕ → ℕ) (h n : ℕ) → Alike h w (changed w h n)
changed_before w h n x l = grind (arith, nat_tests)

changed_here : (w : ℕ → ℕ) (h n : ℕ) → changed w h n h ≡ n
changed_here w h n = grind (arith, nat_tests)

-- a row more
module _ (k : Catalogue) (rs : List Range) (ps : List Posted) (p : Posted) (w : ℕ → ℕ) where
  solved_front : Solved k rs (ps ++ p ∷ []) w → Solved k rs ps w
  solved_front s = record { inside = s.inside; meets = all_front (RowMet k w) ps (p ∷ []) s.meets }

  solved_last : Solved k rs (ps ++ p ∷ []) w → RowMet k w p
  solved_last s = (all_back (RowMet k w) ps (p ∷ []) s.meets).0

  solved_push : Solved k rs ps w → RowMet k w p → Solved k rs (ps ++ p ∷ []) w
  solved_push s met = record { inside = s.inside; meets = All-push (RowMet k w) ps p s.meets met }

module _ (k : Catalogue) (law : LawfulAll k) (v : View) (code : ℕ) (items : List Item) where
  abbrev row : Posted
  row = record { code = code; items = items }

  -- it is met by the solutions of the layouts with Q
  module _ (P Q : (ℕ → ℕ) → Type 0)
      (formed : (k.meaning code).formed items ≡ true)
      (there : (x : ℕ) → names items x ≡ true → x < length v.ranges)
      (met : (u w : ℕ → ℕ) → Solved k v.ranges v.rows w → SameLayout v w u → Q u → RowMet k w row)
      (shows : (w : ℕ → ℕ) → Solved k v.ranges v.rows w → RowMet k w row → Q w) where
    pub row_laid : Laid k v P → Laid k (with_row v code items) (λ u. P u × Q u)
    row_laid l = record {
      beside = l.beside;
      stays = λ w w' same all. All-push (RowMet k w') v.rows row
          (l.stays w w' same (all_front (RowMet k w) v.rows (row ∷ []) all))
          (sym ((law code).same_meets items w w' formed (λ x h. same x (there x h))) ∙ (all_back (RowMet k w) v.rows (row ∷ []) all).0);
      extends = λ u i p.
          let e = l.extends u i p.0 in
          (e.0, (solved_push k v.ranges v.rows row e.0 e.1.0 (met u e.0 e.1.0 e.1.1 p.1), e.1.1));
      holds = λ w s.
          let front = solved_front k v.ranges v.rows row w s in
          (l.holds w front, shows w front (solved_last k v.ranges v.rows row w s));
      only = λ w w' s s'. l.only w w' (solved_front k v.ranges v.rows row w s) (solved_front k v.ranges v.rows row w' s');
    }

-- a variable more
module _ (v : View) (d : Bool) (r : Range) (beside : length v.declared ≡ length v.ranges) where
  abbrev h : ℕ
  h = length v.ranges

  abbrev rs : List Range
  rs = v.ranges ++ r ∷ []

  pub beside_more : length (v.declared ++ d ∷ []) ≡ length rs
  beside_more = omega (arith, length_push v.declared d, length_push v.ranges r, beside)

  -- it is the last
  each : (F : ℕ → Type 0) → ((x : ℕ) → x < h → F x) → F h → (x : ℕ) → x < length rs → F x
  each F before here x l = elim (cases_lt x h) [
    | inl b ↦ before x b
    | inr b ↦ let e : h ≡ x = omega (arith, length_push v.ranges r) in subst F e here
  ]

  -- the others are declared as they were
  before_declared : (x : ℕ) → x < h → is_declared (with_variable v d r) x ≡ is_declared v x
  before_declared x l = get_or_append_left v.declared (d ∷ []) false x (omega arith)

  here_declared : is_declared (with_variable v d r) h ≡ d
  here_declared = get_or_push v.declared d false h beside

  pub declared_more : (x : ℕ) → is_declared v x ≡ true → is_declared (with_variable v d r) x ≡ true
  declared_more x g = before_declared x (declared_there v beside x g) ∙ g

  inside_before : (u : ℕ → ℕ) → Inside (with_variable v d r) u → Inside v u
  inside_before u i x g =
      let l : x < h = declared_there v beside x g in
      let b = i x (declared_more x g) in
      (omega (arith, b.0, low_more v.ranges (r ∷ []) x l), omega (arith, b.1, high_more v.ranges (r ∷ []) x l))

  here_low : low rs h ≡ r.low
  here_low = ap (λ (q : Range). q.low) (get_or_push v.ranges r no_range h refl)

  here_high : high rs h ≡ r.high
  here_high = ap (λ (q : Range). q.high) (get_or_push v.ranges r no_range h refl)

  -- two layouts are one where they are before it, and it is the same where it is declared
  same_more : (w u : ℕ → ℕ) → SameLayout v w u → (d ≡ true → w h ≡ u h) → SameLayout (with_variable v d r) w u
  same_more w u same here x g =
      each (λ y. is_declared (with_variable v d r) y ≡ true → w y ≡ u y)
      (λ y l e. same y (sym (before_declared y l) ∙ e))
      (λ e. here (sym here_declared ∙ e))
      x (declared_there (with_variable v d r) beside_more x g) g

  module _ (k : Catalogue) where
    solved_before : (w : ℕ → ℕ) → Solved k rs v.rows w → Solved k v.ranges v.rows w
    solved_before w s = record {
      inside = λ x l.
          let b = s.inside x (omega (arith, length_push v.ranges r)) in
          (omega (arith, b.0, low_more v.ranges (r ∷ []) x l), omega (arith, b.1, high_more v.ranges (r ∷ []) x l));
      meets = s.meets;
    }

    module _ (P : (ℕ → ℕ) → Type 0) (l : Laid k v P) where
      -- it takes any value in range
      solved_more : (w : ℕ → ℕ) (n : ℕ) → r.low ≤ n → n ≤ r.high → Solved k v.ranges v.rows w → Solved k rs v.rows (changed w h n)
      solved_more w n above below s = record {
        inside = each (λ x. (low rs x ≤ changed w h n x) × (changed w h n x ≤ high rs x))
            (λ x b.
            let e : w x ≡ changed w h n x = changed_before w h n x b in
            (omega (arith, (s.inside x b).0, low_more v.ranges (r ∷ []) x b, e), omega (arith, (s.inside x b).1, high_more v.ranges (r ∷ []) x b, e)))
            (omega (arith, here_low, changed_here w h n), omega (arith, here_high, changed_here w h n));
        meets = l.stays w (changed w h n) (changed_before w h n) s.meets;
      }

      stays_more : (w w' : ℕ → ℕ) → Alike (length rs) w w' → AllByRecursion (RowMet k w) v.rows → AllByRecursion (RowMet k w') v.rows
      stays_more w w' same = l.stays w w' (λ x b. same x (omega (arith, length_push v.ranges r)))

      -- the layout of a solution with one value more
      same_changed : (w u : ℕ → ℕ) (n : ℕ) → SameLayout v w u → (d ≡ true → n ≡ u h) → SameLayout (with_variable v d r) (changed w h n) u
      same_changed w u n same here = same_more (changed w h n) u
          (λ x g. sym (changed_before w h n x (declared_there v beside x g)) ∙ same x g)
          (λ e. changed_here w h n ∙ here e)

      only_before : (w w' : ℕ → ℕ) → Solved k rs v.rows w → Solved k rs v.rows w' → SameLayout (with_variable v d r) w w' → Alike h w w'
      only_before w w' s s' same = l.only w w' (solved_before w s) (solved_before w' s') (λ x g. same x (declared_more x g))

pub declared_laid : (k : Catalogue) (v : View) (r : Range) (P : (ℕ → ℕ) → Type 0) → Laid k v P → Laid k (with_variable v true r) P
declared_laid k v r P l =
    let e : length v.declared ≡ length v.ranges = l.beside in
    let n : ℕ = length v.ranges in
    let here : is_declared (with_variable v true r) n ≡ true = here_declared v true r e in
    record {
      beside = beside_more v true r e;
      stays = stays_more v true r e k P l;
      extends = λ u i p.
          let o = l.extends u (inside_before v true r e u i) p in (
            changed o.0 n (u n),
            (
              solved_more v true r e k P l o.0 (u n) (omega (arith, (i n here).0, here_low v true r e)) (omega (arith, (i n here).1, here_high v true r e)) o.1.0,
              same_changed v true r e k P l o.0 u (u n) o.1.1 (λ _. refl),
            ),
          );
      holds = λ w s. l.holds w (solved_before v true r e k w s);
      only = λ w w' s s' same. each v true r e (λ x. w x ≡ w' x) (only_before v true r e k P l w w' s s' same) (same n here);
    }

-- a hidden variable that is the sum of two
module _ (k : Catalogue) (one : k.meaning 1 ≡ plus) where
  pub sum_from : (w : ℕ → ℕ) (s x y : ℕ) → RowMet k w (record { code = 1; items = Variable s ∷ Variable x ∷ Variable y ∷ [] }) → w y ≡ w s + w x
  sum_from w s x y met = sym (eqb-true (w s + w x) (w y) (sym (ap (λ (m : Meaning). m.meets (Variable s ∷ Variable x ∷ Variable y ∷ []) w) one) ∙ met))

  sum_met : (w : ℕ → ℕ) (s x y : ℕ) → w y ≡ w s + w x → RowMet k w (record { code = 1; items = Variable s ∷ Variable x ∷ Variable y ∷ [] })
  sum_met w s x y e = ap (λ (m : Meaning). m.meets (Variable s ∷ Variable x ∷ Variable y ∷ []) w) one ∙ eq-eqb (w s + w x) (w y) (sym e)

  pub sum_laid : (v : View) (s x : ℕ) (P : (ℕ → ℕ) → Type 0) → s < length v.ranges → x < length v.ranges → high v.ranges s + high v.ranges x ≤ 255 → Laid k v P → Laid k (with_sum v s x) P
  sum_laid v s x P hs hx small l =
      let e : length v.declared ≡ length v.ranges = l.beside in
      let n : ℕ = length v.ranges in
      let r : Range = sum_range v.ranges s x in
      let row : Posted = record { code = 1; items = Variable s ∷ Variable x ∷ Variable n ∷ [] } in
      let more : List Range = v.ranges ++ r ∷ [] in
      let long : length more ≡ n + 1 = length_push v.ranges r in
      let front = solved_front k more v.rows row in
      let adds : (w : ℕ → ℕ) → AllByRecursion (RowMet k w) (v.rows ++ row ∷ []) → w n ≡ w s + w x =
      λ w all. sum_from w s x n (all_back (RowMet k w) v.rows (row ∷ []) all).0 in
      record {
        beside = beside_more v false r e;
        stays = λ w w' same all. All-push (RowMet k w') v.rows row
            (stays_more v false r e k P l w w' same (all_front (RowMet k w) v.rows (row ∷ []) all))
            (sum_met w' s x n (omega (arith, adds w all, same n (omega arith), same s (omega arith), same x (omega arith))));
        extends = λ u i p.
            let o = l.extends u (inside_before v false r e u i) p in
            let w : ℕ → ℕ = o.0 in
            let m : ℕ = w s + w x in
            let w' : ℕ → ℕ = changed w n m in
            let sol : Solved k more v.rows w' = solved_more v false r e k P l w m
            (omega (arith, (o.1.0.inside s hs).0, (o.1.0.inside x hx).0))
            (omega (arith, (o.1.0.inside s hs).1, (o.1.0.inside x hx).1)) o.1.0 in (
              w',
              (
                solved_push k more v.rows row w' sol (sum_met w' s x n (omega (arith, changed_here w n m, changed_before w n m s hs, changed_before w n m x hx))),
                same_changed v false r e k P l w u m o.1.1 (λ z. absurd (false≢true z)),
              ),
            );
        holds = λ w o. l.holds w (solved_before v false r e k w (front w o));
        only = λ w w' o o' same.
            let before = only_before v false r e k P l w w' (front w o) (front w' o') same in
            each v false r e (λ y. w y ≡ w' y) before (omega (arith, adds w o.meets, adds w' o'.meets, before s hs, before x hx));
      }
