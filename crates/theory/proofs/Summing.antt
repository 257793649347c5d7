-- Hidden variables have the sums for values, and no others. Assumes nothing.
use Rattle.std.proofs.Common.{◌≡◌, ℕ, zero, suc, ◌+◌, ◌<◌, ◌≤◌, true, false, ◌⊎◌, List, [], ◌∷◌, ◌++◌, length, get_or, take, sum_by, sym, refl, ap, ◌∙◌, subst, inl, inr, add-zero, arith}
use mathlib.Core.Path.{fun_ext}
use Rattle.std.specs.List.{ContainsAt, AllByRecursion}
use Rattle.std.proofs.lemmas.List.Sums.{sum_by-cons, sum_by-append, sum_by_more}
use Rattle.std.proofs.lemmas.List.{take_all}
use Rattle.std.proofs.ByRecursion.{all-has, All-weaker, All-get_or}
use Rattle.std.proofs.lemmas.Bool.{cases_Bool, cases_eq, eq-eqb, eqb-true, cond-true, cond-false}
use Rattle.order.specs.Bounds.{InRange}
use Rattle.order.specs.Ranges.{low, high}
use Rattle.theory.specs.Rows.{Row}
use Rattle.theory.specs.Jobs.{Job, Solves}
use Rattle.theory.specs.Hidden.{Sums, terms_by, terms, full, SameLayout, SumsUp, Layout, ExtendOnce, Chain}

module _ (s : Sums) where
  -- what holds of the variables that are not hidden, and of a sum where it holds of its two parts, holds of each
  module _ (P : ℕ → Type 0) (plain : (x : ℕ) → s.hidden x ≡ false → P x) (sum : (x : ℕ) → s.hidden x ≡ true → P (s.left x) → P (s.right x) → P x) where
    upto : (n x : ℕ) → x < n → P x
    upto zero x l = absurd (none x l)
      where
        none : (x : ℕ) → x < 0 → ⊥
        none x l = omega arith
    upto (suc n) x l = elim (cases_Bool (s.hidden x)) [
      | inl h ↦ sum x h (upto n (s.left x) (omega (arith, s.left_before x h))) (upto n (s.right x) (omega (arith, s.right_before x h)))
      | inr h ↦ plain x h
    ]

    pub by_sums : (x : ℕ) → P x
    by_sums x = upto (suc x) x (omega arith)

  -- x sums suffice to find the variables that x sums up
  terms_more : (n x : ℕ) → x ≤ n → terms_by s (suc n) x ≡ terms_by s n x
  terms_more zero x l = elim (cases_Bool (s.hidden x)) [
    | inl h ↦ absurd (omega (arith, s.left_before x h))
    | inr h ↦ cond-false _ _ _ h
  ]
  terms_more (suc n) x l = elim (cases_Bool (s.hidden x)) [
    | inl h ↦
        let p = terms_more n (s.left x) (omega (arith, s.left_before x h)) in
        let q = terms_more n (s.right x) (omega (arith, s.right_before x h)) in
        cond-true _ _ _ h ∙ ap (λ ts. ts ++ terms_by s (suc n) (s.right x)) p ∙ ap (λ ts. terms_by s n (s.left x) ++ ts) q ∙ sym (cond-true _ _ _ h)
    | inr h ↦ cond-false _ _ _ h ∙ sym (cond-false _ _ _ h)
  ]

  terms_stay : (n x : ℕ) → x ≤ n → terms_by s n x ≡ terms s x
  terms_stay zero x l = let e : x ≡ 0 = omega arith in rw e
  terms_stay (suc n) x l = elim (cases_eq x (suc n)) [
    | inl e ↦ rw e
    | inr ne ↦ terms_more n x (omega arith) ∙ terms_stay n x (omega arith)
  ]

  -- the terms of a sum
  pub terms_sum : (x : ℕ) → s.hidden x ≡ true → terms s x ≡ terms s (s.left x) ++ terms s (s.right x)
  terms_sum zero h = absurd (omega (arith, s.left_before zero h))
  terms_sum (suc x) h =
      let p = terms_stay x (s.left (suc x)) (omega (arith, s.left_before (suc x) h)) in
      let q = terms_stay x (s.right (suc x)) (omega (arith, s.right_before (suc x) h)) in
      cond-true _ _ _ h ∙ ap (λ ts. ts ++ terms_by s x (s.right (suc x))) p ∙ ap (λ ts. terms s (s.left (suc x)) ++ ts) q

  -- a variable that is not hidden is its own sum
  pub terms_plain : (x : ℕ) → s.hidden x ≡ false → terms s x ≡ x ∷ []
  terms_plain zero h = refl
  terms_plain (suc x) h = cond-false _ _ _ h

  module _ (v : ℕ → ℕ) where
    pub full_plain : (x : ℕ) → s.hidden x ≡ false → full s v x ≡ v x
    full_plain x h = ap (sum_by v) (terms_plain x h) ∙ sum_by-cons v x [] ∙ add-zero (v x)

    pub full_sum : (x : ℕ) → s.hidden x ≡ true → full s v x ≡ full s v (s.left x) + full s v (s.right x)
    full_sum x h = ap (sum_by v) (terms_sum x h) ∙ sum_by-append v (terms s (s.left x)) (terms s (s.right x))

  module _ (others : List Row) (plus : ℕ → Row) (j : Job) (adds : SumsUp s others plus j) where
    full_in_range : (v : ℕ → ℕ) → Layout s others j v → InRange j.ranges (full s v)
    full_in_range v lay = record {
      above = by_sums (λ x. low j.ranges x ≤ full s v x)
          (λ x h. omega (arith, full_plain v x h, lay.above x h))
          (λ x h l r. omega (arith, full_sum v x h, adds.lows x h));
      below = by_sums (λ x. full s v x ≤ high j.ranges x)
          (λ x h. omega (arith, full_plain v x h, lay.below x h))
          (λ x h l r. omega (arith, full_sum v x h, adds.highs x h));
    }

    solved_sums : (v : ℕ → ℕ) → Solves j v → (x : ℕ) → s.hidden x ≡ true → v (s.left x) + v (s.right x) ≡ v x
    solved_sums v sol x h = eqb-true _ _ (sym (adds.sums x v h) ∙ all-has (λ w. w.meets v ≡ true) j.rows (plus x) sol.meets (adds.has_sums x h))

    -- a solution's hidden values are the sums of any values that have its layout
    sums_only : (u v : ℕ → ℕ) → Solves j u → SameLayout s u v → (x : ℕ) → u x ≡ full s v x
    sums_only u v sol same = by_sums (λ x. u x ≡ full s v x)
        (λ x h. same x h ∙ sym (full_plain v x h))
        (λ x h l r. omega (arith, full_sum v x h, solved_sums u sol x h))

    met : (v : ℕ → ℕ) → Layout s others j v → (w : Row) → ContainsAt others w ⊎ ((x : ℕ) × (s.hidden x ≡ true) × (plus x ≡ w)) → w.meets (full s v) ≡ true
    met v lay w (inl h) = all-has (λ w. w.meets (full s v) ≡ true) others w lay.meets h
    met v lay w (inr h) = subst (λ w. w.meets (full s v) ≡ true) h.2 (adds.sums h.0 (full s v) h.1 ∙ eq-eqb _ _ (sym (full_sum v h.0 h.1)))

    -- a layout extends to a solution in exactly one way
    pub extend_once : ExtendOnce s others j
    extend_once = record {
      extends = λ v lay. record {
        in_range = full_in_range v lay;
        meets = All-weaker (λ w. ContainsAt others w ⊎ ((x : ℕ) × (s.hidden x ≡ true) × (plus x ≡ w))) (λ w. w.meets (full s v) ≡ true) (met v lay) j.rows adds.no_more;
      };
      keeps = full_plain;
      layout = λ v sol. record {
        above = λ x _. sol.in_range.above x;
        below = λ x _. sol.in_range.below x;
        meets =
            let e : v ≡ full s v = fun_ext (sums_only v v sol (λ x _. refl)) in
            subst (λ u. AllByRecursion (λ w. w.meets u ≡ true) others) e (All-weaker (ContainsAt j.rows) (λ w. w.meets v ≡ true) (λ w. all-has (λ w. w.meets v ≡ true) j.rows w sol.meets) others adds.has_others);
      };
      only = sums_only;
    }

  -- the last of a chain has the whole sum
  module _ (h : ℕ) (xs : List ℕ) (c : Chain s h xs) (v : ℕ → ℕ) where
    each_plain : (k : ℕ) → k < length xs → full s v (get_or xs k 0) ≡ v (get_or xs k 0)
    each_plain k l = full_plain v (get_or xs k 0) (All-get_or (λ x. s.hidden x ≡ false) xs k 0 l c.plain)

    pub chain_sum : (k : ℕ) → k + 1 < length xs → full s v (h + k) ≡ sum_by v (take (k + 2) xs)
    chain_sum zero g =
        let l : full s v (s.left (h + 0)) ≡ v (get_or xs 0 0) = ap (λ i. full s v (s.left i)) (add-zero h) ∙ ap (full s v) (c.start (omega arith)) ∙ each_plain 0 (omega arith) in
        let r : full s v (s.right (h + 0)) ≡ v (get_or xs 1 0) = ap (full s v) (c.each 0 g) ∙ each_plain 1 (omega arith) in
        let e = full_sum v (h + 0) (c.sums 0 g) in
        let p = sum_by_more v xs 0 0 (omega arith) in
        let q = sum_by_more v xs 1 0 (omega arith) in
        let z : sum_by v (take 0 xs) ≡ 0 = refl in
        omega arith
    chain_sum (suc k) g =
        let n : h + suc k ≡ h + k + 1 = omega arith in
        let l : full s v (s.left (h + suc k)) ≡ sum_by v (take (k + 2) xs) = ap (λ i. full s v (s.left i)) n ∙ ap (full s v) (c.next k (omega arith)) ∙ chain_sum k (omega arith) in
        let r : full s v (s.right (h + suc k)) ≡ v (get_or xs (suc k + 1) 0) = ap (full s v) (c.each (suc k) g) ∙ each_plain (suc k + 1) (omega arith) in
        let e = full_sum v (h + suc k) (c.sums (suc k) g) in
        let i : k + 2 ≡ suc k + 1 = omega arith in
        let p : sum_by v (take (suc k + 2) xs) ≡ sum_by v (take (k + 2) xs) + v (get_or xs (suc k + 1) 0) =
        ap (λ m. sum_by v (take m xs)) (omega arith) ∙ sum_by_more v xs (k + 2) 0 (omega arith) ∙ ap (λ m. sum_by v (take (k + 2) xs) + v (get_or xs m 0)) i in
        omega arith

    pub chain_total : (k : ℕ) → k + 2 ≡ length xs → full s v (h + k) ≡ sum_by v xs
    chain_total k e = chain_sum k (omega arith) ∙ ap (sum_by v) (take_all (k + 2) xs (omega arith))
