-- Bits in order stand for a value, and one only. Assumes nothing.
use Rattle.std.proofs.Common.{◌≡◌, ℕ, suc, ◌+◌, ◌-◌, ◌<◌, ◌≤◌, Bool, true, ltb, leb, List, [], ◌∷◌, length, get_or, sym, refl, ap, ◌∙◌, inl, inr, arith}
use Rattle.std.specs.List.{AllByRecursion}
use Rattle.std.proofs.lemmas.List.{get_or_past}
use Rattle.std.proofs.lemmas.Bool.{cases_lt}
use Rattle.std.proofs.lemmas.Bool.Decides.{nat_tests}
use Rattle.order.specs.declared.literal.Literal.TheVariants.{False, True, Bit}
use Rattle.order.specs.declared.range.Range.{Range}
use Rattle.order.specs.Bounds.{reach, reaches, misses}
use Rattle.order.specs.Literals.{truth}
use Rattle.order.specs.Orders.{step, order}
use Rattle.order.specs.Ranges.{low, high, width, first, no_range}
use Rattle.order.proofs.Ranging.{reach_bit}
use Rattle.order.proofs.Signs.{truth_opposite}
use Rattle.ties.specs.Roots.{count_below}
use Rattle.kinds.proofs.Ranging.{all_between_from, between_all}
use Rattle.kinds.proofs.Rows.{range_ordered}
use Rattle.theory.specs.Values.{value, Says, TrueBy}
use Rattle.theory.proofs.Falling.{Falling, count_most, count_only, count_falling}

-- a variable that is not there has but one value
pub absent : (rs : List Range) (x : ℕ) → length rs ≤ x → high rs x ≡ low rs x
absent rs x h =
    let e : get_or rs x no_range ≡ no_range = get_or_past rs x no_range h in
    ap (λ (r : Range). r.high) e ∙ sym (ap (λ (r : Range). r.low) e)

module _ (rs : List Range) (x : ℕ) where
  -- the literal of a bound within the range is a bit
  pub reach_low : (t : ℕ) → t ≤ low rs x → reach rs x t ≡ True
  reach_low t h = grind (arith, nat_tests)

  pub reach_high : (t : ℕ) → low rs x < t → high rs x < t → reach rs x t ≡ False
  reach_high t l h = grind (arith, nat_tests)

  pub reach_inside : (t : ℕ) → low rs x < t → t ≤ high rs x → reach rs x t ≡ Bit (first rs x + (t - low rs x))
  reach_inside t l h = sym (reach_bit rs x t (first rs x) (low rs x) (get_or rs x no_range) refl refl refl l h)

module _ (rs : List Range) (β : ℕ → Bool) (x : ℕ) where
  -- whether the value passes low + k
  abbrev passes : ℕ → Bool
  passes k = β (first rs x + suc k)

  truth_passes : (k : ℕ) → k < width rs x → truth β (reach rs x (low rs x + suc k)) ≡ passes k
  truth_passes k l =
      let e : (low rs x + suc k) - low rs x ≡ suc k = omega arith in
      rw (reach_inside rs x (low rs x + suc k) (omega arith) (omega arith)) (ap (λ n. β (first rs x + n)) e)

  pub value_above : low rs x ≤ value rs β x
  value_above = omega arith

  pub value_below : value rs β x ≤ high rs x
  value_below = omega (arith, count_most passes (width rs x), range_ordered rs x)

  says_from : (n : ℕ) → low rs x ≤ n → n ≤ high rs x → ((k : ℕ) → k < width rs x → passes k ≡ ltb k (n - low rs x)) → Says rs β x n
  says_from n a b h t = elim (cases_lt (low rs x) t) [
    | inr l ↦ grind (arith, nat_tests, reach_low rs x t l)
    | inl l ↦ elim (cases_lt (high rs x) t) [
      | inl g ↦ grind (arith, nat_tests, reach_high rs x t l g)
      | inr g ↦
          let k : ℕ = t - suc (low rs x) in
          let e : t ≡ low rs x + suc k = omega arith in
          let q : passes k ≡ ltb k (n - low rs x) = h k (omega arith) in
          let m : ltb k (n - low rs x) ≡ leb t n = grind (arith, nat_tests) in
          ap (λ t. truth β (reach rs x t)) e ∙ truth_passes k (omega arith) ∙ q ∙ m
    ]
  ]

  says_passes : (n : ℕ) → low rs x ≤ n → n ≤ high rs x → Says rs β x n → (k : ℕ) → k < width rs x → passes k ≡ ltb k (n - low rs x)
  says_passes n a b h k l =
      let m : leb (low rs x + suc k) n ≡ ltb k (n - low rs x) = grind (arith, nat_tests) in
      sym (truth_passes k l) ∙ h (low rs x + suc k) ∙ m

  -- what says a value in range says the one that the bits count
  pub says_value : (n : ℕ) → low rs x ≤ n → n ≤ high rs x → Says rs β x n → value rs β x ≡ n
  says_value n a b h =
      let e : count_below passes (width rs x) ≡ n - low rs x = count_only passes (width rs x) (n - low rs x) (omega arith) (says_passes n a b h) in
      omega arith

  step_says : (t : ℕ) → TrueBy rs β (misses x (t + 1) ∷ reaches x t ∷ []) → truth β (reach rs x (t + 1)) ≡ true → truth β (reach rs x t) ≡ true
  step_says t h g = grind (arith, truth_opposite β (reach rs x (t + 1)))

  order_falls : AllByRecursion (TrueBy rs β) (order rs x) → Falling passes (width rs x)
  order_falls h k l p =
      let t : ℕ = low rs x + suc k in
      let e : t + 1 ≡ low rs x + suc (suc k) = omega arith in
      let c : TrueBy rs β (misses x (t + 1) ∷ reaches x t ∷ []) = (between_all (step x) (TrueBy rs β) (low rs x + 1) (high rs x) h t (omega arith) (omega arith)).0 in
      let up : truth β (reach rs x (t + 1)) ≡ true = ap (λ t. truth β (reach rs x t)) e ∙ truth_passes (suc k) l ∙ p in
      sym (truth_passes k (omega arith)) ∙ step_says t c up

  -- bits that satisfy the order clauses say the value that they count
  pub order_says : AllByRecursion (TrueBy rs β) (order rs x) → Says rs β x (value rs β x)
  order_says h =
      let c : ℕ = count_below passes (width rs x) in
      let e : c ≡ value rs β x - low rs x = omega arith in
      says_from (value rs β x) value_above value_below (λ k l. count_falling passes (width rs x) (order_falls h) k l ∙ ap (ltb k) e)

  -- and bits that say a value satisfy the order clauses
  pub says_order : (n : ℕ) → Says rs β x n → AllByRecursion (TrueBy rs β) (order rs x)
  says_order n h = all_between_from (step x) (TrueBy rs β) (low rs x + 1) (high rs x) (λ t l u. (one t, tt))
    where
      one : (t : ℕ) → TrueBy rs β (misses x (t + 1) ∷ reaches x t ∷ [])
      one t = grind (arith, nat_tests, truth_opposite β (reach rs x (t + 1)), h (t + 1), h t)
