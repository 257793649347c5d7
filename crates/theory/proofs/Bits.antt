-- The bits that values give, and the values that bits give. Assumes nothing.
use Rattle.std.proofs.Common.{◌≡◌, ℕ, zero, suc, ◌+◌, ◌-◌, ◌<◌, ◌≤◌, Bool, true, false, cond, ltb, leb, List, [], ◌∷◌, length, sym, refl, ap, ◌∙◌, inl, inr, arith}
use Rattle.std.proofs.lemmas.Bool.{cases_lt, cases_eq, lt-ltb, cond-true}
use Rattle.std.proofs.lemmas.Bool.Decides.{nat_tests}
use Rattle.order.specs.declared.bound.Bound.{Bound}
use Rattle.order.specs.declared.literal.Literal.{Literal}
use Rattle.order.specs.declared.range.Range.{Range}
use Rattle.order.specs.Bounds.{reach, literal, literals, holds, InRange}
use Rattle.order.specs.Literals.{opposite, truth}
use Rattle.order.specs.Ranges.{low, high, first, total_bits}
use Rattle.order.proofs.Ranging.{first_rises}
use Rattle.order.proofs.Signs.{truth_opposite}
use Rattle.kinds.specs.Meaning.{some_holds}
use Rattle.kinds.proofs.Rows.{range_ordered}
use Rattle.theory.specs.Truth.{some_true}
use Rattle.theory.specs.Values.{value, Shows, bit_below, bits}
use Rattle.theory.proofs.Order.{absent, reach_low, reach_high, reach_inside, says_value}

module _ (rs : List Range) where
  module _ (v : ℕ → ℕ) where
    -- the bit of X(t) is true as the value reaches t
    bit_reaches : (m x t : ℕ) → x < m → low rs x < t → t ≤ high rs x → bit_below rs v m (first rs x + (t - low rs x)) ≡ leb t (v x)
    bit_reaches zero x t h l u = absurd (omega arith)
    bit_reaches (suc m) x t h l u = elim (cases_eq x m) [
      | inl e ↦ rw (← e) (grind (arith, nat_tests))
      | inr ne ↦ grind (arith, nat_tests, first_rises rs x m, bit_reaches m x t)
    ]

    -- values in range are shown by their bits
    pub bits_show : InRange rs v → Shows rs (bits rs v) v
    bits_show i x t =
        let a = i.above x in
        let b = i.below x in
        elim (cases_lt (low rs x) t) [
          | inr l ↦ grind (arith, nat_tests, reach_low rs x t l)
          | inl l ↦ elim (cases_lt (high rs x) t) [
            | inl g ↦ grind (arith, nat_tests, reach_high rs x t l g)
            | inr g ↦ ap (truth (bits rs v)) (reach_inside rs x t l g) ∙ bit_reaches (length rs) x t (there x t l g) l g
          ]
        ]
      where
        there : (x t : ℕ) → low rs x < t → t ≤ high rs x → x < (length rs)
        there x t l g = grind (arith, absent rs x)

    -- and count back to them
    pub value_bits : InRange rs v → (x : ℕ) → value rs (bits rs v) x ≡ v x
    value_bits i x = says_value rs (bits rs v) x (v x) (i.above x) (i.below x) (bits_show i x)

  module _ (β : ℕ → Bool) (v : ℕ → ℕ) (s : Shows rs β v) where
    -- bits that show values are the bits of those values
    bits_below : (m n : ℕ) → 0 < n → n ≤ first rs m → bit_below rs v m n ≡ β n
    bits_below zero n h l = absurd (omega arith)
    bits_below (suc m) n h l = elim (cases_lt (first rs m) n) [
      | inr g ↦ grind (arith, nat_tests, bits_below m n h g)
      | inl g ↦
          let t : ℕ = low rs m + (n - first rs m) in
          let e : first rs m + (t - low rs m) ≡ n = omega arith in
          cond-true _ _ _ (lt-ltb (first rs m) n g) ∙ sym (s m t) ∙ ap (truth β) (reach_inside rs m t (omega arith) (omega (arith, range_ordered rs m))) ∙ ap β e
    ]

    pub bits_again : (n : ℕ) → 0 < n → n ≤ total_bits rs → bits rs v n ≡ β n
    bits_again n h l = bits_below (length rs) n h l

    -- a bound's literal is true as the bound is
    pub truth_literal : (b : Bound) → truth β (literal rs b) ≡ holds v b
    truth_literal b =
        let x : ℕ = b.variable in
        let t : ℕ = b.at in
        signed b.opposed (reach rs x t) t (v x) (s x t)
      where
        signed : (o : Bool) (l : Literal) (t n : ℕ) → truth β l ≡ leb t n → truth β (cond o (opposite l) l) ≡ cond o (ltb n t) (leb t n)
        signed true l t n h = rw (truth_opposite β l, h) (grind (arith, nat_tests))
        signed false l t n h = h

    pub some_literals : (c : List Bound) → some_true β (literals rs c) ≡ some_holds v c
    some_literals [] = refl
    some_literals (b ∷ c) = rw (truth_literal b, some_literals c)
