-- Laws of literals and their truth. Assumes nothing.
use Rattle.std.proofs.Common.{◌≡◌, ℕ, Bool, true, false, not, ◌⊎◌, sym, refl, ap, ◌∙◌, inl, inr, arith}
use Rattle.std.proofs.Math.Bool.{not-not}
use Rattle.std.proofs.lemmas.Bool.{both_ways, cases_Bool}
use Rattle.std.proofs.lemmas.Bool.Decides.{nat_tests}
use Rattle.order.specs.Literals.{Literal, False, True, Bit, Not, opposite, same, truth}
use Rattle.order.specs.contracts.literal.LiteralPartialEq.TheImpl.{eq-value}

-- what `==` tests
pub eq_same : (x y : Literal) → eq-value.it x y ≡ same x y
eq_same x y = grind (arith, nat_tests)

pub same_itself : (x : Literal) → same x x ≡ true
same_itself x = grind (arith, nat_tests)

pub same_from_equal : (x y : Literal) → x ≡ y → same x y ≡ true
same_from_equal x y e = ap (same x) (sym e) ∙ same_itself x

pub equal_from_same : (x y : Literal) → same x y ≡ true → x ≡ y
equal_from_same x y h = grind (arith, nat_tests)

-- a test with what it tells, for `grind`
pub same_tells : (x y : Literal) → ((same x y ≡ true) × (x ≡ y)) ⊎ ((same x y ≡ false) × (x ≡ y → ⊥))
same_tells x y =
    elim (cases_Bool (same x y)) [
      | inl h ↦ inl (h, equal_from_same x y h)
      | inr h ↦ inr (h, λ e. both_ways (same x y) h (same_from_equal x y e))
    ]

pub opposite_opposite : (x : Literal) → opposite (opposite x) ≡ x
opposite_opposite x = grind arith

pub opposite_apart : (x : Literal) → opposite x ≡ x → ⊥
opposite_apart x e = grind arith

pub truth_opposite : (β : ℕ → Bool) (l : Literal) → truth β (opposite l) ≡ not (truth β l)
truth_opposite β False = refl
truth_opposite β True = refl
truth_opposite β (Bit n) = refl
truth_opposite β (Not n) = sym (not-not (β n))
