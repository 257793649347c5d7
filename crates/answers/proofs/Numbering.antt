-- A number of more than five digits is no variable's. Assumes nothing.
use Rattle.std.proofs.Common.{◌≡◌, ℕ, ◌+◌, ◌-◌, ◌*◌, ◌^◌, ◌<◌, ◌≤◌, Bool, true, false, not, ◌&&◌, eqb, leb, List, [], ◌∷◌, length, refl, arith, lit<, mul-le-mul_right}
use Rattle.std.proofs.Math.Nat.{pow-le-pow_right}
use Rattle.std.proofs.lemmas.Bool.{and_parts}
use Rattle.std.proofs.lemmas.Bool.Decides.{nat_tests}
use Rattle.words.specs.Shapes.{is_digit, all_digits, digits_after, number}
use Rattle.words.proofs.Shaping.{digits_after_least}
use Rattle.answers.specs.Literals.{is_plain}

-- more than 5 digits stand for a number that no variable has
pub not_plain : (v b : ℕ) (bs : List ℕ) → v < 2 ^ 16 → 5 ≤ length bs → is_plain v (b ∷ bs) ≡ false
not_plain v b bs fits long = go (not (eqb b 48)) (all_digits (b ∷ bs)) refl refl
  where
    go : (s t : Bool) → not (eqb b 48) ≡ s → all_digits (b ∷ bs) ≡ t → (s && (t && leb (number (b ∷ bs)) v)) ≡ false
    go false t hs ht = refl
    go true false hs ht = refl
    go true true hs ht =
        let first : eqb b 48 ≡ false = grind arith in
        let digit : is_digit b ≡ true = (and_parts (is_digit b) (all_digits bs) ht).0 in
        let some : 1 ≤ 0 * 10 + (b - 48) = grind (arith, nat_tests) in
        let most : 10 ^ 5 ≤ 10 ^ length bs = pow-le-pow_right (lit< tt) long in
        let big : v < number (b ∷ bs) = omega (arith, digits_after_least (0 * 10 + (b - 48)) bs, mul-le-mul_right (10 ^ length bs) some) in
        grind (arith, nat_tests)
