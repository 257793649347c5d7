-- The numbers that an inclusive range gives. Assumes nothing.
use Rattle.std.proofs.Common.{◌≡◌, ℕ, zero, suc, ◌+◌, ◌-◌, ◌⊎◌, false, inl, inr, ap, ◌∙◌, refl, arith}
use Rattle.std.proofs.lemmas.Bool.{cases_Bool}
use Rattle.std.proofs.lemmas.Iterator.{YieldsList}
use Rattle.std.specs.Iterator.{AlwaysYields}
use Rattle.std.specs.List.{range_with_len}
use Rattle.std.specs.Range.{range_inclusive_len, range_inclusive_left, range_inclusive_steps}
use Rattle.std.specs.declared.ops.RangeInclusive.{RangeInclusive}

abbrev left : RangeInclusive ℕ → ℕ
left r = range_inclusive_left (λ a b. b - a) r

-- a range that has a number left is not exhausted
not_exhausted : (r : RangeInclusive ℕ) (m : ℕ) → left r ≡ suc m → r.exhausted ≡ false
not_exhausted r m e = elim (cases_Bool r.exhausted) [ inl q ↦ absurd (omega (arith, e, ap (range_inclusive_len (λ a b. b - a) r.start r.end) q)) | inr q ↦ q ]

gives : (n a : ℕ) (r : RangeInclusive ℕ) → left r ≡ n → (n ≡ 0) ⊎ (r.start ≡ a) → AlwaysYields (range_inclusive_steps (λ a b. b - a) (λ a b. b ≡ a + 1)) (λ x. x) r (range_with_len a n)
gives zero a r e h = λ x j steps. omega (arith, steps.1.1)
gives (suc n) a r e h = (
  (λ j steps. omega (arith, steps.1.0)),
  λ x j steps.
      let here : r.start ≡ a = elim h [ inl q ↦ absurd (omega arith) | inr q ↦ q ] in (
        steps.1.0 ∙ here,
        gives n (a + 1) j (omega (arith, steps.1.1)) (later n j (omega (arith, steps.1.1)) (λ q. steps.1.2 q ∙ ap (λ k. k + 1) here)),
      ),
)
  where
    later : (m : ℕ) (j : RangeInclusive ℕ) → left j ≡ m → (j.exhausted ≡ false → j.start ≡ a + 1) → (m ≡ 0) ⊎ (j.start ≡ a + 1)
    later zero j q next = inl refl
    later (suc m) j q next = inr (next (not_exhausted j m q))

-- one that has just been made: from a on, and below b
pub YieldsList-from_inclusive : {r : RangeInclusive ℕ} (a b : ℕ) → r.start ≡ a → r.end + 1 ≡ b → r.exhausted ≡ false → YieldsList (range_inclusive_steps (λ x y. y - x) (λ x y. y ≡ x + 1)) (λ x. x) r (range_with_len a (b - a))
YieldsList-from_inclusive {r} a b e q fresh =
    let all : left r ≡ b - a = omega (arith, ap (range_inclusive_len (λ x y. y - x) r.start r.end) fresh) in
    record { runs = gives (b - a) a r all (inr e) }
