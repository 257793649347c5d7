-- The free bits and their numbers in the file, one for one. Assumes nothing.
use Rattle.std.proofs.Common.{◌≡◌, ℕ, zero, suc, ◌<◌, ◌≤◌, cond, ◌&&◌, eqb, sym, refl, ap, ◌∙◌, subst, inl, inr, arith}
use Rattle.std.proofs.lemmas.Bool.Decides.{nat_tests}
use Rattle.std.proofs.lemmas.Bool.{cases_Bool, cases_eq, cond-false}
use Rattle.order.specs.declared.literal.Literal.{Literal}
use Rattle.order.specs.declared.literal.Literal.TheVariants.{Bit}
use Rattle.order.proofs.Signs.{equal_from_same, same_from_equal}
use Rattle.ties.specs.Roots.{own, free_to}
use Rattle.ties.proofs.Counts.{one_if}
use Rattle.cnf.proofs.Proper.{free_steps}

-- the last free bit of 1 to n with the number m; 0 where there is none
abbrev pub bit_numbered : (ℕ → Literal) → ℕ → ℕ → ℕ
bit_numbered f m zero = 0
bit_numbered f m (suc n) = cond (own f (suc n) && eqb (free_to f (suc n)) m) (suc n) (bit_numbered f m n)

-- a bit with a number of the file
pub record Numbered (f : ℕ → Literal) (n m k : ℕ) : Type 0 where
  pub some : 0 < k
  pub within : k ≤ n
  pub own : f k ≡ Bit k
  pub number : free_to f k ≡ m

module _ (f : ℕ → Literal) where
  -- the bit that has a free bit's number is that bit
  pub bit_of_number : (n k : ℕ) → 0 < k → k ≤ n → f k ≡ Bit k → bit_numbered f (free_to f k) n ≡ k
  bit_of_number zero k h l e = absurd (omega arith)
  bit_of_number (suc n) k h l e = elim (cases_eq k (suc n)) [
    | inl i ↦ subst (λ j. bit_numbered f (free_to f j) (suc n) ≡ j) (sym i) (grind (arith, nat_tests, same_from_equal (f (suc n)) (Bit (suc n)) (subst (λ j. f j ≡ Bit j) i e)))
    | inr ne ↦ grind (arith, nat_tests, free_steps f k n, bit_of_number n k h)
  ]

  -- what is numbered among the bits 1 to n is so among more
  later : (n m : ℕ) → (k : ℕ) × Numbered f n m k → (k : ℕ) × Numbered f (suc n) m k
  later n m s = (s.0, record { some = s.1.some; within = omega arith; own = s.1.own; number = s.1.number })

  -- each number up to that of all free bits is that of one
  pub number_of_bit : (n m : ℕ) → 1 ≤ m → m ≤ free_to f n → (k : ℕ) × Numbered f n m k
  number_of_bit zero m h l = absurd (omega arith)
  number_of_bit (suc n) m h l = elim (cases_Bool (own f (suc n))) [
    | inl o ↦ elim (cases_eq m (free_to f (suc n))) [
      | inl i ↦ (suc n, record { some = omega arith; within = omega arith; own = equal_from_same (f (suc n)) (Bit (suc n)) o; number = sym i })
      | inr ne ↦ later n m (number_of_bit n m h (omega (arith, ap one_if o)))
    ]
    | inr o ↦ later n m (number_of_bit n m h (omega (arith, ap one_if o)))
  ]

  -- where no free bit has the number m, none is found
  pub none_numbered : (n m : ℕ) → ((k : ℕ) → Numbered f n m k → ⊥) → bit_numbered f m n ≡ 0
  none_numbered zero m h = refl
  none_numbered (suc n) m h = elim (cases_Bool (own f (suc n) && eqb (free_to f (suc n)) m)) [
    | inl e ↦ absurd (h (suc n) (record { some = omega arith; within = omega arith; own = grind (arith, equal_from_same (f (suc n)) (Bit (suc n))); number = grind (arith, nat_tests) }))
    | inr e ↦ cond-false _ _ _ e ∙ none_numbered n m (λ k s. let t = later n m (k, s) in h t.0 t.1)
  ]
