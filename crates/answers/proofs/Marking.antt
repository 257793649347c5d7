-- Marks of numbers, as literals are read. Assumes nothing.
use Rattle.std.proofs.Common.{◌≡◌, ℕ, ◌<◌, Bool, true, false, cond, not, eqb, List, [], ◌∷◌, length, get_or, drop, refl, arith}
use Rattle.std.proofs.lemmas.Bool.Decides.{nat_tests}
use Rattle.sink.specs.declared.lit.Lit.{Lit}
use Rattle.answers.specs.declared.assignment.Mark.{Mark}
use Rattle.answers.specs.declared.assignment.Mark.TheVariants.{Absent, Set, Twice}
use Rattle.answers.specs.Assignments.{times, says}
use Rattle.answers.specs.Marks.{mark_after}

-- the marks of n numbers, where the literals from the place i on are left
abbrev pub MarksLeft : List Lit → ℕ → ℕ → List Mark → Type 0
MarksLeft ls i n t =
    (length t ≡ n) × ((k : ℕ) → k < n → mark_after (drop i ls) k (get_or t k Absent) ≡ mark_after ls k Absent)

-- the mark of a number that is given k times, and without a minus if b
abbrev pub shown : ℕ → Bool → Mark
shown k b = cond (eqb k 0) Absent (cond (eqb k 1) (Set b) Twice)

module _ (n : ℕ) where
  never : (ls : List Lit) → times ls n ≡ 0 → says ls n ≡ false
  never [] e = refl
  never (l ∷ ls) e = grind (arith, nat_tests, never ls)

  after_twice : (ls : List Lit) → mark_after ls n Twice ≡ Twice
  after_twice [] = refl
  after_twice (l ∷ ls) = grind (arith, nat_tests, after_twice ls)

  after_set : (b : Bool) (ls : List Lit) → mark_after ls n (Set b) ≡ cond (eqb (times ls n) 0) (Set b) Twice
  after_set b [] = refl
  after_set b (l ∷ ls) = grind (arith, nat_tests, after_set b ls, after_twice ls)

  pub after_all : (ls : List Lit) → mark_after ls n Absent ≡ shown (times ls n) (says ls n)
  after_all [] = refl
  after_all (l ∷ ls) = grind (arith, nat_tests, after_all ls, after_set (not l.negated) ls, never ls)

-- a mark that is set
pub set_once : (k : ℕ) (b t : Bool) → shown k b ≡ Set t → (eqb k 1 ≡ true) × (t ≡ b)
set_once k b t e = (grind (arith, nat_tests), grind (arith, nat_tests))

-- a mark that is not
pub not_once : (k : ℕ) (b : Bool) → ((t : Bool) → shown k b ≡ Set t → ⊥) → eqb k 1 ≡ false
not_once k b none = grind (arith, nat_tests, none b)
