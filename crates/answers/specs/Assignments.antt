-- The assignment that literals say. Assumes nothing.
use Rattle.std.specs.Prelude.{◌≡◌, ℕ, ◌+◌, ◌≤◌, Bool, true, false, cond, not, ◌&&◌, ◌||◌, List, [], ◌∷◌, length, Ok, Err, vec_items, Result, Vec, ◌==◌, nat_eq, slice_index_or}
use Rattle.std.specs.declared.alloc.Global.{Global}
use Rattle.kinds.specs.Tests.{all_between}
use Rattle.sink.specs.declared.lit.Lit.{Lit}
use Rattle.answers.specs.declared.assignment.AssignmentFault.{AssignmentFault}
use Rattle.answers.specs.declared.assignment.AssignmentFault.TheVariants.{NotOnce, NoMemory}

-- 0 stands last and only there
abbrev pub zero_ends : List Lit → Bool
zero_ends [] = false
zero_ends (l ∷ []) = l.variable == 0
zero_ends (l ∷ (m ∷ ls)) = not (l.variable == 0) && zero_ends (m ∷ ls)

-- how often the number n is given, in either sign
abbrev pub times : List Lit → ℕ → ℕ
times [] n = 0
times (l ∷ ls) n = cond (l.variable == n) 1 0 + times ls n

-- each of 1 to v is given once
abbrev pub given_once : List Lit → ℕ → Bool
given_once ls v = all_between (λ n. nat_eq (times ls n) 1) 1 (v + 1)

-- whether the number n is given without a minus
abbrev pub says : List Lit → ℕ → Bool
says [] n = false
says (l ∷ ls) n = (l.variable == n && not l.negated) || says ls n

-- the truth of each number, at its place, or it is not given once; the place 0 is false
abbrev pub Assigns : List Lit → ℕ → Result (Vec Bool Global) AssignmentFault → Type 0
Assigns ls v (Ok truths) = (given_once ls v ≡ true) × (length (vec_items truths) ≡ v + 1) × (slice_index_or (vec_items truths) 0 true ≡ false) × ((n : ℕ) → 1 ≤ n → n ≤ v → slice_index_or (vec_items truths) n false ≡ says ls n)
Assigns ls v (Err NotOnce) = given_once ls v ≡ false
Assigns ls v (Err NoMemory) = Unit {0}
