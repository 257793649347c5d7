-- What is known of a number once literals are read. Assumes nothing.
use Rattle.std.specs.Prelude.{◌≡◌, ℕ, ◌<◌, Bool, cond, not, List, [], ◌∷◌, length, ◌==◌, slice_index_or}
use Rattle.sink.specs.declared.lit.Lit.{Lit}
use Rattle.answers.specs.declared.assignment.Mark.{Mark}
use Rattle.answers.specs.declared.assignment.Mark.TheVariants.{Absent, Set, Twice}

-- a number is given
abbrev pub given : Mark → Bool → Mark
given Absent b = Set b
given (Set a) b = Twice
given Twice b = Twice

-- the mark of the number n, which was m, once the literals are read
abbrev pub mark_after : List Lit → ℕ → Mark → Mark
mark_after [] n m = m
mark_after (l ∷ ls) n m = mark_after ls n (cond (l.variable == n) (given m (not l.negated)) m)

-- the marks of the numbers below n are what the literals make of them, where each was absent
abbrev pub Marked : List Lit → ℕ → List Mark → Type 0
Marked ls n t = (length t ≡ n) × ((k : ℕ) → k < n → slice_index_or t k Absent ≡ mark_after ls k Absent)
