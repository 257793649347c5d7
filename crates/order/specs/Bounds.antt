-- Bounds, their truth under values, and their literals. Assumes nothing.
use Rattle.std.specs.Prelude.{ℕ, ◌+◌, ◌-◌, ◌≤◌, Bool, true, false, cond, not, List, map, nat_le, nat_lt}
use Rattle.order.specs.declared.range.Range.{Range}
pub use Rattle.order.specs.declared.bound.Bound.{Bound}
use Rattle.order.specs.Literals.{Literal, False, True, Bit, opposite}
use Rattle.order.specs.Ranges.{low, high, first}

-- X(t): the variable x is at least t
abbrev pub reaches : ℕ → ℕ → Bound
reaches x t = record { variable = x; at = t; opposed = false }

-- the opposite of X(t): the variable x is below t
abbrev pub misses : ℕ → ℕ → Bound
misses x t = record { variable = x; at = t; opposed = true }

-- the opposite of a bound
abbrev pub turned : Bound → Bound
turned b = record { variable = b.variable; at = b.at; opposed = not b.opposed }

-- whether a bound is true under values
abbrev pub holds : (ℕ → ℕ) → Bound → Bool
holds v b = cond b.opposed (nat_lt (v b.variable) b.at) (nat_le b.at (v b.variable))

-- each value is in its variable's range
pub record InRange (rs : List Range) (v : ℕ → ℕ) : Type 0 where
  pub above : (x : ℕ) → low rs x ≤ v x
  pub below : (x : ℕ) → v x ≤ high rs x

-- the literal of X(t): true for t ≤ low, false for t > high, otherwise a bit
abbrev pub reach : List Range → ℕ → ℕ → Literal
reach rs x t = cond (nat_le t (low rs x)) True (cond (nat_lt (high rs x) t) False (Bit (first rs x + (t - low rs x))))

-- the literal of a bound
abbrev pub literal : List Range → Bound → Literal
literal rs b = cond b.opposed (opposite (reach rs b.variable b.at)) (reach rs b.variable b.at)

-- the literals of a clause
abbrev pub literals : List Range → List Bound → List Literal
literals rs c = map (literal rs) c
