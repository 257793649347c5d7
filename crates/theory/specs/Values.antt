-- The values that bits show, and the bits that values give. Assumes nothing.
use Rattle.std.specs.Prelude.{◌≡◌, ℕ, zero, suc, ◌+◌, ◌-◌, Bool, true, false, cond, List, length, nat_le, nat_lt}
use Rattle.order.specs.declared.bound.Bound.{Bound}
use Rattle.order.specs.declared.range.Range.{Range}
use Rattle.order.specs.Bounds.{reach, literals}
use Rattle.order.specs.Literals.{truth}
use Rattle.order.specs.Ranges.{low, width, first}
use Rattle.ties.specs.Roots.{count_below}
use Rattle.theory.specs.Truth.{some_true}

-- the value of x by its bits: its low, and one for each true bit
abbrev pub value : List Range → (ℕ → Bool) → ℕ → ℕ
value rs β x = low rs x + count_below (λ k. β (first rs x + suc k)) (width rs x)

-- the bits say that x has the value n
abbrev pub Says : List Range → (ℕ → Bool) → ℕ → ℕ → Type 0
Says rs β x n = (t : ℕ) → truth β (reach rs x t) ≡ nat_le t n

-- the bits say each value
abbrev pub Shows : List Range → (ℕ → Bool) → (ℕ → ℕ) → Type 0
Shows rs β v = (x : ℕ) → Says rs β x (v x)

-- whether bit n is true under values: of the last of m variables with fewer than n bits before its own
abbrev pub bit_below : List Range → (ℕ → ℕ) → ℕ → ℕ → Bool
bit_below rs v zero n = false
bit_below rs v (suc x) n = cond (nat_lt (first rs x) n) (nat_le (low rs x + (n - first rs x)) (v x)) (bit_below rs v x n)

-- the bits under values
abbrev pub bits : List Range → (ℕ → ℕ) → ℕ → Bool
bits rs v n = bit_below rs v (length rs) n

-- the bits satisfy a clause of bounds
abbrev pub TrueBy : List Range → (ℕ → Bool) → List Bound → Type 0
TrueBy rs β c = some_true β (literals rs c) ≡ true
