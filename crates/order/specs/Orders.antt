-- The order clauses of the variables. Assumes nothing.
use Rattle.std.specs.Prelude.{ℕ, ◌+◌, List, [], ◌∷◌, length}
use Rattle.order.specs.declared.range.Range.{Range}
use Rattle.order.specs.Between.{between}
use Rattle.order.specs.Bounds.{Bound, reaches, misses}
use Rattle.order.specs.Ranges.{low, high}

-- where X reaches t + 1 it reaches t
abbrev pub step : ℕ → ℕ → List (List Bound)
step x t = (misses x (t + 1) ∷ reaches x t ∷ []) ∷ []

-- the order clauses of x: t from low + 1 to high - 1
abbrev pub order : List Range → ℕ → List (List Bound)
order rs x = between (step x) (low rs x + 1) (high rs x)

-- those of all variables
abbrev pub orders : List Range → List (List Bound)
orders rs = between (order rs) 0 (length rs)
