-- A variable that is settled at a value. Assumes nothing.
use Rattle.std.specs.Prelude.{ℕ, ◌+◌, Bool, ◌&&◌}
use Rattle.order.specs.declared.literal.Literal.TheVariants.{False, True}
use Rattle.order.specs.Bounds.{reach}
use Rattle.ties.specs.Roots.{tied}
use Rattle.calls.specs.View.{View}

-- X(n) is tied to true and X(n + 1) to false
abbrev pub settled_at : View → ℕ → ℕ → Bool
settled_at v x n = tied v.root (reach v.ranges x n) True && tied v.root (reach v.ranges x (n + 1)) False
