-- What a job holds, as far as anyone can tell. Assumes nothing.
use Rattle.std.specs.Prelude.{ℕ, List, [], ◌∷◌, ◌++◌}
use Rattle.order.specs.declared.literal.Literal.{Literal}
use Rattle.order.specs.declared.range.Range.{Range}
use Rattle.ties.specs.Roots.{root_at}

-- the range of each variable, and the root of each bit
pub record View : Type 0 where
  pub ranges : List Range
  pub root : ℕ → Literal

-- a new job has no variable and no tie
abbrev pub new_view : View
new_view = record { ranges = []; root = root_at [] }

-- a job with one variable more, whose bits are tied to nothing
abbrev pub with_variable : View → Range → View
with_variable v r = record { ranges = v.ranges ++ r ∷ []; root = v.root }
