-- What is left of a clause. Assumes nothing.
use Rattle.std.specs.Prelude.{◌≡◌, List, [], ◌∷◌}
use Rattle.order.specs.declared.literal.Literal.{Literal}
use Rattle.theory.specs.Steps.{Long}
use Rattle.settle.specs.declared.left.Left.{Left}
use Rattle.settle.specs.declared.left.Left.TheVariants.{Enough, Nothing, One}

-- the answer for what is written of a clause
abbrev pub Leaves : Left → List (List Literal) → Type 0
Leaves Enough ds = Long ds
Leaves Nothing ds = ds ≡ [] ∷ []
Leaves (One u) ds = ds ≡ (u ∷ []) ∷ []
