-- One root that gives way to another. Assumes nothing.
use Rattle.std.specs.Prelude.{◌≡◌, ◌<◌, true, false, cond, List, length}
use Rattle.order.specs.declared.literal.Literal.{Literal}
use Rattle.order.specs.Literals.{opposite, same}
use Rattle.ties.specs.declared.joins.Joined.{Joined}
use Rattle.ties.specs.declared.joins.Joined.TheVariants.{Same, Made, Contradiction, Absent}
use Rattle.ties.specs.Roots.{rank, root_at, root_by, there}

-- x, with `new` for `old` and the opposite of `new` for that of `old`
abbrev pub replaced : Literal → Literal → Literal → Literal
replaced old new x = cond (same x old) new (cond (same x (opposite old)) (opposite new) x)

-- two roots that are there, and are neither one nor opposites
pub record Distinct (rs : List Literal) (x y : Literal) : Type 0 where
  pub x_there : there (length rs) x ≡ true
  pub y_there : there (length rs) y ≡ true
  pub x_root : root_by (root_at rs) x ≡ x
  pub y_root : root_by (root_at rs) y ≡ y
  pub differ : same x y ≡ false
  pub apart : same x (opposite y) ≡ false

-- two such roots, of which new comes first
pub record Move (rs : List Literal) (old new : Literal) : Type 0 where
  pub roots : Distinct rs old new
  pub less : rank new < rank old

-- what joining two roots comes to
abbrev pub Meets : Joined → Literal → Literal → Type 0
Meets Same x y = same x y ≡ true
Meets Made x y = (same x y ≡ false) × (same x (opposite y) ≡ false)
Meets Contradiction x y = same x (opposite y) ≡ true
Meets Absent x y = ⊥
