-- Jobs, what is written of them, and what solves them. Assumes nothing.
use Rattle.std.specs.Prelude.{◌≡◌, ℕ, Bool, true, cond, List, [], ◌++◌}
use Rattle.std.specs.List.{AllByRecursion}
use Rattle.order.specs.declared.bound.Bound.{Bound}
use Rattle.order.specs.declared.literal.Literal.{Literal}
use Rattle.order.specs.declared.range.Range.{Range}
use Rattle.order.specs.Between.{joined}
use Rattle.order.specs.Bounds.{InRange, literal}
use Rattle.order.specs.Orders.{orders}
use Rattle.ties.specs.Roots.{tied}
use Rattle.kinds.specs.Items.{Pairing}
use Rattle.cnf.specs.Numbered.{rooted}
use Rattle.cnf.specs.Reduced.{written}
use Rattle.theory.specs.Rows.{Row, LawfulRow}

-- the range of each variable, and the rows
pub record Job : Type 0 where
  pub ranges : List Range
  pub rows : List Row

-- each row is lawful
abbrev pub LawfulRows : Job → Type 0
LawfulRows j = AllByRecursion (LawfulRow j.ranges) j.rows

-- the clauses of a job: the order clauses, then those of each row
abbrev pub clauses : Job → List (List Bound)
clauses j = orders j.ranges ++ joined (λ w. w.clauses) j.rows

-- the pairings of a job
abbrev pub pairings : Job → List Pairing
pairings j = joined (λ w. w.pairings) j.rows

-- whether two bounds are tied by the roots
abbrev pub tied_bounds : List Range → (ℕ → Literal) → Bound → Bound → Bool
tied_bounds rs f p q = tied f (literal rs p) (literal rs q)

-- what is written of a clause of bounds: one clause of roots, or none
abbrev pub reduced : List Range → (ℕ → Literal) → List Bound → List (List Literal)
reduced rs f c = written (rooted rs f c)

-- what is written of a row: nothing where it is spent
abbrev pub reduced_row : List Range → (ℕ → Literal) → Row → List (List Literal)
reduced_row rs f w = cond (w.spent (tied_bounds rs f)) [] (joined (reduced rs f) w.clauses)

-- each clause that is written
unfoldable pub output : Job → (ℕ → Literal) → List (List Literal)
output j f = joined (reduced j.ranges f) (orders j.ranges) ++ joined (reduced_row j.ranges f) j.rows

-- the values are in range and meet each row
pub record Solves (j : Job) (v : ℕ → ℕ) : Type 0 where
  pub in_range : InRange j.ranges v
  pub meets : AllByRecursion (λ w. w.meets v ≡ true) j.rows
