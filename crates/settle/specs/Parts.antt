-- The parts of a job, by place: each variable with its order clauses, then each row. Assumes nothing.
use Rattle.std.specs.Prelude.{ℕ, ◌-◌, Bool, cond, List, [], length, ◌==◌, nat_lt}
use Rattle.order.specs.declared.bound.Bound.{Bound}
use Rattle.order.specs.declared.range.Range.{Range}
use Rattle.order.specs.Orders.{order}
use Rattle.kinds.specs.Items.{names, Pairing}
use Rattle.kinds.specs.Meaning.{Meaning}
use Rattle.rows.specs.Rows.{Posted, posted}
use Rattle.theory.specs.Rows.{Row}
use Rattle.calls.specs.Jobs.{posted_row}

-- the row of the part at place k
abbrev pub row_part : (ℕ → Meaning) → List Range → List Posted → ℕ → Row
row_part m rs ps k = posted_row m rs (posted ps (k - length rs))

-- the clauses of the part at place k
abbrev pub part_clauses : (ℕ → Meaning) → List Range → List Posted → ℕ → List (List Bound)
part_clauses m rs ps k = cond (nat_lt k (length rs)) (order rs k) (row_part m rs ps k).clauses

-- its pairings
abbrev pub part_pairings : (ℕ → Meaning) → List Range → List Posted → ℕ → List Pairing
part_pairings m rs ps k = cond (nat_lt k (length rs)) [] (row_part m rs ps k).pairings

-- whether the part at place k names the variable x
abbrev pub part_names : List Range → List Posted → ℕ → ℕ → Bool
part_names rs ps k x = cond (nat_lt k (length rs)) (k == x) (names (posted ps (k - length rs)).items x)
