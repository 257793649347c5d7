use Rattle.std.proofs.Common.{◌≡◌, true, length}
use Rattle.rows.specs.Rows.{rows_of}
use Rattle.settle.specs.Parts.{part_clauses}
use Rattle.settle.specs.Tied.{ranges_in, roots_in}
use Rattle.settle.proofs.Going.{Going}
use Rattle.settle.proofs.tied.TiedVariables.walk.Given as goal

-- the parts below the place were walked, and what has come of the part
abbrev pub invariant-loop-clause : goal.invariant-loop-clause
invariant-loop-clause g l =
    (l.possible ≡ true)
    × Going g.K.Kinds.meaning (ranges_in l.fn.self) (rows_of l.rows) l.before (roots_in l.fn.self) l.self l.place (length l.yielded) 0

abbrev pub invariant-loop-gives : goal.invariant-loop-gives
invariant-loop-gives g l =
    (l.possible ≡ true)
    × Going g.K.Kinds.meaning (ranges_in l.fn.self) (rows_of l.rows) l.before (roots_in l.fn.self) l.self l.place (length (part_clauses g.K.Kinds.meaning (ranges_in l.fn.self) (rows_of l.rows) l.place)) (length l.yielded)

abbrev pub invariant-walk : goal.invariant-walk
invariant-walk g l =
    (l.possible ≡ true)
    × Going g.K.Kinds.meaning (ranges_in l.fn.self) (rows_of l.rows) l.before (roots_in l.fn.self) l.self l.place 0 0
