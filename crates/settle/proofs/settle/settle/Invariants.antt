use Rattle.order.specs.Variables.{ranges_of}
use Rattle.ties.specs.Roots.{free}
use Rattle.rows.specs.Rows.{rows_of}
use Rattle.settle.specs.Tied.{roots_in}
use Rattle.settle.proofs.Settled.{Ready}
use Rattle.settle.proofs.settle.settle.Given as goal

abbrev pub invariant-loop-before : goal.invariant-loop-before
invariant-loop-before g l = Ready g.K.Kinds.meaning (ranges_of l.variables) (rows_of l.rows) l.before (roots_in l.initial.tied) l.tied

abbrev pub decreases-loop-before : goal.decreases-loop-before
decreases-loop-before g l = free (roots_in l.tied)
