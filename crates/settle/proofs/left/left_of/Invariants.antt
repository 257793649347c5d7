use Rattle.std.proofs.Common.{take}
use Rattle.order.specs.Variables.{ranges_of}
use Rattle.ties.specs.Roots.{root_at}
use Rattle.ties.specs.Views.{roots_of}
use Rattle.cnf.specs.Numbered.{rooted}
use Rattle.theory.proofs.Leaving.{Leaving}
use Rattle.settle.proofs.left.left_of.Given as goal

abbrev pub invariant-loop-bound : goal.invariant-loop-bound
invariant-loop-bound l = Leaving (take l.bound-index (rooted (ranges_of l.variables) (root_at (roots_of l.ties)) l.clause)) l.last
