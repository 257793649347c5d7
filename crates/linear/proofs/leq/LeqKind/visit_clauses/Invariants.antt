use Rattle.std.proofs.Common.{◌+◌}
use Rattle.kinds.specs.Items.{var}
use Rattle.kinds.proofs.Loops.{Leads}
use Rattle.linear.specs.Leq.{rise, rises}
use Rattle.linear.proofs.leq.LeqKind.visit_clauses.Given as goal

abbrev pub invariant-loop-t : goal.invariant-loop-t
invariant-loop-t g l = Leads g.V.Visitor.step (rise l.a l.b) l.t (l.t-end + 1) l.visitor (rises l.ranges (var l.items 0) (var l.items 1)) l.initial.visitor
