use Rattle.kinds.specs.Items.{var}
use Rattle.kinds.proofs.Loops.{Leads}
use Rattle.linear.specs.Same.{level, levels}
use Rattle.linear.proofs.same.SameKind.visit_clauses.Given as goal

abbrev pub invariant-loop-t : goal.invariant-loop-t
invariant-loop-t g l = Leads g.V.Visitor.step (level l.a l.b) l.t-iterator.start l.t-iterator.end l.visitor (levels l.ranges (var l.items 0) (var l.items 1)) l.initial.visitor
