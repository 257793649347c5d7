use Rattle.std.proofs.Common.{◌+◌}
use Rattle.kinds.specs.Items.{var}
use Rattle.kinds.proofs.Loops.{Leads}
use Rattle.linear.specs.Plus.{corner, corner_row, corners}
use Rattle.linear.proofs.plus.PlusKind.visit_clauses.Given as goal

abbrev pub invariant-loop-i : goal.invariant-loop-i
invariant-loop-i g l = Leads g.V.Visitor.step (corner_row l.ranges l.a l.b l.c) l.i (l.i-end + 1) l.visitor (corners l.ranges (var l.items 0) (var l.items 1) (var l.items 2)) l.initial.visitor

abbrev pub invariant-loop-j : goal.invariant-loop-j
invariant-loop-j g l = Leads g.V.Visitor.step (corner l.a l.b l.c l.i) l.j (l.j-end + 1) l.visitor (corner_row l.ranges l.a l.b l.c l.i) l.initial.visitor
