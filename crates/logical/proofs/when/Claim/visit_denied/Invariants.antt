use Rattle.std.proofs.Common.{◌+◌}
use Rattle.logical.specs.When.{denied, all_denied}
use Rattle.kinds.proofs.Loops.{Leads}
use Rattle.logical.proofs.when.Claim.visit_denied.Given as goal

abbrev pub invariant-loop-v : goal.invariant-loop-v
invariant-loop-v g l =
    Leads g.V.Visitor.step (denied l.self.x l.self.a l.self.b) l.v (l.v-end + 1) l.visitor (all_denied l.ranges l.self.x l.self.a l.self.b) l.initial.visitor
