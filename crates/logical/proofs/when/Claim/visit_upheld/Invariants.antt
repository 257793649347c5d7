use Rattle.std.proofs.Common.{◌+◌}
use Rattle.logical.specs.When.{upheld, all_upheld}
use Rattle.kinds.proofs.Loops.{Leads}
use Rattle.logical.proofs.when.Claim.visit_upheld.Given as goal

abbrev pub invariant-loop-v : goal.invariant-loop-v
invariant-loop-v g l =
    Leads g.V.Visitor.step (upheld l.self.x l.self.a l.self.b) l.v (l.v-end + 1) l.visitor (all_upheld l.ranges l.self.x l.self.a l.self.b) l.initial.visitor
