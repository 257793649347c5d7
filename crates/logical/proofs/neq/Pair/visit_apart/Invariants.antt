use Rattle.std.proofs.Common.{◌≤◌}
use Rattle.logical.specs.Neq.{not_both, apart}
use Rattle.kinds.proofs.Loops.{Leads}
use Rattle.logical.proofs.neq.Pair.visit_apart.Given as goal

abbrev pub invariant-loop-v : goal.invariant-loop-v
invariant-loop-v g l =
    Leads g.V.Visitor.step (not_both l.self.a l.self.b) l.v-iterator.start l.v-iterator.end l.visitor (apart l.ranges l.self.a l.self.b) l.initial.visitor
    × (l.v-iterator.end ≤ 256)
