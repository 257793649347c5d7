use Rattle.logical.specs.Extreme.{extreme_clauses, chosen_at}
use Rattle.kinds.proofs.Loops.{Leads}
use Rattle.logical.proofs.extreme.Choice.visit.Given as goal

abbrev pub invariant-loop-v : goal.invariant-loop-v
invariant-loop-v g l =
    Leads g.V.Visitor.step (chosen_at l.self.down l.self.a l.self.b l.self.c) l.v-iterator.start l.v-iterator.end l.visitor (extreme_clauses l.self.down l.ranges l.self.a l.self.b l.self.c) l.initial.visitor
