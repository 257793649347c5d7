use Rattle.logical.specs.Extreme.{extreme_pairings, told_at}
use Rattle.kinds.proofs.Loops.{Leads}
use Rattle.logical.proofs.extreme.Choice.tell.Given as goal

abbrev pub invariant-loop-v : goal.invariant-loop-v
invariant-loop-v g l =
    Leads g.L.Listener.hears (told_at l.self.down l.no_a l.no_b l.self.a l.self.b l.self.c) l.v-iterator.start l.v-iterator.end l.listener (extreme_pairings l.self.down l.ranges l.self.a l.self.b l.self.c) l.initial.listener
