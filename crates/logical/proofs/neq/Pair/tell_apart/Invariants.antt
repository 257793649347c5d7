use Rattle.std.proofs.Common.{◌≤◌}
use Rattle.logical.specs.Neq.{told_of, apart_pairings}
use Rattle.kinds.proofs.Loops.{Leads}
use Rattle.logical.proofs.neq.Pair.tell_apart.Given as goal

abbrev pub invariant-loop-v : goal.invariant-loop-v
invariant-loop-v g l =
    Leads g.L.Listener.hears (told_of l.ranges l.self.a l.self.b) l.v-iterator.start l.v-iterator.end l.listener (apart_pairings l.ranges l.self.a l.self.b) l.initial.listener
    × (l.v-iterator.end ≤ 256)
