use Rattle.std.proofs.Common.{◌≤◌}
use Rattle.logical.specs.Neq.{excluded_at, excludes_each}
use Rattle.kinds.proofs.Loops.{Leads}
use Rattle.logical.proofs.neq.Pair.tell_excluded.Given as goal

abbrev pub invariant-loop-v : goal.invariant-loop-v
invariant-loop-v g l =
    Leads g.L.Listener.hears (excluded_at l.ranges l.self.a l.self.b) l.v-iterator.start l.v-iterator.end l.listener (excludes_each l.ranges l.self.a l.self.b) l.initial.listener
    × (l.v-iterator.end ≤ 256)
