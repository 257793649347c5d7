use Rattle.std.proofs.Common.{length}
use Rattle.logical.specs.Distinct.{excludes_pair, excludes_others}
use Rattle.kinds.proofs.Loops.{Leads}
use Rattle.logical.proofs.distinct.tell_others.Given as goal

abbrev pub invariant-loop-q : goal.invariant-loop-q
invariant-loop-q g l =
    Leads g.L.Listener.hears (excludes_pair l.items l.ranges l.p) l.q (length l.items) l.listener (excludes_others l.items l.ranges l.p) l.initial.listener
