use Rattle.std.proofs.Common.{length}
use Rattle.logical.specs.Distinct.{excludes_others, all_exclude}
use Rattle.kinds.proofs.Loops.{Leads}
use Rattle.logical.proofs.distinct.DistinctKind.tell_pairings.Given as goal

abbrev pub invariant-loop-p : goal.invariant-loop-p
invariant-loop-p g l =
    Leads g.L.Listener.hears (excludes_others l.items l.ranges) l.p (length l.items) l.listener (all_exclude l.items l.ranges) l.initial.listener
