use Rattle.kinds.specs.Items.{var}
use Rattle.kinds.proofs.Loops.{Leads}
use Rattle.linear.specs.Same.{match, matches}
use Rattle.linear.proofs.same.SameKind.tell_pairings.Given as goal

abbrev pub invariant-loop-t : goal.invariant-loop-t
invariant-loop-t g l = Leads g.L.Listener.hears (match l.a l.b) l.t-iterator.start l.t-iterator.end l.listener (matches l.ranges (var l.items 0) (var l.items 1)) l.initial.listener
