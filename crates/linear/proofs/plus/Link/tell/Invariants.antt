use Rattle.std.proofs.Common.{◌+◌}
use Rattle.order.specs.Ranges.{low, high}
use Rattle.kinds.specs.Families.{given as given_at, given_all}
use Rattle.kinds.proofs.Loops.{Leads}
use Rattle.linear.specs.Plus.{stepped, linked, links}
use Rattle.linear.proofs.plus.Link.tell.Given as goal

abbrev pub invariant-loop-k : goal.invariant-loop-k
invariant-loop-k g l =
    Leads g.L.Listener.hears (given_all l.ranges l.s (linked l.self) (low l.ranges (stepped l.self)) (high l.ranges (stepped l.self) + 2)) l.k (l.k-end + 1) l.listener (links l.ranges l.s l.self) l.initial.listener

abbrev pub invariant-loop-i : goal.invariant-loop-i
invariant-loop-i g l =
    Leads g.L.Listener.hears (given_at l.ranges l.s (linked l.self) l.k) l.i l.i-end l.listener (given_all l.ranges l.s (linked l.self) (low l.ranges (stepped l.self)) (high l.ranges (stepped l.self) + 2) l.k) l.initial.listener
