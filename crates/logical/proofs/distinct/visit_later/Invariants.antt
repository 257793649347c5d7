use Rattle.std.proofs.Common.{length}
use Rattle.order.specs.Between.{joined}
use Rattle.kinds.specs.declared.item.Item.TheVariants.{Variable}
use Rattle.logical.specs.Distinct.{apart_from}
use Rattle.kinds.proofs.Loops.{Leads, at}
use Rattle.logical.proofs.distinct.visit_later.Given as goal

abbrev pub invariant-loop-item : goal.invariant-loop-item
invariant-loop-item g l =
    Leads g.V.Visitor.step (at (apart_from l.ranges l.a) l.later (Variable 0)) l.item-index (length l.later) l.visitor (joined (apart_from l.ranges l.a) l.later) l.initial.visitor
