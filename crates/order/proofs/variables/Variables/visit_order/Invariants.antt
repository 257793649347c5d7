use Rattle.std.proofs.Common.{◌≤◌, max}
use Rattle.order.specs.Between.{between}
use Rattle.order.specs.Orders.{step}
use Rattle.order.specs.Visits.{After}
use Rattle.order.proofs.variables.Variables.visit_order.Given as goal

abbrev pub invariant-loop-t : goal.invariant-loop-t
invariant-loop-t g l =
    After g.V.Visitor.step l.initial.visitor (between (step l.x) l.initial.t l.t) l.visitor
    × (l.t ≤ max l.initial.t l.t-end)
