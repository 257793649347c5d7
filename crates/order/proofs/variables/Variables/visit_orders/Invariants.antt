use Rattle.order.specs.Between.{between}
use Rattle.order.specs.Orders.{order}
use Rattle.order.specs.Variables.{ranges_of}
use Rattle.order.specs.Visits.{After}
use Rattle.order.proofs.variables.Variables.visit_orders.Given as goal

abbrev pub invariant-loop-x : goal.invariant-loop-x
invariant-loop-x g l = After g.V.Visitor.step l.initial.visitor (between (order (ranges_of l.self)) 0 l.x) l.visitor
