use Rattle.std.proofs.Common.{arith}
use Rattle.order.specs.Orders.{order}
use Rattle.order.proofs.Visiting.{after_more}
use Rattle.order.proofs.variables.Variables.visit_orders.Goals as goal

pub loop-x-preserved : goal.loop-x-preserved
loop-x-preserved g c = after_more g.V.Visitor.step (order c.args.self.now.ranges.items) 0 c.loop-x.x _ _ _ (omega arith) c.loop-x.invariant c.visit_order.ensures
