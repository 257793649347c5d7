use Rattle.std.proofs.Common.{sym, ap, ◌∙◌}
use Rattle.order.specs.Orders.{orders}
use Rattle.calls.proofs.Clausing.{orders_short}
use Rattle.cnf.proofs.Passing.{put_all}
use Rattle.cnf.specs.Encoded.{encoder_ranges}
use Rattle.job.specs.Writes.{output}
use Rattle.job.proofs.closed.writer.write.put.Goals as goal

pub returns : goal.returns
unfolding output
returns g c =
    let rs = encoder_ranges c.args.encoder.now in
    let all = put_all g.S.Sink.costs g.S.Sink.state (orders rs) _ _ (orders_short rs) c.visit_orders.ensures in
    ap g.S.Sink.state (c.sink-1.given.1 (sym all.lender)) ∙ all.sink
