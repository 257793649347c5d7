use Rattle.std.proofs.Common.{sym, subst, arith}
use Rattle.order.specs.Orders.{orders}
use Rattle.calls.proofs.Clausing.{orders_short}
use Rattle.calls.proofs.Writing.{clauses_small}
use Rattle.cnf.proofs.Passing.{counted_all}
use Rattle.cnf.specs.Encoded.{encoder_ranges, EncodesSame}
use Rattle.job.proofs.Writing.{output_proper, view_same}
use Rattle.job.specs.Writes.{output}
use Rattle.job.proofs.closed.writer.write.measure.Goals as goal

pub returns : goal.returns
unfolding output
returns g c =
    let e = c.args.encoder.now in
    let rs = encoder_ranges e in
    let all = counted_all g.S.Sink.costs (orders rs) _ _ (orders_short rs) c.visit_orders.ensures in
    let proper = output_proper e in
    record {
      same = view_same e _ (subst (EncodesSame e) (sym (c.encoder-1.given.1 (sym all.lender))) all.encoder);
      clauses = omega (arith, all.clauses, proper.few);
      cost = omega (arith, all.cost, clauses_small _ _ proper g.S.Sink.costs g.met.S.Sink.lawful);
    }
