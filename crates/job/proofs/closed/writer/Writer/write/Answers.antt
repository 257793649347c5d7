use Rattle.std.proofs.Common.{sym, refl, ap, ◌∙◌, arith}
use Rattle.std.proofs.lemmas.Bool.{le-ltb, lt-ltb}
use Rattle.order.specs.Ranges.{total_bits}
use Rattle.ties.specs.Roots.{free_to}
use Rattle.cnf.specs.Passed.{with_clauses}
use Rattle.calls.proofs.Writing.{no_room, whole}
use Rattle.job.specs.View.{View}
use Rattle.job.specs.Writes.{output}
use Rattle.job.proofs.Writing.{output_proper, job_measured}
use Rattle.job.proofs.closed.writer.Writer.write.Goals as goal

pub overflow_cast-header : goal.overflow_cast-header
overflow_cast-header g c = omega (arith, c.measure-tally.ensures.clauses, (output_proper c.args.self.encoder).few)

pub overflow_add-header_cost : goal.overflow_add-header_cost
overflow_add-header_cost g c =
    let free = c.free.ensures ∙ ap (λ (v : View). free_to v.root (total_bits v.ranges)) c.measure-tally.ensures.same in
    let made = job_measured c.args.self.encoder g.S.Sink.costs g.met.S.Sink.lawful _ _ _ _ free c.measure-tally.ensures.clauses c.measure-tally.ensures.cost c.header_cost.ensures in
    omega (arith, made.0)

pub returns-then-header_cost-tally : goal.returns-then-header_cost-tally
returns-then-header_cost-tally g c =
    let free = c.free.ensures ∙ ap (λ (v : View). free_to v.root (total_bits v.ranges)) c.measure-tally.ensures.same in
    let made = job_measured c.args.self.encoder g.S.Sink.costs g.met.S.Sink.lawful _ _ _ _ free c.measure-tally.ensures.clauses c.measure-tally.ensures.cost c.header_cost.ensures in
    (no_room made.1 (g.S.Sink.state c.args.sink.now) (sym c.if-has_header.ensures) (lt-ltb _ _ (omega (arith, c.units_left.ensures))), refl)

pub returns : goal.returns
returns g c =
    let free = c.free.ensures ∙ ap (λ (v : View). free_to v.root (total_bits v.ranges)) c.measure-tally.ensures.same in
    let made = job_measured c.args.self.encoder g.S.Sink.costs g.met.S.Sink.lawful _ _ _ _ free c.measure-tally.ensures.clauses c.measure-tally.ensures.cost c.header_cost.ensures in
    let s = g.S.Sink.state c.args.sink.now in
    let none = sym c.if-has_header.ensures in
    let room = le-ltb s.left _ (omega (arith, c.units_left.ensures)) in
    let put = c.put.ensures ∙ ap (λ v. with_clauses g.S.Sink.costs (g.S.Sink.state c.take_header.new.self) (output v)) c.measure-tally.ensures.same in
    whole made.1 s none _ _ (g.met.S.Sink.headed c.args.sink.now none) room c.take_header.ensures.after put
