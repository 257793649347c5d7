use Rattle.std.proofs.Common.{arith}
use Rattle.std.proofs.lemmas.List.{map_more}
use Rattle.order.specs.declared.literal.Literal.TheVariants.{False}
use Rattle.cnf.specs.Numbered.{lit}
use Rattle.cnf.specs.Encoded.{root_in}
use Rattle.cnf.proofs.NumberSteps.{there_at}
use Rattle.cnf.proofs.numbering.Numbering.number_all.Goals as goal

pub loop-l-preserved : goal.loop-l-preserved
loop-l-preserved g c =
    let ls = c.args.literals.now in
    let i = c.loop-l.l-index in
    record {
      value = λ inside.
          let so_far = c.loop-l.invariant.value inside in
          let here = c.lit.ensures (there_at _ ls i False inside c.loop-l-test.true) in
          let more = map_more (lit (root_in c.args.self.now)) ls i False c.loop-l-test.true in
          cc;
      long = omega arith;
    }
