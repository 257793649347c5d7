use Rattle.std.proofs.Common.{arith}
use Rattle.ties.proofs.Grows.{grown_more, grown_all}
use Rattle.ties.proofs.classes.Ties.grow.Goals as goal

pub loop-i-preserved : goal.loop-i-preserved
loop-i-preserved c = (grown_more c.loop-i.invariant.0 c.add.ensures.grown, omega arith, omega arith, omega arith)

pub returns-clause-grows : goal.returns-clause-grows
returns-clause-grows c =
    (omega (arith, c.args.self.now.roots.ok.0), grown_all c.loop-i.invariant.0 c.in_ok-reserve.ensures.same (omega arith))
