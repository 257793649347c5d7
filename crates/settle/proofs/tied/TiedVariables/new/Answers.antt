use Rattle.std.proofs.Common.{length, ap, ◌∙◌, arith}
use Rattle.ties.specs.Roots.{root_at}
use Rattle.ties.specs.Views.{roots_of}
use Rattle.settle.proofs.SameRoots.{same_roots}
use Rattle.settle.proofs.tied.TiedVariables.new.Goals as goal

pub returns-clause-roots : goal.returns-clause-roots
returns-clause-roots c =
    let grown = (rw c.unwrap.ensures at c.grow.ensures.grows).1 in
    grown.roots ∙ ap root_at c.in_ok-reserve.ensures.same

pub returns-clause-same : goal.returns-clause-same
returns-clause-same c level =
    let grown = (rw c.unwrap.ensures at c.grow.ensures.grows).1 in
    let kept = c.in_ok-reserve.ensures.same in
    same_roots (roots_of c.grow.new.self) (roots_of c.args.ties) (omega (arith, grown.long, ap length kept)) (grown.roots ∙ ap root_at kept)
