use Rattle.std.proofs.Common.{sym, ◌∙◌}
use Rattle.words.specs.Lines.{lines_left}
use Rattle.answers.specs.Claims.{claim_in}
use Rattle.answers.proofs.Claiming.{goes_on}
use Rattle.answers.proofs.claim.claim.Goals as goal

pub loop-line-preserved : goal.loop-line-preserved
loop-line-preserved c =
    goes_on (claim_in c.args.text.now) c.loop-line.seen (lines_left c.loop-line.line-iterator) (lines_left c.next.new.self) c.in-Some.line.now c.loop-line.invariant
    c.in-Some.ensures.steps.first c.in_ok-seen.seen (sym c.with_line.ensures ∙ c.in_ok-seen.was)
