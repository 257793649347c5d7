use Rattle.std.proofs.Common.{◌≡◌}
use Rattle.words.specs.Lines.{lines_left}
use Rattle.answers.specs.Claims.{claim_in}
use Rattle.answers.proofs.Claiming.{claim_after}
use Rattle.answers.proofs.claim.claim.Given as goal

-- what is left decides, after what was seen
abbrev pub invariant-loop-line : goal.invariant-loop-line
invariant-loop-line l = claim_in l.text ≡ claim_after l.seen (lines_left l.line-iterator)
