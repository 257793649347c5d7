use Rattle.std.proofs.Common.{◌+◌, vec_items}
use Rattle.answers.proofs.Setting.{Truths}
use Rattle.answers.proofs.assignment.assignment.Given as goal

-- the truths of the numbers so far
abbrev pub invariant-loop-mark : goal.invariant-loop-mark
invariant-loop-mark l = Truths l.lits (l.mark-index + 1) (vec_items l.truths)
