use Rattle.answers.proofs.Marking.{MarksLeft}
use Rattle.answers.proofs.assignment.marks.Given as goal

-- what is left is to be marked
abbrev pub invariant-loop-lit : goal.invariant-loop-lit
invariant-loop-lit l = MarksLeft l.lits l.lit-index l.count l.marks.items
