use Rattle.std.proofs.Common.{[], vec_items}
use Rattle.words.specs.Lines.{lines_left}
use Rattle.answers.specs.Literals.{value_words}
use Rattle.answers.proofs.Gathering.{WordsLeft, words_of}
use Rattle.answers.proofs.literals.literals.Given as goal

-- the words of the value lines to come are left
abbrev pub invariant-loop-line : goal.invariant-loop-line
invariant-loop-line l =
    WordsLeft l.variables (value_words l.text) (words_of (lines_left l.line-iterator)) [] (vec_items l.out)
