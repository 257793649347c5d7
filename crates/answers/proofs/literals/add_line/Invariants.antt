use Rattle.std.proofs.Common.{vec_items}
use Rattle.words.specs.Split.{words}
use Rattle.words.specs.Words.{words_left}
use Rattle.answers.proofs.Gathering.{WordsLeft}
use Rattle.answers.proofs.literals.add_line.Given as goal

-- the words that are to come are left
abbrev pub invariant-loop-word : goal.invariant-loop-word
invariant-loop-word l =
    WordsLeft l.variables (words l.values) (words_left l.word-iterator) (vec_items l.initial.out) (vec_items l.out)
