use Rattle.std.proofs.Common.{map, take}
use Rattle.sink.specs.Buffers.{Appended}
use Rattle.sink.specs.Wordwise.{lit_word}
use Rattle.sink.proofs.wordwise.WordsFormat.push_clause.Given as goal

abbrev pub invariant-loop-l : goal.invariant-loop-l
invariant-loop-l l = Appended l.initial.out l.out (map lit_word (take l.l-index l.clause))
