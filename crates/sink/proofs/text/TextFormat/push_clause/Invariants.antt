use Rattle.std.proofs.Common.{take}
use Rattle.sink.specs.Buffers.{Appended}
use Rattle.sink.specs.Text.{lits_text}
use Rattle.sink.proofs.text.TextFormat.push_clause.Given as goal

abbrev pub invariant-loop-l : goal.invariant-loop-l
invariant-loop-l l = Appended l.initial.out l.out (lits_text (take l.l-index l.clause))
