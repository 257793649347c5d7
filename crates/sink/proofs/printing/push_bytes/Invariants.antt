use Rattle.std.proofs.Common.{take}
use Rattle.sink.specs.Buffers.{Appended}
use Rattle.sink.proofs.printing.push_bytes.Given as goal

abbrev pub invariant-loop-b : goal.invariant-loop-b
invariant-loop-b l = Appended l.initial.out l.out (take l.b-index l.bytes)
