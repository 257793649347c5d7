use Rattle.std.proofs.Common.{◌≤◌, length}
use Rattle.kinds.specs.Meaning.{valued}
use Rattle.promise.specs.Readings.{count_declared}
use Rattle.decode.proofs.Picking.{Placed}
use Rattle.decode.proofs.values.put_declared.Given as goal

abbrev pub invariant-loop-x : goal.invariant-loop-x
invariant-loop-x l = count_declared l.declared ≤ length l.initial.buffer → Placed l.declared (valued l.values) l.initial.buffer l.x l.at l.buffer
