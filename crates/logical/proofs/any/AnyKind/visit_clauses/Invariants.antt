use Rattle.std.proofs.Common.{◌≡◌, length, take}
use Rattle.logical.specs.Any.{bounds}
use Rattle.logical.proofs.any.AnyKind.visit_clauses.Given as goal

abbrev pub invariant-loop-k : goal.invariant-loop-k
invariant-loop-k g l = (length l.clause ≡ 64) × (take l.k l.clause ≡ bounds (take l.k l.first))
