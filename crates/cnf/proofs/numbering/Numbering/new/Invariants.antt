use Rattle.std.proofs.Common.{◌≡◌, ◌+◌, length, vec_items, vec_capacity}
use Rattle.cnf.proofs.NumberSteps.{Numbered}
use Rattle.cnf.proofs.numbering.Numbering.new.Given as goal

abbrev pub invariant-loop-n : goal.invariant-loop-n
invariant-loop-n g l = record {
  numbered : Numbered (g.R.Roots.root l.roots) (vec_items l.numbers) l.free;
  long : length (vec_items l.numbers) + 1 ≡ l.n;
  room : vec_capacity l.numbers ≡ l.bits;
}
