use Rattle.std.proofs.Common.{◌≤◌, vec_items, vec_len}
use Rattle.order.specs.Variables.{ranges_of}
use Rattle.cnf.specs.Numbered.{rooted}
use Rattle.cnf.proofs.Keeping.{Kept}
use Rattle.cnf.proofs.reduce.reduce.Given as goal

abbrev pub invariant-loop-bound : goal.invariant-loop-bound
invariant-loop-bound g l = record {
  kept : Kept (rooted (ranges_of l.variables) (g.R.Roots.root l.roots) l.clause) l.bound-index (vec_items l.room.literals);
  short : vec_len l.room.literals ≤ l.bound-index;
}
