use Rattle.std.proofs.Common.{◌≡◌, ◌++◌, map, take, drop}
use Rattle.ties.specs.Moves.{replaced}
use Rattle.ties.proofs.joins.replace_all.Given as goal

abbrev pub invariant-loop-root : goal.invariant-loop-root
invariant-loop-root l =
    l.root-items ≡ map (replaced l.old l.new) (take l.root-index l.fn.roots) ++ drop l.root-index l.fn.roots
