use Rattle.std.proofs.Common.{◌+◌, ◌≤◌, vec_items, vec_len, vec_capacity}
use Rattle.ties.specs.Roots.{Grown}
use Rattle.ties.proofs.classes.Ties.grow.Given as goal

abbrev pub invariant-loop-i : goal.invariant-loop-i
invariant-loop-i l =
    Grown (vec_items l.initial.self.roots) l._i (vec_items l.self.roots)
    × (vec_len l.initial.self.roots + l.n ≤ vec_capacity l.self.roots)
    × (vec_len l.initial.self.roots + l.n ≤ 4096)
    × (vec_capacity l.initial.self.roots ≤ vec_capacity l.self.roots)
