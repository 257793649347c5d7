use Rattle.std.proofs.Common.{◌≡◌, ◌+◌, ◌≤◌, max, length, vec_items}
use Rattle.ties.specs.Roots.{root_at, free_to}
use Rattle.ties.specs.Views.{roots_of}
use Rattle.theory.specs.Truth.{through}
use Rattle.decode.specs.Bits.{number_at}
use Rattle.decode.proofs.BitSteps.{AreBits}
use Rattle.decode.proofs.bits.bit_truths.Given as goal

abbrev pub invariant-loop-n : goal.invariant-loop-n
invariant-loop-n l =
    let f = root_at (roots_of l.ties) in
    (length (vec_items l.bits) + 1 ≡ l.n)
    × AreBits (through f (λ m. number_at l.truths (free_to f m))) (vec_items l.bits)
    × (l.n ≤ max 1 l.count)
