use Rattle.std.proofs.Common.{◌≡◌, ◌<◌, drop}
use Rattle.words.specs.Shapes.{all_digits, digits_after, number}
use Rattle.words.proofs.shapes.decimal.Given as goal

-- what is left decides, and goes on from the value so far
abbrev pub invariant-loop-b : goal.invariant-loop-b
invariant-loop-b l =
    (all_digits l.word ≡ all_digits (drop l.b-index l.word))
    × (number l.word ≡ digits_after l.value (drop l.b-index l.word))
    × (l.value < 4294967296)
