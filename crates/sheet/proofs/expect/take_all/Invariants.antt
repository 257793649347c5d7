use Rattle.std.proofs.Common.{◌≡◌, map, ◌+◌, drop}
use Rattle.std.specs.Str.{bytes_eq}
use Rattle.words.specs.Words.{words_left}
use Rattle.sheet.specs.Lines.{misfit}
use Rattle.sheet.proofs.expect.take_all.Given as goal

abbrev pub invariant-loop-k : goal.invariant-loop-k
invariant-loop-k l = misfit (map (λ w. bytes_eq w.now) l.fn.expected) (words_left l.fn.words) 1 ≡ misfit (map (λ w. bytes_eq w.now) (drop l.k l.expected)) (words_left l.words) (l.k + 1)
