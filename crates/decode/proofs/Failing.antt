-- The first number that fails a test is what `find` finds. Assumes nothing.
use Rattle.std.proofs.Common.{◌≡◌, ℕ, zero, suc, ◌+◌, Bool, not, find, refl, arith}
use Rattle.std.specs.List.{range_with_len}
use Rattle.promise.specs.Readings.{first_failing}

pub first_is_find : (p : ℕ → Bool) (a n : ℕ) → first_failing p a n ≡ find (λ x. not (p x)) (range_with_len a n)
first_is_find p a zero = refl
first_is_find p a (suc n) = grind (arith, first_is_find p (a + 1) n)
