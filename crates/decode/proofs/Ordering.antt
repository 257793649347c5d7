-- Whether bits are in order, threshold by threshold. Assumes nothing.
use Rattle.std.proofs.Common.{◌≡◌, ℕ, zero, suc, ◌+◌, Bool, true, false, not, ◌&&◌, ◌||◌, List, refl, ap}
use Rattle.std.specs.List.{list_all, range_with_len}
use Rattle.order.specs.declared.range.Range.{Range}
use Rattle.order.specs.Bounds.{reach}
use Rattle.order.specs.Literals.{truth}
use Rattle.kinds.specs.Tests.{every}

-- where X reaches t + 1 it reaches t
abbrev pub keeps_order : List Range → (ℕ → Bool) → ℕ → ℕ → Bool
keeps_order rs β x t = not (truth β (reach rs x (t + 1))) || truth β (reach rs x t)

-- the same, where t is asked first
pub asked_first : (a b : Bool) → a || not b ≡ not b || a
asked_first true true = refl
asked_first true false = refl
asked_first false true = refl
asked_first false false = refl

-- a test of each number of a stretch is what `all` answers
pub every_is_all : (p : ℕ → Bool) (a n : ℕ) → every p a n ≡ list_all p (range_with_len a n)
every_is_all p a zero = refl
every_is_all p a (suc n) = ap (λ b. p a && b) (every_is_all p (a + 1) n)
