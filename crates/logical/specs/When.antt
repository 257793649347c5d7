-- A variable that says whether one variable is at most another. Assumes nothing.
use Rattle.std.specs.Prelude.{ℕ, ◌+◌, Bool, false, cond, List, [], ◌∷◌, ◌++◌, ◌==◌, nat_le}
use Rattle.order.specs.declared.bound.Bound.{Bound}
use Rattle.order.specs.declared.range.Range.{Range}
use Rattle.order.specs.Between.{between}
use Rattle.order.specs.Bounds.{reaches, misses}
use Rattle.order.specs.Ranges.{low, high}
use Rattle.kinds.specs.Items.{var, plain}
use Rattle.kinds.specs.Meaning.{Meaning}

-- where X is 1 and A reaches v, B does
abbrev pub upheld : ℕ → ℕ → ℕ → ℕ → List (List Bound)
upheld x a b v = (misses x 1 ∷ misses a v ∷ reaches b v ∷ []) ∷ []

-- where X is 0 and B reaches v, A passes it
abbrev pub denied : ℕ → ℕ → ℕ → ℕ → List (List Bound)
denied x a b v = (reaches x 1 ∷ misses b v ∷ reaches a (v + 1) ∷ []) ∷ []

-- the first for each value of A, then the second for each value of B
abbrev pub all_upheld : List Range → ℕ → ℕ → ℕ → List (List Bound)
all_upheld rs x a b = between (upheld x a b) (low rs a) (high rs a + 1)

abbrev pub all_denied : List Range → ℕ → ℕ → ℕ → List (List Bound)
all_denied rs x a b = between (denied x a b) (low rs b) (high rs b + 1)

-- 1 for true, 0 for false
abbrev pub as_number : Bool → ℕ
as_number t = cond t 1 0

-- X is 1 exactly when A is at most B, and 0 otherwise
abbrev pub when : Meaning
when = record {
  formed = plain 3;
  fits = λ items rs. nat_le (high rs (var items 0)) 1;
  meets = λ items v. (v (var items 0) == as_number (nat_le (v (var items 1)) (v (var items 2))));
  clauses = λ items rs. all_upheld rs (var items 0) (var items 1) (var items 2) ++ all_denied rs (var items 0) (var items 1) (var items 2);
  longest = 3;
  pairings = λ items rs. [];
  spends = λ items rs tied. false;
}
