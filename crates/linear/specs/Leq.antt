-- A row that orders two variables: A ≤ B. Assumes nothing.
use Rattle.std.specs.Prelude.{ℕ, ◌+◌, true, false, List, [], ◌∷◌, nat_le}
use Rattle.order.specs.declared.bound.Bound.{Bound}
use Rattle.order.specs.declared.range.Range.{Range}
use Rattle.order.specs.Between.{between}
use Rattle.order.specs.Bounds.{reaches, misses}
use Rattle.order.specs.Ranges.{low, high}
use Rattle.kinds.specs.Items.{var, plain}
use Rattle.kinds.specs.Meaning.{Meaning}

-- where A reaches t, B does
abbrev pub rise : ℕ → ℕ → ℕ → List (List Bound)
rise a b t = (misses a t ∷ reaches b t ∷ []) ∷ []

-- for each value t of A
abbrev pub rises : List Range → ℕ → ℕ → List (List Bound)
rises rs a b = between (rise a b) (low rs a) (high rs a + 1)

abbrev pub leq : Meaning
leq = record {
  formed = plain 2;
  fits = λ items rs. true;
  meets = λ items v. nat_le (v (var items 0)) (v (var items 1));
  clauses = λ items rs. rises rs (var items 0) (var items 1);
  longest = 2;
  pairings = λ items rs. [];
  spends = λ items rs tied. false;
}
