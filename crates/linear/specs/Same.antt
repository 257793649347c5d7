-- A row that equates two variables: A = B. Assumes nothing.
use Rattle.std.specs.Prelude.{ℕ, ◌+◌, min, max, true, false, List, [], ◌∷◌, ◌==◌}
use Rattle.order.specs.declared.bound.Bound.{Bound}
use Rattle.order.specs.declared.range.Range.{Range}
use Rattle.order.specs.Between.{between}
use Rattle.order.specs.Bounds.{reaches, misses}
use Rattle.order.specs.Ranges.{low, high}
use Rattle.kinds.specs.Items.{var, plain, tie, Pairing, pairing}
use Rattle.kinds.specs.Meaning.{Meaning}

-- where A reaches t, B does, and where B reaches t, A does
abbrev pub level : ℕ → ℕ → ℕ → List (List Bound)
level a b t = (misses a t ∷ reaches b t ∷ []) ∷ (reaches a t ∷ misses b t ∷ []) ∷ []

-- A reaches t as B does, whatever else holds
abbrev pub match : ℕ → ℕ → ℕ → List Pairing
match a b t = pairing [] (tie (reaches a t) (reaches b t)) ∷ []

-- the thresholds are those above the least value of the two, up to the greatest
abbrev pub start : List Range → ℕ → ℕ → ℕ
start rs a b = min (low rs a) (low rs b) + 1

abbrev pub end : List Range → ℕ → ℕ → ℕ
end rs a b = max (high rs a) (high rs b) + 1

abbrev pub levels : List Range → ℕ → ℕ → List (List Bound)
levels rs a b = between (level a b) (start rs a b) (end rs a b)

abbrev pub matches : List Range → ℕ → ℕ → List Pairing
matches rs a b = between (match a b) (start rs a b) (end rs a b)

abbrev pub same : Meaning
same = record {
  formed = plain 2;
  fits = λ items rs. true;
  meets = λ items v. (v (var items 0) == v (var items 1));
  clauses = λ items rs. levels rs (var items 0) (var items 1);
  longest = 2;
  pairings = λ items rs. matches rs (var items 0) (var items 1);
  spends = λ items rs tied. false;
}
