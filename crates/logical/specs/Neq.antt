-- Two variables that differ. Assumes nothing.
use Rattle.std.specs.Prelude.{ℕ, ◌+◌, min, max, true, false, not, List, [], ◌∷◌, ◌==◌}
use Rattle.order.specs.declared.bound.Bound.{Bound}
use Rattle.order.specs.declared.range.Range.{Range}
use Rattle.order.specs.Between.{between}
use Rattle.order.specs.Bounds.{reaches, misses}
use Rattle.order.specs.Ranges.{low, high}
use Rattle.kinds.specs.declared.item.Tie.{Tie}
use Rattle.kinds.specs.Families.{settled}
use Rattle.kinds.specs.Items.{var, plain, tie, Pairing, pairing}
use Rattle.kinds.specs.Meaning.{Meaning}

-- the values that A and B can both have: from the greater low on, and below one past the lesser high
abbrev pub shared_from : List Range → ℕ → ℕ → ℕ
shared_from rs a b = max (low rs a) (low rs b)

abbrev pub shared_past : List Range → ℕ → ℕ → ℕ
shared_past rs a b = min (high rs a) (high rs b) + 1

-- A and B are not both v
abbrev pub not_both : ℕ → ℕ → ℕ → List (List Bound)
not_both a b v = (misses a v ∷ reaches a (v + 1) ∷ misses b v ∷ reaches b (v + 1) ∷ []) ∷ []

-- A and B differ
abbrev pub apart : List Range → ℕ → ℕ → List (List Bound)
apart rs a b = between (not_both a b) (shared_from rs a b) (shared_past rs a b)

-- X is not v: it reaches v as it reaches v + 1
abbrev pub skips : ℕ → ℕ → Tie
skips x v = tie (reaches x v) (reaches x (v + 1))

-- where A is v, B is not
abbrev pub excludes : List Range → ℕ → ℕ → ℕ → Pairing
excludes rs a b v = pairing (settled rs a v) (skips b v)

-- the same for each value that both can have
abbrev pub excluded_at : List Range → ℕ → ℕ → ℕ → List Pairing
excluded_at rs a b v = excludes rs a b v ∷ []

abbrev pub excludes_each : List Range → ℕ → ℕ → List Pairing
excludes_each rs a b = between (excluded_at rs a b) (shared_from rs a b) (shared_past rs a b)

-- where A is v exactly when B is, A is not v: both reach v and v + 1 alike, or each in the other's place
abbrev pub alike : ℕ → ℕ → ℕ → Pairing
alike a b v = pairing (tie (reaches a v) (reaches b v) ∷ tie (reaches a (v + 1)) (reaches b (v + 1)) ∷ []) (skips a v)

abbrev pub mirrored : ℕ → ℕ → ℕ → Pairing
mirrored a b v = pairing (tie (reaches a v) (misses b (v + 1)) ∷ tie (reaches a (v + 1)) (misses b v) ∷ []) (skips a v)

-- what is told of the value v, and of each value that both can have
abbrev pub told_of : List Range → ℕ → ℕ → ℕ → List Pairing
told_of rs a b v = excludes rs a b v ∷ excludes rs b a v ∷ alike a b v ∷ mirrored a b v ∷ []

abbrev pub apart_pairings : List Range → ℕ → ℕ → List Pairing
apart_pairings rs a b = between (told_of rs a b) (shared_from rs a b) (shared_past rs a b)

-- A is not B
abbrev pub neq : Meaning
neq = record {
  formed = plain 2;
  fits = λ items rs. true;
  meets = λ items v. not (v (var items 0) == v (var items 1));
  clauses = λ items rs. apart rs (var items 0) (var items 1);
  longest = 4;
  pairings = λ items rs. apart_pairings rs (var items 0) (var items 1);
  spends = λ items rs tied. false;
}
