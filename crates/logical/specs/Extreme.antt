-- The greater and the lesser of two variables: one rule, in two directions. Assumes nothing.
use Rattle.std.specs.Prelude.{ℕ, ◌+◌, min, max, Bool, true, false, cond, not, List, [], ◌∷◌, ◌==◌}
use Rattle.order.specs.declared.bound.Bound.{Bound}
use Rattle.order.specs.declared.range.Range.{Range}
use Rattle.order.specs.Between.{between}
use Rattle.order.specs.Bounds.{reaches}
use Rattle.order.specs.Ranges.{low, high}
use Rattle.kinds.specs.Items.{var, plain, tie, Pairing, pairing}
use Rattle.kinds.specs.Meaning.{Meaning}

-- X(v), or its opposite where down
abbrev pub side : Bool → ℕ → ℕ → Bound
side down x v = record { variable = x; at = v; opposed = down }

-- the greater of two numbers, or the lesser where down
abbrev pub extreme_of : Bool → ℕ → ℕ → ℕ
extreme_of down x y = cond down (min x y) (max x y)

-- the thresholds above the least low of three variables, and up to the greatest high
abbrev pub least_past : List Range → ℕ → ℕ → ℕ → ℕ
least_past rs a b c = min (min (low rs a) (low rs b)) (low rs c) + 1

abbrev pub greatest_past : List Range → ℕ → ℕ → ℕ → ℕ
greatest_past rs a b c = max (max (high rs a) (high rs b)) (high rs c) + 1

-- where A or B holds at v, C does; where C does, A or B does
abbrev pub chosen_at : Bool → ℕ → ℕ → ℕ → ℕ → List (List Bound)
chosen_at down a b c v =
    (side (not down) a v ∷ side down c v ∷ [])
    ∷ (side (not down) b v ∷ side down c v ∷ [])
    ∷ (side down a v ∷ side down b v ∷ side (not down) c v ∷ [])
    ∷ []

abbrev pub extreme_clauses : Bool → List Range → ℕ → ℕ → ℕ → List (List Bound)
extreme_clauses down rs a b c = between (chosen_at down a b c) (least_past rs a b c) (greatest_past rs a b c)

-- X is above its greatest value, which is false
abbrev pub passes : List Range → ℕ → Bound
passes rs x = reaches x (high rs x + 1)

-- where B does not hold at v, C holds as A does; where A does not, C holds as B does. No-a and no-b are bounds
-- of A and of B that are false
abbrev pub told_at : Bool → Bound → Bound → ℕ → ℕ → ℕ → ℕ → List Pairing
told_at down no-a no-b a b c v =
    pairing (tie (side down b v) no-b ∷ []) (tie (side down c v) (side down a v))
    ∷ pairing (tie (side down a v) no-a ∷ []) (tie (side down c v) (side down b v))
    ∷ []

abbrev pub extreme_pairings : Bool → List Range → ℕ → ℕ → ℕ → List Pairing
extreme_pairings down rs a b c = between (told_at down (passes rs a) (passes rs b) a b c) (least_past rs a b c) (greatest_past rs a b c)

-- C is the greater of A and B, or the lesser where down
abbrev pub extreme : Bool → Meaning
extreme down = record {
  formed = plain 3;
  fits = λ items rs. true;
  meets = λ items v. (v (var items 2) == extreme_of down (v (var items 0)) (v (var items 1)));
  clauses = λ items rs. extreme_clauses down rs (var items 0) (var items 1) (var items 2);
  longest = 3;
  pairings = λ items rs. extreme_pairings down rs (var items 0) (var items 1) (var items 2);
  spends = λ items rs tied. false;
}
