-- A row that adds two variables: A + B = C. Assumes nothing.
use Rattle.std.specs.Prelude.{ℕ, ◌+◌, ◌-◌, Bool, true, ◌||◌, List, [], ◌∷◌, ◌++◌, ◌==◌}
use Rattle.order.specs.declared.bound.Bound.{Bound}
use Rattle.order.specs.declared.range.Range.{Range}
use Rattle.order.specs.Between.{between}
use Rattle.order.specs.Bounds.{reaches, misses}
use Rattle.order.specs.Ranges.{low, high}
use Rattle.kinds.specs.declared.item.Tie.{Tie}
use Rattle.kinds.specs.Families.{family, spent_by}
use Rattle.kinds.specs.Items.{var, plain, tie, Pairing}
use Rattle.kinds.specs.Meaning.{Meaning}
use Rattle.linear.specs.declared.plus.Link.{Link}
use Rattle.linear.specs.declared.plus.Link.TheVariants.{Sum, Difference}

-- where A reaches i and B reaches j, C reaches i + j; where A is at most i and B at most j, C is at most i + j
abbrev pub corner : ℕ → ℕ → ℕ → ℕ → ℕ → List (List Bound)
corner a b c i j =
    (misses a i ∷ misses b j ∷ reaches c (i + j) ∷ [])
    ∷ (reaches a (i + 1) ∷ reaches b (j + 1) ∷ misses c (i + j + 1) ∷ [])
    ∷ []

-- for each value j of B
abbrev pub corner_row : List Range → ℕ → ℕ → ℕ → ℕ → List (List Bound)
corner_row rs a b c i = between (corner a b c i) (low rs b) (high rs b + 1)

-- and each value i of A
abbrev pub corners : List Range → ℕ → ℕ → ℕ → List (List Bound)
corners rs a b c = between (corner_row rs a b c) (low rs a) (high rs a + 1)

-- where P + Q is k, P reaches i as Q is below k + 1 - i; where Q - P is k, P reaches i as Q reaches k + i
abbrev pub linked : Link → ℕ → ℕ → Tie
linked (Sum p q) k i = tie (reaches p i) (misses q (k + 1 - i))
linked (Difference p q) k i = tie (reaches p i) (reaches q (k + i))

-- the variable P, whose thresholds give ties
abbrev pub stepped : Link → ℕ
stepped (Sum p q) = p
stepped (Difference p q) = p

-- for each value k of S, and each threshold i of P
abbrev pub links : List Range → ℕ → Link → List Pairing
links rs s l = family rs s (linked l) (low rs s) (high rs s + 1) (low rs (stepped l)) (high rs (stepped l) + 2)

-- whether S is settled at one of its values, and all that this gives stands
abbrev pub links_stand : (Bound → Bound → Bool) → List Range → ℕ → Link → Bool
links_stand tied rs s l = spent_by tied rs s (linked l) (low rs s) (high rs s + 1) (low rs (stepped l)) (high rs (stepped l) + 2)

-- C is A + B, A is C - B, and B is C - A
abbrev pub all_links : List Range → ℕ → ℕ → ℕ → List Pairing
all_links rs a b c = links rs c (Sum a b) ++ (links rs a (Difference b c) ++ links rs b (Difference a c))

abbrev pub any_stand : (Bound → Bound → Bool) → List Range → ℕ → ℕ → ℕ → Bool
any_stand tied rs a b c = links_stand tied rs c (Sum a b) || (links_stand tied rs a (Difference b c) || links_stand tied rs b (Difference a c))

abbrev pub plus : Meaning
plus = record {
  formed = plain 3;
  fits = λ items rs. true;
  meets = λ items v. (v (var items 0) + v (var items 1) == v (var items 2));
  clauses = λ items rs. corners rs (var items 0) (var items 1) (var items 2);
  longest = 3;
  pairings = λ items rs. all_links rs (var items 0) (var items 1) (var items 2);
  spends = λ items rs tied. any_stand tied rs (var items 0) (var items 1) (var items 2);
}
