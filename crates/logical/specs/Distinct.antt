-- Variables that all differ. Assumes nothing.
use Rattle.std.specs.Prelude.{ℕ, ◌+◌, Bool, true, false, cond, not, ◌&&◌, List, [], length, ◌==◌, nat_le}
use Rattle.order.specs.declared.bound.Bound.{Bound}
use Rattle.order.specs.declared.range.Range.{Range}
use Rattle.order.specs.Between.{between}
use Rattle.kinds.specs.declared.item.Item.{Item}
use Rattle.kinds.specs.Items.{var, variable_of, variables_only, Pairing}
use Rattle.kinds.specs.Meaning.{Meaning}
use Rattle.kinds.specs.Tests.{all_between}
use Rattle.logical.specs.Neq.{apart, excludes_each}

-- the items at the places p and q have different values; p and each later place have; every two places have
abbrev pub differ : List Item → (ℕ → ℕ) → ℕ → ℕ → Bool
differ items v p q = not (v (var items p) == v (var items q))

abbrev pub differ_later : List Item → (ℕ → ℕ) → ℕ → Bool
differ_later items v p = all_between (differ items v p) (p + 1) (length items)

abbrev pub all_differ : List Item → (ℕ → ℕ) → Bool
all_differ items v = all_between (differ_later items v) 0 (length items)

-- the clauses by which they differ, in the same order
abbrev pub apart_pair : List Item → List Range → ℕ → ℕ → List (List Bound)
apart_pair items rs p q = apart rs (var items p) (var items q)

abbrev pub apart_later : List Item → List Range → ℕ → List (List Bound)
apart_later items rs p = between (apart_pair items rs p) (p + 1) (length items)

abbrev pub all_apart : List Item → List Range → List (List Bound)
all_apart items rs = between (apart_later items rs) 0 (length items)

-- the clauses by which a variable and that of an item differ
abbrev pub apart_from : List Range → ℕ → Item → List (List Bound)
apart_from rs a i = apart rs a (variable_of i)

-- where the item at p is v, the one at another place q is not; the same for each q; the same for each p
abbrev pub excludes_pair : List Item → List Range → ℕ → ℕ → List Pairing
excludes_pair items rs p q = cond (p == q) [] (excludes_each rs (var items p) (var items q))

abbrev pub excludes_others : List Item → List Range → ℕ → List Pairing
excludes_others items rs p = between (excludes_pair items rs p) 0 (length items)

abbrev pub all_exclude : List Item → List Range → List Pairing
all_exclude items rs = between (excludes_others items rs) 0 (length items)

-- 2 to 32 variables, of which no two are equal
abbrev pub distinct : Meaning
distinct = record {
  formed = λ items. nat_le 2 (length items) && (nat_le (length items) 32 && variables_only items);
  fits = λ items rs. true;
  meets = all_differ;
  clauses = all_apart;
  longest = 4;
  pairings = all_exclude;
  spends = λ items rs tied. false;
}
