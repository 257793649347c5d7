-- Bounds of which at least one holds. Assumes nothing.
use Rattle.std.specs.Prelude.{Bool, true, false, ◌&&◌, List, [], ◌∷◌, map, length, take, nat_le}
use Rattle.std.specs.List.{list_all}
use Rattle.order.specs.declared.bound.Bound.{Bound}
use Rattle.order.specs.Bounds.{reaches}
use Rattle.kinds.specs.declared.item.Item.{Item}
use Rattle.kinds.specs.declared.item.Item.TheVariants.{Variable, Bounded}
use Rattle.kinds.specs.Meaning.{Meaning, some_holds}

-- the bound of an item; that of a variable always holds
abbrev pub bound_of : Item → Bound
bound_of (Variable x) = reaches x 0
bound_of (Bounded b) = b

abbrev pub bounds : List Item → List Bound
bounds items = map bound_of items

abbrev pub is_bound : Item → Bool
is_bound (Variable x) = false
is_bound (Bounded b) = true

abbrev pub bounds_only : List Item → Bool
bounds_only items = list_all is_bound items

-- at least one of 1 to 64 bounds holds
abbrev pub at_least_one : Meaning
at_least_one = record {
  formed = λ items. nat_le 1 (length items) && (nat_le (length items) 64 && bounds_only items);
  fits = λ items rs. true;
  meets = λ items v. some_holds v (bounds items);
  clauses = λ items rs. bounds (take 64 items) ∷ [];
  longest = 64;
  pairings = λ items rs. [];
  spends = λ items rs tied. false;
}
