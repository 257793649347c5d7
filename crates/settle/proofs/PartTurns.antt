-- What a turn over the lists of a part takes from it. Assumes nothing.
use Rattle.std.proofs.Common.{◌≡◌, ◌<◌, List, map, length, get_or, Option, Some, None, Bor, ap, ◌∙◌, arith}
use Rattle.std.specs.Iterator.{Yields}
use Rattle.std.proofs.lemmas.List.{get_or-map, length-map}
use Rattle.flat.specs.declared.lists.walking.Iter.{Iter}
use Rattle.flat.specs.Spans.{Headed}
use Rattle.flat.specs.Walks.{left, list_of}
use Rattle.flat.proofs.Walking.{steps, list_at_turn, turns_in_all}

-- the lists are those of the items cs, which are ds, and `back` gives an item for its list
module _ {H T C : Type 0} (item : C → Headed H T) (back : Headed H T → C) (undone : (c : C) → back (item c) ≡ c) (cs ds : List C) (are : cs ≡ ds) (ls : List (Headed H T)) (listed : ls ≡ map item cs) where
  listed_too : ls ≡ map item ds
  listed_too = listed ∙ ap (map item) are

  -- xs were yielded, and then r
  module _ (s : Iter H T) (all : left s ≡ ls) (xs : List (H × Bor (List T))) (t : Iter H T) (so-far : Yields steps s xs t) (r : Option (H × Bor (List T))) (u : Iter H T) where
    pub item_at_turn : (x : H × Bor (List T)) → r ≡ Some x → steps t r u → (length xs < length ds) × (back (list_of x) ≡ get_or ds (length xs) (back (list_of x)))
    item_at_turn x e h =
        let turn = list_at_turn (map item ds) s (all ∙ listed_too) xs t so-far r u x e h in
        let inside : length xs < length ds = omega (arith, turn.0, length-map ds item) in
        (inside, ap back (turn.1 ∙ get_or-map item ds (length xs) (back (list_of x)) (list_of x) inside) ∙ undone (get_or ds (length xs) (back (list_of x))))

    pub turns_in_items : r ≡ None → steps t r u → length xs ≡ length ds
    turns_in_items e h = turns_in_all (map item ds) s (all ∙ listed_too) xs t so-far r u e h ∙ length-map ds item
