-- A way over flat lists: which list each turn has, and how many turns there are. Assumes nothing.
use Rattle.std.proofs.Common.{◌≡◌, ◌<◌, List, length, get_or, Option, Some, None, Bor}
use Rattle.std.specs.Iterator.{Yields, YieldsFirstBy}
use Rattle.std.proofs.lemmas.Iterator.Consumers.{YieldsList-end, YieldsList-from_first, YieldsList-turn}
use Rattle.flat.specs.declared.lists.walking.Iter.{Iter}
use Rattle.flat.specs.Spans.{Headed}
use Rattle.flat.specs.Walks.{left, list_of}

module _ {H T : Type 0} where
  abbrev pub steps : Iter H T → Option (H × Bor (List T)) → Iter H T → Type 0
  steps = YieldsFirstBy list_of left

  -- from s on, xs were yielded, and then r
  module _ (ls : List (Headed H T)) (s : Iter H T) (all : left s ≡ ls) (xs : List (H × Bor (List T))) (t : Iter H T) (so-far : Yields steps s xs t) (r : Option (H × Bor (List T))) (u : Iter H T) where
    pub list_at_turn : (x : H × Bor (List T)) → r ≡ Some x → steps t r u → (length xs < length ls) × (list_of x ≡ get_or ls (length xs) (list_of x))
    list_at_turn x e h = YieldsList-turn (YieldsList-from_first list_of left ls all) xs t so-far r u x e h

    pub turns_in_all : r ≡ None → steps t r u → length xs ≡ length ls
    turns_in_all e h = (YieldsList-end (YieldsList-from_first list_of left ls all) xs t so-far r u e h).1
