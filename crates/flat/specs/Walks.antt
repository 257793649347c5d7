-- What is left on a way over flat lists. Assumes nothing.
use Rattle.std.specs.Borrow.{Bor}
use Rattle.std.specs.Prelude.{List, map}
use Rattle.flat.specs.declared.lists.walking.Iter.{Iter}
use Rattle.flat.specs.Spans.{Headed, headed, list_at}

-- the lists that are left
abbrev pub left : {H T : Type 0} → Iter H T → List (Headed H T)
left i = map (list_at i.items.now) i.spans.now

-- the list that a turn gives, as a head and a reference to the items
abbrev pub list_of : {H T : Type 0} → H × Bor (List T) → Headed H T
list_of x = headed x.0 x.1.now
