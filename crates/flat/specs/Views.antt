-- What flat lists hold, and for how many more there is memory. Assumes nothing.
use Rattle.std.specs.Prelude.{ℕ, ◌+◌, ◌≤◌, List, map, vec_items, vec_len, vec_capacity}
use Rattle.flat.specs.declared.lists.Lists.{Lists}
use Rattle.flat.specs.Spans.{Headed, list_at}

-- the lists with their heads, in order
abbrev pub lists_of : {H T : Type 0} → Lists H T → List (Headed H T)
lists_of l = map (list_at (vec_items l.items)) (vec_items l.spans)

-- there is memory for n lists with m items more
abbrev pub Spare : {H T : Type 0} → Lists H T → ℕ → ℕ → Type 0
Spare l n m = (vec_len l.spans + n ≤ vec_capacity l.spans) × (vec_len l.items + m ≤ vec_capacity l.items)

-- no memory was given back
abbrev pub Keeps : {H T : Type 0} → Lists H T → Lists H T → Type 0
Keeps l l' = (vec_capacity l.spans ≤ vec_capacity l'.spans) × (vec_capacity l.items ≤ vec_capacity l'.items)
