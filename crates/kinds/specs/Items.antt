-- Items of a row, ties between bounds, and pairings. Assumes nothing.
use Rattle.std.specs.Prelude.{ℕ, Bool, true, false, ◌&&◌, ◌||◌, List, [], ◌∷◌, length, ◌==◌, slice_index_or}
use Rattle.std.specs.List.{list_all}
use Rattle.order.specs.declared.bound.Bound.{Bound}
use Rattle.kinds.specs.declared.item.Item.{Item}
use Rattle.kinds.specs.declared.item.Item.TheVariants.{Variable, Bounded}
use Rattle.kinds.specs.declared.item.Tie.{Tie}

-- the variable that an item names
abbrev pub variable_of : Item → ℕ
variable_of (Variable x) = x
variable_of (Bounded b) = b.variable

-- the variable of the item at k
abbrev pub var : List Item → ℕ → ℕ
var items k = variable_of (slice_index_or items k (Variable 0))

-- whether a row names the variable x
abbrev pub names : List Item → ℕ → Bool
names [] x = false
names (i ∷ items) x = variable_of i == x || names items x

abbrev pub is_variable : Item → Bool
is_variable (Variable x) = true
is_variable (Bounded b) = false

abbrev pub variables_only : List Item → Bool
variables_only items = list_all is_variable items

-- n items, each a variable
abbrev pub plain : ℕ → List Item → Bool
plain n items = length items == n && variables_only items

abbrev pub tie : Bound → Bound → Tie
tie p q = record { left = p; right = q }

-- where each tie of the premise stands, so does another
pub record Pairing : Type 0 where
  pub premise : List Tie
  pub gives : Tie

abbrev pub pairing : List Tie → Tie → Pairing
pairing ts t = record { premise = ts; gives = t }
