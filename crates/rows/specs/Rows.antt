-- The rows of a job, and one more of them. Assumes nothing.
use Rattle.std.specs.Prelude.{◌≡◌, ℕ, ◌+◌, Bool, true, false, List, [], ◌∷◌, ◌++◌, map, length, Ok, Err, Result, nat_le, slice_index_or}
use Rattle.flat.specs.Spans.{Headed}
use Rattle.flat.specs.Views.{lists_of, Spare as SpareLists, Keeps as KeepsLists}
use Rattle.kinds.specs.declared.item.Item.{Item}
use Rattle.rows.specs.declared.adding.RowsError.{RowsError}
use Rattle.rows.specs.declared.adding.RowsError.TheVariants.{TooManyRows, TooManyItems, NoMemory}
use Rattle.rows.specs.declared.storage.Rows.{Rows}

-- a row: a code and its items
pub record Posted : Type 0 where
  pub code : ℕ
  pub items : List Item

-- the row that a list of items is, with its code as the head
abbrev pub row_of : Headed ℕ Item → Posted
row_of l = record { code = l.head; items = l.items }

-- the rows, in the order of posting
abbrev pub rows_of : Rows → List Posted
rows_of r = map row_of (lists_of r.lists)

-- the row at a place; one with no items where there is none
abbrev pub posted : List Posted → ℕ → Posted
posted rs k = slice_index_or rs k (record { code = 0; items = [] })

-- how many items rows have in all
abbrev pub items_in : List Posted → ℕ
items_in [] = 0
items_in (r ∷ rs) = length r.items + items_in rs

-- with n more there are at most 1,024 rows
abbrev pub few_rows : List Posted → ℕ → Bool
few_rows rs n = nat_le (length rs + n) 1024

-- with n more there are at most 4,096 items
abbrev pub few_items : List Posted → ℕ → Bool
few_items rs n = nat_le (items_in rs + n) 4096

-- what adding a row answers, and what the rows are then
abbrev pub Adds : List Posted → ℕ → List Item → Result ℕ RowsError → List Posted → Type 0
Adds rs code items (Ok k) rs' = (few_rows rs 1 ≡ true) × (few_items rs (length items) ≡ true) × (k ≡ length rs) × (rs' ≡ rs ++ record { code = code; items = items } ∷ [])
Adds rs code items (Err TooManyRows) rs' = (few_rows rs 1 ≡ false) × (rs' ≡ rs)
Adds rs code items (Err TooManyItems) rs' = (few_rows rs 1 ≡ true) × (few_items rs (length items) ≡ false) × (rs' ≡ rs)
Adds rs code items (Err NoMemory) rs' = (few_rows rs 1 ≡ true) × (few_items rs (length items) ≡ true) × (rs' ≡ rs)

-- there is memory for n rows with m items more
abbrev pub Spare : Rows → ℕ → ℕ → Type 0
Spare r n m = SpareLists r.lists n m

-- no memory was given back
abbrev pub Keeps : Rows → Rows → Type 0
Keeps r r' = KeepsLists r.lists r'.lists

-- an answer that does not speak of memory
abbrev pub answered : Result ℕ RowsError → Bool
answered (Ok k) = true
answered (Err TooManyRows) = true
answered (Err TooManyItems) = true
answered (Err NoMemory) = false
