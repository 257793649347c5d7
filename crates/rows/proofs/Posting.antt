-- The rows as lists with heads: how many there are, and each of them. Assumes nothing.
use Rattle.std.proofs.Common.{◌≡◌, ℕ, ◌+◌, ◌<◌, ◌≤◌, true, false, List, [], ◌∷◌, map, length, get_or, slice_get, unwrap_or, sym, refl, ap, ◌∙◌, arith}
use Rattle.std.proofs.Math.ListN.{get_or-map}
use Rattle.std.proofs.lemmas.Bool.{le-leb, lt-leb}
use Rattle.std.proofs.lemmas.List.{length-map}
use Rattle.std.proofs.lemmas.List.Sums.{sum_by-cons}
use Rattle.std.proofs.lemmas.Option.{unwrap_or-slice_get}
use Rattle.flat.specs.Spans.{Headed, headed, items_in as items_in_lists}
use Rattle.flat.specs.Views.{lists_of}
use Rattle.kinds.specs.declared.item.Item.{Item}
use Rattle.rows.specs.declared.storage.Rows.{Rows}
use Rattle.rows.specs.Rows.{Posted, row_of, rows_of, posted, items_in, few_rows, few_items}

pub rows_length : (r : Rows) → length (rows_of r) ≡ length (lists_of r.lists)
rows_length r = length-map (lists_of r.lists) row_of

pub rows_small : (r : Rows) → length (rows_of r) ≤ 1024
rows_small r = omega (arith, rows_length r)

items_of : (ls : List (Headed ℕ Item)) → items_in (map row_of ls) ≡ items_in_lists ls
items_of [] = refl
items_of (l ∷ ls) = omega (arith, items_of ls, sum_by-cons (λ (k : Headed ℕ Item). length k.items) l ls)

pub rows_items : (r : Rows) → items_in (rows_of r) ≡ items_in_lists (lists_of r.lists)
rows_items r = items_of (lists_of r.lists)

-- whether there is room for one row more, and for n items more
pub rows_room : (r : Rows) → length (lists_of r.lists) < 1024 → few_rows (rows_of r) 1 ≡ true
rows_room r h = le-leb _ _ (omega (arith, rows_length r))

pub rows_full : (r : Rows) → 1024 ≤ length (lists_of r.lists) → few_rows (rows_of r) 1 ≡ false
rows_full r h = lt-leb _ _ (omega (arith, rows_length r))

pub items_room : (r : Rows) (n : ℕ) → items_in_lists (lists_of r.lists) + n ≤ 4096 → few_items (rows_of r) n ≡ true
items_room r n h = le-leb _ _ (omega (arith, rows_items r))

pub items_full : (r : Rows) (n : ℕ) → 4096 < items_in_lists (lists_of r.lists) + n → few_items (rows_of r) n ≡ false
items_full r n h = lt-leb _ _ (omega (arith, rows_items r))

-- the code and the items of the row at a place; 0 and none past the last
abbrev none : Headed ℕ Item
none = headed 0 []

pub code_at : (ls : List (Headed ℕ Item)) (k : ℕ) → unwrap_or (slice_get (map (λ (l : Headed ℕ Item). l.head) ls) k) 0 ≡ (posted (map row_of ls) k).code
code_at ls k =
    unwrap_or-slice_get (map (λ (l : Headed ℕ Item). l.head) ls) k 0
    ∙ get_or-map (λ (l : Headed ℕ Item). l.head) ls k none
    ∙ sym (ap (λ (p : Posted). p.code) (get_or-map row_of ls k none))

pub items_at : (ls : List (Headed ℕ Item)) (k : ℕ) → get_or (map (λ (l : Headed ℕ Item). l.items) ls) k [] ≡ (posted (map row_of ls) k).items
items_at ls k =
    get_or-map (λ (l : Headed ℕ Item). l.items) ls k none
    ∙ sym (ap (λ (p : Posted). p.items) (get_or-map row_of ls k none))
