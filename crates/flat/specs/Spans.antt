-- Lists that stand one after the other among items. Assumes nothing.
use Rattle.std.specs.Prelude.{ℕ, ◌≤◌, List, length, slice_range}
use Rattle.std.specs.List.{sum_by}
use Rattle.flat.specs.declared.lists.Span.{Span}

-- a list with its head
pub record Headed (H T : Type 0) : Type 0 where
  pub head : H
  pub items : List T

abbrev pub headed : {H T : Type 0} → H → List T → Headed H T
headed h xs = record { head = h; items = xs }

-- a span of some of the first n items
abbrev pub IsWithin : {H : Type 0} → ℕ → Span H → Type 0
IsWithin n s = (s.«from» ≤ s.to) × (s.to ≤ n)

-- the list of a span
abbrev pub list_at : {H T : Type 0} → List T → Span H → Headed H T
list_at items s = headed s.head (slice_range items s.«from» s.to)

-- how many items lists have in all
abbrev pub items_in : {H T : Type 0} → List (Headed H T) → ℕ
items_in {H} {T} ls = sum_by (λ (l : Headed H T). length l.items) ls
