-- What a job holds, as far as anyone can tell. Assumes nothing.
use Rattle.std.specs.Prelude.{ℕ, Bool, false, List, [], ◌∷◌, ◌++◌, slice_index_or}
use Rattle.order.specs.declared.literal.Literal.{Literal}
use Rattle.order.specs.declared.range.Range.{Range}
use Rattle.order.specs.Ranges.{total_bits}
use Rattle.ties.specs.Roots.{root_at, free_to}
use Rattle.kinds.specs.declared.item.Item.{Item}
use Rattle.rows.specs.Rows.{Posted}

-- the range of each variable, whether it is declared (else hidden), the rows, the root of each bit, and whether the job is void
pub record View : Type 0 where
  pub ranges : List Range
  pub declared : List Bool
  pub rows : List Posted
  pub root : ℕ → Literal
  pub void : Bool

-- a new job has no variable, row or tie and is not void
abbrev pub new_view : View
new_view = record { ranges = []; declared = []; rows = []; root = root_at []; void = false }

-- a job with one variable more, declared or hidden, whose bits are tied to nothing
abbrev pub with_variable : View → Bool → Range → View
with_variable v d r = record { ranges = v.ranges ++ r ∷ []; declared = v.declared ++ d ∷ []; rows = v.rows; root = v.root; void = v.void }

-- a job with one row more
abbrev pub with_row : View → ℕ → List Item → View
with_row v code items = record { ranges = v.ranges; declared = v.declared; rows = v.rows ++ record { code = code; items = items } ∷ []; root = v.root; void = v.void }

-- a job with other ties
abbrev pub with_ties : View → (ℕ → Literal) → Bool → View
with_ties v f b = record { ranges = v.ranges; declared = v.declared; rows = v.rows; root = f; void = b }

-- whether the variable x is declared
abbrev pub is_declared : View → ℕ → Bool
is_declared v x = slice_index_or v.declared x false

-- how many bits are free
abbrev pub free_bits : View → ℕ
free_bits v = free_to v.root (total_bits v.ranges)
