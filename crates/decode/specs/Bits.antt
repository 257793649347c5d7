-- Truths kept in lists. Assumes nothing.
use Rattle.std.specs.Prelude.{ℕ, zero, suc, Bool, false, List, slice_index_or}

-- the truth of the number n of the file, kept at place n
abbrev pub number_at : List Bool → ℕ → Bool
number_at ts n = slice_index_or ts n false

-- the truth of the bit n, kept at place n - 1
abbrev pub bit_at : List Bool → ℕ → Bool
bit_at bs zero = false
bit_at bs (suc n) = slice_index_or bs n false
