-- Ranges, and the bits that come before those of a variable. Assumes nothing.
use Rattle.std.specs.Prelude.{◌≡◌, ℕ, zero, suc, ◌+◌, ◌-◌, ◌<◌, min, Bool, ◌&&◌, List, length, nat_le, slice_index, slice_index_or}
use Rattle.std.proofs.Math.Nat.{min-le_right}
use Rattle.std.proofs.Common.{lit≤}
use Rattle.order.specs.declared.range.Range.{Range}

-- two numbers are the ends of a range
abbrev pub is_range : ℕ → ℕ → Bool
is_range low high = nat_le low high && nat_le high 255

-- the range from low to high; where they are the ends of none, what lies past 255 or past high is cut off
abbrev pub range : ℕ → ℕ → Range
range low high = record {
  low = min low (min high 255);
  high = min high 255;
  ordered = min-le_right low (min high 255);
  small = min-le_right high 255;
}

-- the range of a variable that is not there
abbrev pub no_range : Range
no_range = record { low = 0; high = 0; ordered = lit≤ tt; small = lit≤ tt }

-- the least and the greatest value of the variable x
abbrev pub low : List Range → ℕ → ℕ
low rs x = (slice_index_or rs x no_range).low

abbrev pub high : List Range → ℕ → ℕ
high rs x = (slice_index_or rs x no_range).high

-- how many bits the variable x has
abbrev pub width : List Range → ℕ → ℕ
width rs x = high rs x - low rs x

-- how many bits come before those of x
abbrev pub first : List Range → ℕ → ℕ
first rs zero = 0
first rs (suc x) = first rs x + width rs x

-- how many bits there are
abbrev pub total_bits : List Range → ℕ
total_bits rs = first rs (length rs)

-- entry x of `before` is the number of bits before those of x
abbrev pub Placed : List Range → List ℕ → Type 0
Placed rs before = (x : ℕ) → x < length rs → slice_index before x ≡ first rs x
