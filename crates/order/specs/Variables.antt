-- The variables of a job, and one more of them. Assumes nothing.
use Rattle.std.specs.Prelude.{◌≡◌, ℕ, ◌+◌, ◌-◌, ◌≤◌, Bool, true, false, List, [], ◌∷◌, ◌++◌, length, Ok, Err, vec_items, vec_len, vec_capacity, Result, nat_le}
use Rattle.order.specs.declared.range.Range.{Range}
use Rattle.order.specs.declared.variables.Variables.{Variables}
use Rattle.order.specs.declared.variables.adding.AddError.{AddError}
use Rattle.order.specs.declared.variables.adding.AddError.TheVariants.{TooManyVariables, TooManyBits, NoMemory}
use Rattle.order.specs.Ranges.{total_bits}

-- the range of each variable
abbrev pub ranges_of : Variables → List Range
ranges_of v = vec_items v.ranges

-- with n more there are at most 512 variables
abbrev pub few_variables : List Range → ℕ → Bool
few_variables rs n = nat_le (length rs + n) 512

-- with n more there are at most 4,096 bits
abbrev pub few_bits : List Range → ℕ → Bool
few_bits rs n = nat_le (total_bits rs + n) 4096

-- what adding a range answers, and what the ranges are then
abbrev pub Adds : List Range → Range → Result ℕ AddError → List Range → Type 0
Adds rs r (Ok x) rs' = (few_variables rs 1 ≡ true) × (few_bits rs (r.high - r.low) ≡ true) × (x ≡ length rs) × (rs' ≡ rs ++ r ∷ [])
Adds rs r (Err TooManyVariables) rs' = (few_variables rs 1 ≡ false) × (rs' ≡ rs)
Adds rs r (Err TooManyBits) rs' = (few_variables rs 1 ≡ true) × (few_bits rs (r.high - r.low) ≡ false) × (rs' ≡ rs)
Adds rs r (Err NoMemory) rs' = (few_variables rs 1 ≡ true) × (few_bits rs (r.high - r.low) ≡ true) × (rs' ≡ rs)

-- there is memory for n variables more
abbrev pub Spare : Variables → ℕ → Type 0
Spare v n = (vec_len v.ranges + n ≤ vec_capacity v.ranges) × (vec_len v.before + n ≤ vec_capacity v.before)

-- no memory was given back
abbrev pub Keeps : Variables → Variables → Type 0
Keeps v v' = (vec_capacity v.ranges ≤ vec_capacity v'.ranges) × (vec_capacity v.before ≤ vec_capacity v'.before)

-- an answer that does not speak of memory
abbrev pub answered : Result ℕ AddError → Bool
answered (Ok x) = true
answered (Err TooManyVariables) = true
answered (Err TooManyBits) = true
answered (Err NoMemory) = false
