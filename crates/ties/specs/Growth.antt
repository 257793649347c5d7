-- What adding bits answers. Assumes nothing.
use Rattle.std.specs.Prelude.{◌≡◌, ℕ, ◌+◌, ◌<◌, ◌≤◌, Bool, true, false, List, length, Ok, Err, vec_len, vec_capacity, Result}
use Rattle.order.specs.declared.literal.Literal.{Literal}
use Rattle.ties.specs.Roots.{Grown}
use Rattle.ties.specs.declared.classes.Ties.{Ties}
use Rattle.ties.specs.declared.classes.growing.GrowError.{GrowError}
use Rattle.ties.specs.declared.classes.growing.GrowError.TheVariants.{TooManyBits, NoMemory}

-- what adding n bits answers, and what the roots are then
abbrev pub Grows : Result (Unit {0}) GrowError → List Literal → ℕ → List Literal → Type 0
Grows (Ok u) rs n rs' = (length rs + n ≤ 4096) × Grown rs n rs'
Grows (Err TooManyBits) rs n rs' = (4096 < length rs + n) × (rs' ≡ rs)
Grows (Err NoMemory) rs n rs' = (length rs + n ≤ 4096) × (rs' ≡ rs)

-- there is memory for n bits more
abbrev pub Spare : Ties → ℕ → Type 0
Spare t n = vec_len t.roots + n ≤ vec_capacity t.roots

-- no memory was given back
abbrev pub Keeps : Ties → Ties → Type 0
Keeps t t' = vec_capacity t.roots ≤ vec_capacity t'.roots

-- an answer that does not speak of memory
abbrev pub answered : Result (Unit {0}) GrowError → Bool
answered (Ok u) = true
answered (Err TooManyBits) = true
answered (Err NoMemory) = false
