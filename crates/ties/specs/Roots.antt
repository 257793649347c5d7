-- What a list of roots says: which literals are tied, and how many bits are free. Assumes nothing.
use Rattle.std.specs.Prelude.{◌≡◌, ℕ, zero, suc, ◌+◌, ◌*◌, ◌<◌, ◌≤◌, Bool, true, false, cond, ◌&&◌, List, length, nat_le, nat_lt, slice_index_or}
use Rattle.order.specs.declared.literal.Literal.{Literal}
use Rattle.order.specs.declared.literal.Literal.TheVariants.{False, True, Bit, Not}
use Rattle.order.specs.Literals.{opposite, same}
use Rattle.ties.specs.Relations.{Relation, Least}
use Rattle.ties.specs.declared.joins.Joined.{Joined}
use Rattle.ties.specs.declared.joins.Joined.TheVariants.{Same, Made, Contradiction, Absent}

-- the order of the literals: false, true, bit 1, its opposite, bit 2 and so on
abbrev pub rank : Literal → ℕ
rank False = 0
rank True = 1
rank (Bit n) = 2 * n
rank (Not n) = 2 * n + 1

-- a root for each bit gives one for each literal
abbrev pub root_by : (ℕ → Literal) → Literal → Literal
root_by f False = False
root_by f True = True
root_by f (Bit n) = f n
root_by f (Not n) = opposite (f n)

-- two literals are tied where their roots are one
abbrev pub tied : (ℕ → Literal) → Relation
tied f l m = same (root_by f l) (root_by f m)

-- the root of bit n: entry n - 1, and the bit itself where there is none
abbrev pub root_at : List Literal → ℕ → Literal
root_at rs zero = Bit zero
root_at rs (suc n) = slice_index_or rs n (Bit (suc n))

-- how many k below n pass
abbrev pub count_below : (ℕ → Bool) → ℕ → ℕ
count_below p zero = 0
count_below p (suc n) = cond (p n) 1 0 + count_below p n

-- bit n is its own root
abbrev pub own : (ℕ → Literal) → ℕ → Bool
own f n = same (f n) (Bit n)

-- how many of the bits 1 to n are free
abbrev pub free_to : (ℕ → Literal) → ℕ → ℕ
free_to f n = count_below (λ k. own f (suc k)) n

-- how many bits are free
abbrev pub free : List Literal → ℕ
free rs = free_to (root_at rs) (length rs)

-- l is a constant, or its bit is one of 1 to n
abbrev pub there : ℕ → Literal → Bool
there n False = true
there n True = true
there n (Bit m) = nat_lt 0 m && nat_le m n
there n (Not m) = nat_lt 0 m && nat_le m n

-- a root comes no later than its bit
abbrev pub Lower : (ℕ → Literal) → Type 0
Lower f = (n : ℕ) → rank (f n) ≤ 2 * n

-- the root of bit n is a constant or one of the bits 1 to n, or its opposite
abbrev pub Named : (ℕ → Literal) → Type 0
Named f = (n : ℕ) → 0 < n → there n (f n) ≡ true

-- a root is its own root
abbrev pub Fixed : (ℕ → Literal) → Type 0
Fixed f = (n : ℕ) → root_by f (f n) ≡ f n

-- n more bits, tied to nothing
pub record Grown (rs : List Literal) (n : ℕ) (rs' : List Literal) : Type 0 where
  pub long : length rs' ≡ length rs + n
  pub roots : root_at rs' ≡ root_at rs
  pub freed : free rs' ≡ free rs + n

-- x and y are tied: one tie more, and one bit less is free
pub record Merged (rs : List Literal) (x y : Literal) (rs' : List Literal) : Type 0 where
  pub least : Least (tied (root_at rs)) x y (tied (root_at rs'))
  pub freed : free rs ≡ free rs' + 1
  pub long : length rs' ≡ length rs

-- what joining a and b answers, and what the roots are then
abbrev pub Joins : Joined → List Literal → Literal → Literal → List Literal → Type 0
Joins Same rs a b rs' = (rs' ≡ rs) × (tied (root_at rs) a b ≡ true)
Joins Made rs a b rs' = Merged rs a b rs'
Joins Contradiction rs a b rs' = (rs' ≡ rs) × (tied (root_at rs) a (opposite b) ≡ true)
Joins Absent rs a b rs' = (rs' ≡ rs) × ((there (length rs) a && there (length rs) b) ≡ false)
