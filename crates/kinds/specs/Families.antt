-- Pairings by a variable's value: where s is k, the tie f k i stands for each i. Assumes nothing.
use Rattle.std.specs.Prelude.{ℕ, ◌+◌, Bool, ◌&&◌, List, [], ◌∷◌}
use Rattle.order.specs.declared.bound.Bound.{Bound}
use Rattle.order.specs.declared.range.Range.{Range}
use Rattle.order.specs.Between.{between}
use Rattle.order.specs.Bounds.{reaches}
use Rattle.order.specs.Ranges.{low, high}
use Rattle.kinds.specs.declared.item.Tie.{Tie}
use Rattle.kinds.specs.Items.{tie, Pairing, pairing}
use Rattle.kinds.specs.Tests.{some_between, all_between}

-- s is k: it reaches k, as it reaches its least value, and not k + 1, as it does not pass its greatest
abbrev pub settled : List Range → ℕ → ℕ → List Tie
settled rs s k = tie (reaches s k) (reaches s (low rs s)) ∷ tie (reaches s (k + 1)) (reaches s (high rs s + 1)) ∷ []

-- what the value k of s gives at i
abbrev pub given : List Range → ℕ → (ℕ → ℕ → Tie) → ℕ → ℕ → List Pairing
given rs s f k i = pairing (settled rs s k) (f k i) ∷ []

-- what it gives at each i from pl on and below pu
abbrev pub given_all : List Range → ℕ → (ℕ → ℕ → Tie) → ℕ → ℕ → ℕ → List Pairing
given_all rs s f pl pu k = between (given rs s f k) pl pu

-- what the values of s from sl on and below su give, at each i from pl on and below pu
abbrev pub family : List Range → ℕ → (ℕ → ℕ → Tie) → ℕ → ℕ → ℕ → ℕ → List Pairing
family rs s f sl su pl pu = between (given_all rs s f pl pu) sl su

-- whether a tie stands
abbrev pub stands : (Bound → Bound → Bool) → Tie → Bool
stands tied t = tied t.left t.right

-- whether s is settled at k
abbrev pub is_settled : (Bound → Bound → Bool) → List Range → ℕ → ℕ → Bool
is_settled tied rs s k = tied (reaches s k) (reaches s (low rs s)) && tied (reaches s (k + 1)) (reaches s (high rs s + 1))

-- whether the ties of the numbers from pl on and below pu stand
abbrev pub all_stand : (Bound → Bound → Bool) → (ℕ → Tie) → ℕ → ℕ → Bool
all_stand tied f pl pu = all_between (λ i. stands tied (f i)) pl pu

-- whether s is settled at a value from sl on and below su, and all that this gives stands
abbrev pub spent_by : (Bound → Bound → Bool) → List Range → ℕ → (ℕ → ℕ → Tie) → ℕ → ℕ → ℕ → ℕ → Bool
spent_by tied rs s f sl su pl pu = some_between (λ k. is_settled tied rs s k && all_stand tied (f k) pl pu) sl su
