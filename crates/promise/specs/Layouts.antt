-- Layouts: values of the declared variables that the accepted calls permit. Assumes nothing.
use Rattle.std.specs.Prelude.{◌≡◌, ℕ, ◌+◌, ◌≤◌, Bool, true, cond, List, [], ◌∷◌, is_ok, vec_items, ◌==◌, nat_le}
use Rattle.order.specs.Ranges.{low, high}
use Rattle.kinds.specs.declared.item.Item.{Item}
use Rattle.kinds.specs.Items.{variable_of}
use Rattle.theory.specs.Jobs.{Solves}
use Rattle.calls.specs.declared.call.Call.{Call}
use Rattle.calls.specs.declared.call.Call.TheVariants.{Declare, Post, Total, Settle}
use Rattle.calls.specs.Catalogues.{Catalogue}
use Rattle.calls.specs.Runs.{Answer}
use Rattle.calls.specs.Settles.{rules}
use Rattle.calls.specs.View.{View, is_declared}

-- the sum of the items' values, each as often as it stands
abbrev pub sum_of : (ℕ → ℕ) → List Item → ℕ
sum_of u [] = 0
sum_of u (i ∷ items) = u (variable_of i) + sum_of u items

-- whether s has the relation to t: 1 equal, 2 at most, 3 at least
abbrev pub related : ℕ → ℕ → ℕ → Bool
related relation s t = cond (relation == 1) (s == t) (cond (relation == 3) (nat_le t s) (nat_le s t))

-- whether values hold what a call asks: a row by its kind's meaning, a total by its sum
abbrev pub holds_call : Catalogue → (ℕ → ℕ) → Call → Bool
holds_call k u (Declare low high) = true
holds_call k u (Post code items) = (k.meaning code).meets (vec_items items) u
holds_call k u (Total relation target items) = related relation (sum_of u (vec_items items)) (u (variable_of target))
holds_call k u Settle = true

-- the values hold all that the accepted calls ask
abbrev pub HoldsAll : Catalogue → (ℕ → ℕ) → List Call → List Answer → Type 0
HoldsAll k u [] answers = Unit {0}
HoldsAll k u (c ∷ cs) [] = Unit {0}
HoldsAll k u (c ∷ cs) (a ∷ answers) = (is_ok a ≡ true → holds_call k u c ≡ true) × HoldsAll k u cs answers

-- a permitted layout: each declared variable has a value in its range, and all accepted rows and totals hold
pub record Permitted (k : Catalogue) (cs : List Call) (answers : List Answer) (v : View) (u : ℕ → ℕ) : Type 0 where
  pub above : (x : ℕ) → is_declared v x ≡ true → low v.ranges x ≤ u x
  pub below : (x : ℕ) → is_declared v x ≡ true → u x ≤ high v.ranges x
  pub holds : HoldsAll k u cs answers

-- two layouts are one: the declared variables have the same values
abbrev pub SameLayout : View → (ℕ → ℕ) → (ℕ → ℕ) → Type 0
SameLayout v u w = (x : ℕ) → is_declared v x ≡ true → u x ≡ w x

-- each layout is that of exactly one solution of the job's rules, and each solution is a layout
pub record LayoutsSolve (k : Catalogue) (cs : List Call) (answers : List Answer) (v : View) : Type 0 where
  pub extends : (u : ℕ → ℕ) → Permitted k cs answers v u → (w : ℕ → ℕ) × (Solves (rules k v) w × SameLayout v w u)
  pub permitted : (w : ℕ → ℕ) → Solves (rules k v) w → Permitted k cs answers v w
  pub only : (w w' : ℕ → ℕ) → Solves (rules k v) w → Solves (rules k v) w' → SameLayout v w w' → (x : ℕ) → w x ≡ w' x
