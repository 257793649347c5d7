-- A job within a larger one: more variables and more rows. Assumes nothing.
use Rattle.std.specs.Prelude.{◌≡◌, ℕ, ◌<◌, ◌≤◌, List, length}
use Rattle.std.specs.List.{ContainsAt, AllByRecursion}
use Rattle.order.specs.declared.bound.Bound.{Bound}
use Rattle.order.specs.Ranges.{low, high}
use Rattle.ties.specs.Relations.{Relation}
use Rattle.kinds.specs.declared.item.Tie.{Tie}
use Rattle.kinds.specs.Items.{Pairing}
use Rattle.theory.specs.Rows.{Row}
use Rattle.theory.specs.Jobs.{Job}
use Rattle.theory.specs.Closed.{Closed, Sound, Refused}

-- the bound is on one of the first n variables
abbrev pub Known : ℕ → Bound → Type 0
Known n b = b.variable < n

-- both bounds of a tie are
abbrev pub KnownTie : ℕ → Tie → Type 0
KnownTie n t = Known n t.left × Known n t.right

-- all bounds of a pairing are
abbrev pub KnownPairing : ℕ → Pairing → Type 0
KnownPairing n p = AllByRecursion (KnownTie n) p.premise × KnownTie n p.gives

-- the row's bounds are on the first n variables
pub record KnownRow (n : ℕ) (w : Row) : Type 0 where
  pub clauses : AllByRecursion (AllByRecursion (Known n)) w.clauses
  pub pairings : AllByRecursion (KnownPairing n) w.pairings

-- one of the rows has the clauses and the pairings of w
pub record Stays (ws : List Row) (w : Row) : Type 0 where
  pub row : Row
  pub among : ContainsAt ws row
  pub clauses : row.clauses ≡ w.clauses
  pub pairings : row.pairings ≡ w.pairings

-- k has the variables of j, with their ranges, and the rows of j
pub record Larger (j k : Job) : Type 0 where
  pub more : length j.ranges ≤ length k.ranges
  pub lows : (x : ℕ) → x < length j.ranges → low k.ranges x ≡ low j.ranges x
  pub highs : (x : ℕ) → x < length j.ranges → high k.ranges x ≡ high j.ranges x
  pub rows : AllByRecursion (Stays k.rows) j.rows
  pub known : AllByRecursion (KnownRow (length j.ranges)) j.rows

-- what a larger job keeps of a job within it: a set closed for k is closed for j, and what is sound or refused for j is so for k
pub record Keeps (j k : Job) : Type 0 where
  pub closed : (S : Relation) → Closed k S → Closed j S
  pub sound : (R : Relation) → Sound j R → Sound k R
  pub refused : Refused j → Refused k

-- each larger job keeps what a job within it has
abbrev pub LargerKeeps : Type 0
LargerKeeps = (j k : Job) → Larger j k → Keeps j k
