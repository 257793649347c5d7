-- What is promised of the clauses that are written. Assumes nothing.
use Rattle.std.specs.Prelude.{◌≡◌, ℕ, ◌<◌, ◌≤◌, Bool, true, List, Decides}
use Rattle.order.specs.declared.literal.Literal.{Literal}
use Rattle.order.specs.declared.literal.Literal.TheVariants.{Bit}
use Rattle.order.specs.Ranges.{total_bits}
use Rattle.ties.specs.Roots.{tied, Named, Fixed}
use Rattle.theory.specs.Truth.{all_true, through}
use Rattle.theory.specs.Values.{value, Shows, bits}
use Rattle.theory.specs.Rows.{Row}
use Rattle.theory.specs.Jobs.{Job, LawfulRows, output, Solves}
use Rattle.theory.specs.Closed.{Closed, Sound, Refused}
use Rattle.theory.specs.Hidden.{Sums, full, SameLayout, SumsUp, Layout}

-- the assignment satisfies each clause that is written
abbrev pub Satisfies : Job → (ℕ → Literal) → (ℕ → Bool) → Type 0
Satisfies j f α = all_true α (output j f) ≡ true

-- the values that an assignment gives, through the roots
abbrev pub values : Job → (ℕ → Literal) → (ℕ → Bool) → ℕ → ℕ
values j f α = value j.ranges (through f α)

-- each variable's bits are in order, and their values meet each row
pub record Read (j : Job) (f : ℕ → Literal) (α : ℕ → Bool) : Type 0 where
  pub in_order : Shows j.ranges (through f α) (values j f α)
  pub solves : Solves j (values j f α)

-- a bit of the job that is its own root
pub record Free (j : Job) (f : ℕ → Literal) (n : ℕ) : Type 0 where
  pub some : 0 < n
  pub within : n ≤ total_bits j.ranges
  pub own : f n ≡ Bit n

-- two assignments are one on the free bits
abbrev pub SameFree : Job → (ℕ → Literal) → (ℕ → Bool) → (ℕ → Bool) → Type 0
SameFree j f α β = (n : ℕ) → Free j f n → α n ≡ β n

-- the solutions and the satisfying assignments of the free bits, one for one
pub record OneForOne (j : Job) (f : ℕ → Literal) : Type 0 where
  pub to : (v : ℕ → ℕ) → Solves j v → Satisfies j f (bits j.ranges v)
  pub from : (α : ℕ → Bool) → Satisfies j f α → Solves j (values j f α)
  pub to_from : (v : ℕ → ℕ) → Solves j v → (x : ℕ) → values j f (bits j.ranges v) x ≡ v x
  pub from_to : (α : ℕ → Bool) → Satisfies j f α → SameFree j f (bits j.ranges (values j f α)) α
  pub only_free : (α β : ℕ → Bool) → SameFree j f α β → Satisfies j f α → Satisfies j f β
  pub same_values : (α β : ℕ → Bool) → SameFree j f α β → (x : ℕ) → values j f α x ≡ values j f β x
  pub same_free : (α β : ℕ → Bool) → Satisfies j f α → Satisfies j f β → ((x : ℕ) → values j f α x ≡ values j f β x) → SameFree j f α β

-- what satisfies the output gives values that meet each row; with ties that each closed set has, each solution comes so, and once; and where no set is closed there is none
pub record Promise (j : Job) : Type 0 where
  pub reads : (f : ℕ → Literal) (α : ℕ → Bool) → Decides (all_true α (output j f)) (Read j f α)
  pub one_for_one : (f : ℕ → Literal) → Fixed f → Named f → Sound j (tied f) → OneForOne j f
  pub no_solution : Refused j → (v : ℕ → ℕ) → Solves j v → ⊥

-- the promise for each job of lawful rows
abbrev pub Promises : Type 0
Promises = (j : Job) → LawfulRows j → Promise j

-- the layouts and the satisfying assignments of the free bits, one for one
pub record Layouts (s : Sums) (others : List Row) (j : Job) (f : ℕ → Literal) : Type 0 where
  pub to : (v : ℕ → ℕ) → Layout s others j v → Satisfies j f (bits j.ranges (full s v))
  pub from : (α : ℕ → Bool) → Satisfies j f α → Layout s others j (values j f α)
  pub to_from : (v : ℕ → ℕ) → Layout s others j v → SameLayout s (values j f (bits j.ranges (full s v))) v
  pub from_to : (α : ℕ → Bool) → Satisfies j f α → SameFree j f (bits j.ranges (full s (values j f α))) α
  pub same_free : (α β : ℕ → Bool) → Satisfies j f α → Satisfies j f β → SameLayout s (values j f α) (values j f β) → SameFree j f α β

-- the promise with hidden variables; and where no set is closed there is no layout
pub record LayoutPromise (s : Sums) (others : List Row) (j : Job) : Type 0 where
  pub layouts : (f : ℕ → Literal) → Fixed f → Named f → Sound j (tied f) → Layouts s others j f
  pub no_layout : Refused j → (v : ℕ → ℕ) → Layout s others j v → ⊥

-- that promise for each job of lawful rows whose hidden variables are sums
abbrev pub LaysOut : Type 0
LaysOut = (s : Sums) (others : List Row) (plus : ℕ → Row) (j : Job) → LawfulRows j → SumsUp s others plus j → LayoutPromise s others j

-- what compiling answers where it refuses nothing: the roots of the least closed set, and the clauses written with them
pub record Compiled (j : Job) (f : ℕ → Literal) (cs : List (List Literal)) : Type 0 where
  pub fixed : Fixed f
  pub named : Named f
  pub closed : Closed j (tied f)
  pub least : Sound j (tied f)
  pub written : cs ≡ output j f
