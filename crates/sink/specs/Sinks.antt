-- What a sink holds, what it takes, and what is left of it then. Assumes nothing.
use Rattle.std.specs.Prelude.{◌≡◌, ℕ, ◌-◌, ◌≤◌, min, Bool, true, false, cond, not, ◌&&◌, List, [], ◌∷◌, ◌++◌, length, is_some, Some, None, Option, nat_le, nat_lt}
use Rattle.std.specs.List.{list_all}
use Rattle.sink.specs.declared.header.Header.{Header}
use Rattle.sink.specs.declared.lit.Lit.{Lit}

-- what a sink holds: a header or none, its clauses, and its units left
pub record State : Type 0 where
  pub header : Option Header
  pub clauses : List (List Lit)
  pub left : ℕ

-- what a header and a clause cost
pub record Costs : Type 0 where
  pub header : Header → ℕ
  pub clause : List Lit → ℕ

-- at most 4,096 variables, and fewer than 2^31 clauses
abbrev pub proper_header : Header → Bool
proper_header h = nat_le h.variables 4096 && nat_lt h.clauses 2147483648

-- the literals are of the variables 1 to v
abbrev pub proper_lits : ℕ → List Lit → Bool
proper_lits v = list_all (λ l. nat_lt 0 l.variable && nat_le l.variable v)

-- at most 64 literals, of the variables 1 to v
abbrev pub proper_clause : ℕ → List Lit → Bool
proper_clause v c = nat_le (length c) 64 && proper_lits v c

-- costs are bounded
pub record Lawful (k : Costs) : Type 0 where
  pub small_header : (h : Header) → proper_header h ≡ true → k.header h ≤ 262144
  pub small_clause : (v : ℕ) (c : List Lit) → v ≤ 4096 → proper_clause v c ≡ true → k.clause c ≤ 1024

-- a header is taken where there is none and its cost fits
abbrev pub takes_header : Costs → State → Header → Bool
takes_header k s h = not (is_some s.header) && (proper_header h && nat_le (k.header h) s.left)

-- it becomes the sink's, and its cost comes off
abbrev pub with_header : Costs → State → Header → State
with_header k s h = cond (takes_header k s h) (record { header = Some h; clauses = s.clauses; left = s.left - k.header h }) s

-- a clause fits under a header
abbrev pub under : Option Header → List Lit → Bool
under None c = false
under (Some h) c = proper_clause h.variables c

-- a clause is taken where there is a header and its cost fits
abbrev pub takes_clause : Costs → State → List Lit → Bool
takes_clause k s c = under s.header c && nat_le (k.clause c) s.left

-- it comes last in the list, and its cost comes off
abbrev pub with_clause : Costs → State → List Lit → State
with_clause k s c = cond (takes_clause k s c) (record { header = s.header; clauses = s.clauses ++ c ∷ []; left = s.left - k.clause c }) s

-- a number as a machine word tells it: past the largest, the largest
abbrev pub capped : ℕ → ℕ
capped n = min n 18446744073709551615
