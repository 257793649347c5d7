-- What one clause, and a list of them, does to the costs and to a sink. Assumes nothing.
use Rattle.std.specs.Prelude.{◌≡◌, ℕ, ◌+◌, ◌≤◌, List, [], ◌∷◌, length}
use Rattle.order.specs.declared.bound.Bound.{Bound}
use Rattle.sink.specs.declared.lit.Lit.{Lit}
use Rattle.sink.specs.Sinks.{Costs, State, with_clause, capped}
use Rattle.cnf.specs.declared.cost.Costing.{Costing}
use Rattle.cnf.specs.declared.put.Putting.{Putting}
use Rattle.cnf.specs.declared.roots.Roots.{Ghosts}
use Rattle.cnf.specs.Encoded.{encoded, EncodesSame}

-- what clauses cost together
abbrev pub total_cost : Costs → List (List Lit) → ℕ
total_cost k [] = 0
total_cost k (c ∷ cs) = k.clause c + total_cost k cs

-- a sink after it was given clauses
abbrev pub with_clauses : Costs → State → List (List Lit) → State
with_clauses k s [] = s
with_clauses k s (c ∷ cs) = with_clauses k (with_clause k s c) cs

-- one clause is counted
pub record Counted {R S : Type 0} {g : Ghosts R} (k : Costs) (s : Costing R S g) (c : List Bound) (t : Costing R S g) : Type 0 where
  pub lender : t.encoder.ghost_name ≡ s.encoder.ghost_name
  pub encoder : EncodesSame s.encoder.now t.encoder.now
  pub clauses : length c ≤ 64 → capped t.tally.clauses ≡ capped (s.tally.clauses + length (encoded s.encoder.now c))
  pub cost : length c ≤ 64 → capped t.tally.cost ≡ capped (s.tally.cost + total_cost k (encoded s.encoder.now c))

-- one clause is put into the sink
pub record Put {R S : Type 0} {g : Ghosts R} (k : Costs) (state : S → State) (s : Putting R S g) (c : List Bound) (t : Putting R S g) : Type 0 where
  pub encoder : EncodesSame s.encoder.now t.encoder.now
  pub lender : t.sink.ghost_name ≡ s.sink.ghost_name
  pub sink : length c ≤ 64 → state t.sink.now ≡ with_clauses k (state s.sink.now) (encoded s.encoder.now c)
