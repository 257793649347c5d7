-- A clause file in units of any type, however a header and a clause are written. Assumes nothing.
use Rattle.std.specs.Prelude.{◌≡◌, true, List, [], ◌∷◌, ◌++◌, length, flat_map, Some, None, Option}
use Rattle.sink.specs.declared.header.Header.{Header}
use Rattle.sink.specs.declared.lit.Lit.{Lit}
use Rattle.sink.specs.Sinks.{Costs, proper_header, proper_clause}

-- the header, then each clause; nothing without a header
abbrev pub file_by : {X : Type 0} → (Header → List X) → (List Lit → List X) → Option Header → List (List Lit) → List X
file_by header clause None cs = []
file_by header clause (Some h) cs = header h ++ flat_map clause cs

-- costs are units
pub record Counts {X : Type 0} (header : Header → List X) (clause : List Lit → List X) (costs : Costs) : Type 0 where
  pub header_units : (h : Header) → costs.header h ≡ length (header h)
  pub clause_units : (c : List Lit) → costs.clause c ≡ length (clause c)

-- what is written is read again: no clause where nothing or a header stands, and one more for each clause more
pub record Rereads {X : Type 0} (header : Header → List X) (clause : List Lit → List X) (clauses_in : List X → List (List Lit)) : Type 0 where
  pub nothing : clauses_in [] ≡ []
  pub of_header : (h : Header) → proper_header h ≡ true → clauses_in (header h) ≡ []
  pub of_clause : (h : Header) (cs : List (List Lit)) (c : List Lit) → proper_header h ≡ true → proper_clause h.variables c ≡ true →
      clauses_in (file_by header clause (Some h) (cs ++ c ∷ [])) ≡ clauses_in (file_by header clause (Some h) cs) ++ c ∷ []
