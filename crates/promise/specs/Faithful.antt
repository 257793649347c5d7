-- What is promised of clauses, answers and layouts. Assumes nothing.
use Rattle.std.specs.Prelude.{◌≡◌, ℕ, ◌≤◌, Bool, true, false, cond, not, ◌&&◌, ◌||◌, List, [], ◌∷◌, None, Ok, Decides}
use Rattle.sink.specs.declared.lit.Lit.{Lit}
use Rattle.answers.specs.declared.line.Status.TheVariants.{Satisfiable}
use Rattle.answers.specs.Claims.{claim_in}
use Rattle.calls.specs.declared.call.Call.{Call}
use Rattle.calls.specs.Catalogues.{Catalogue, LawfulAll, based}
use Rattle.calls.specs.Runs.{Answer, Runs}
use Rattle.calls.specs.View.{View}
use Rattle.calls.specs.Writes.{output}
use Rattle.promise.specs.declared.reading.Verdict.TheVariants.{Accepted}
use Rattle.promise.specs.Layouts.{Permitted, SameLayout}
use Rattle.promise.specs.Readings.{file_variables, incomplete, assignment_in, count_declared, reading, read_value}

-- whether an assignment makes a literal, a clause, each of the clauses true
abbrev pub lit_true : (ℕ → Bool) → Lit → Bool
lit_true a l = cond l.negated (not (a l.variable)) (a l.variable)

abbrev pub clause_true : (ℕ → Bool) → List Lit → Bool
clause_true a [] = false
clause_true a (l ∷ c) = lit_true a l || clause_true a c

abbrev pub satisfied : (ℕ → Bool) → List (List Lit) → Bool
satisfied a [] = true
satisfied a (c ∷ cs) = clause_true a c && satisfied a cs

-- a full answer: the buffer is long enough, it claims that the clauses are satisfiable, and it gives each number once
pub record Full (v : View) (n : ℕ) (text : List ℕ) : Type 0 where
  pub room : count_declared v.declared ≤ n
  pub claims : claim_in text ≡ Ok Satisfiable
  pub complete : incomplete v text ≡ None

-- two answers are one: they set each number of the file alike
abbrev pub SameAnswer : View → List ℕ → List ℕ → Type 0
SameAnswer v s t = (n : ℕ) → 1 ≤ n → n ≤ file_variables v → assignment_in s n ≡ assignment_in t n

-- what a job that came from these calls promises of the clauses written of it
pub record Faithful (k : Catalogue) (cs : List Call) (answers : List Answer) (v : View) (clauses : List (List Lit)) : Type 0 where
  -- reading accepts a full answer exactly when it satisfies every clause
  pub accepts : (n : ℕ) (text : List ℕ) → Full v n text → Decides (satisfied (assignment_in text) clauses) (reading k v n text ≡ Ok Accepted)
  -- what is accepted is a full answer, and gives a permitted layout
  pub full : (n : ℕ) (text : List ℕ) → reading k v n text ≡ Ok Accepted → Full v n text
  pub gives : (n : ℕ) (text : List ℕ) → reading k v n text ≡ Ok Accepted → Permitted k cs answers v (read_value v (assignment_in text))
  -- each permitted layout comes from an accepted answer, and from one alone
  pub comes : (u : ℕ → ℕ) → Permitted k cs answers v u → (text : List ℕ) × (((n : ℕ) → count_declared v.declared ≤ n → reading k v n text ≡ Ok Accepted) × SameLayout v (read_value v (assignment_in text)) u)
  pub once : (n m : ℕ) (s t : List ℕ) → reading k v n s ≡ Ok Accepted → reading k v m t ≡ Ok Accepted → SameLayout v (read_value v (assignment_in s)) (read_value v (assignment_in t)) → SameAnswer v s t

-- so it is for each list of calls given to a new job, which knows plus, leq and same, and any others that keep the laws
abbrev pub RunsFaithful : Type 0
RunsFaithful = (k : Catalogue) → LawfulAll k → (cs : List Call) (answers : List Answer) (v : View) → Runs (based k) cs answers v → Faithful (based k) cs answers v (output (based k) v)
