-- Writing a closed job to a sink. Assumes nothing.
use Rattle.std.specs.Prelude.{ℕ, ◌+◌, ◌-◌, cond, not, List, [], ◌∷◌, ◌++◌, length, is_some, Some, Result, nat_le}
use Rattle.order.specs.declared.bound.Bound.{Bound}
use Rattle.order.specs.declared.literal.Literal.{Literal}
use Rattle.order.specs.declared.range.Range.{Range}
use Rattle.order.specs.Between.{joined}
use Rattle.order.specs.Orders.{orders}
use Rattle.kinds.specs.Meaning.{Meaning}
use Rattle.rows.specs.Rows.{Posted}
use Rattle.sink.specs.declared.header.Header.{Header}
use Rattle.sink.specs.declared.lit.Lit.{Lit}
use Rattle.sink.specs.Sinks.{Costs, State}
use Rattle.cnf.specs.Numbered.{written_all}
use Rattle.cnf.specs.Passed.{total_cost}
use Rattle.theory.specs.Jobs.{tied_bounds}
use Rattle.calls.specs.declared.refusal.Refusal.{Refusal}
use Rattle.calls.specs.declared.refusal.Refusal.TheVariants.{HeaderPresent, NoSpace}
use Rattle.calls.specs.Catalogues.{Catalogue}
use Rattle.calls.specs.Questions.{Question, ask, first_no, verdict}
use Rattle.calls.specs.View.{View, free_bits}

-- the clauses of a row; none where it is spent
abbrev pub row_clauses : (ℕ → Meaning) → List Range → (ℕ → Literal) → Posted → List (List Bound)
row_clauses m rs f p = cond ((m p.code).spends p.items rs (tied_bounds rs f)) [] ((m p.code).clauses p.items rs)

-- the clauses to be written, in order: the order clauses by variable, then those of each row that is not spent
abbrev pub clauses_of : (ℕ → Meaning) → List Range → (ℕ → Literal) → List Posted → List (List Bound)
clauses_of m rs f ps = orders rs ++ joined (row_clauses m rs f) ps

-- what is written of them
unfoldable pub written_of : (ℕ → Meaning) → List Range → (ℕ → Literal) → List Posted → List (List Lit)
written_of m rs f ps = written_all rs f (clauses_of m rs f ps)

-- the clauses of the file: one empty clause where the job is void
abbrev pub output : Catalogue → View → List (List Lit)
output k v = cond v.void ([] ∷ []) (written_of k.meaning v.ranges v.root v.rows)

-- V free bits, none where the job is void, and C clauses
abbrev pub header_of : Catalogue → View → Header
header_of k v = record { variables = cond v.void 0 (free_bits v); clauses = length (output k v) }

-- what header and clauses cost
abbrev pub cost_of : Catalogue → Costs → View → ℕ
cost_of k u v = u.header (header_of k v) + total_cost u (output k v)

-- sink without header? Cost of header and clauses within the units left?
abbrev pub write_questions : Catalogue → Costs → View → State → List Question
write_questions k u v s = ask (not (is_some s.header)) HeaderPresent ∷ ask (nat_le (cost_of k u v) s.left) NoSpace ∷ []

-- the sink with the whole file
abbrev pub filed : Catalogue → Costs → View → State → State
filed k u v s = record { header = Some (header_of k v); clauses = output k v; left = s.left - cost_of k u v }

-- a yes answers V and C
abbrev pub writing : Catalogue → Costs → View → State → Result (Header × State) Refusal
writing k u v s = verdict (first_no (write_questions k u v s)) (header_of k v) (filed k u v s)
