-- Writing a closed job to a sink. Assumes nothing.
use Rattle.std.specs.Prelude.{ℕ, ◌+◌, ◌-◌, not, List, [], ◌∷◌, length, is_some, Some, Result, nat_le}
use Rattle.order.specs.declared.bound.Bound.{Bound}
use Rattle.order.specs.Orders.{orders}
use Rattle.order.specs.Ranges.{total_bits}
use Rattle.ties.specs.Roots.{free_to}
use Rattle.sink.specs.declared.header.Header.{Header}
use Rattle.sink.specs.declared.lit.Lit.{Lit}
use Rattle.sink.specs.Sinks.{Costs, State}
use Rattle.cnf.specs.Numbered.{written_all}
use Rattle.cnf.specs.Passed.{total_cost}
use Rattle.calls.specs.declared.refusal.Refusal.{Refusal}
use Rattle.calls.specs.declared.refusal.Refusal.TheVariants.{HeaderPresent, NoSpace}
use Rattle.calls.specs.Questions.{Question, ask, first_no, verdict}
use Rattle.job.specs.View.{View}

-- the clauses of a job, in order: the order clauses of each variable
abbrev pub clauses : View → List (List Bound)
clauses v = orders v.ranges

-- the clauses of its file
unfoldable pub output : View → List (List Lit)
output v = written_all v.ranges v.root (clauses v)

-- V free bits and C clauses
abbrev pub header_of : View → Header
header_of v = record { variables = free_to v.root (total_bits v.ranges); clauses = length (output v) }

-- what header and clauses cost
abbrev pub cost_of : Costs → View → ℕ
cost_of k v = k.header (header_of v) + total_cost k (output v)

-- sink without header? Cost of header and clauses within the units left?
abbrev pub write_questions : Costs → View → State → List Question
write_questions k v s = ask (not (is_some s.header)) HeaderPresent ∷ ask (nat_le (cost_of k v) s.left) NoSpace ∷ []

-- the sink with the whole file
abbrev pub filed : Costs → View → State → State
filed k v s = record { header = Some (header_of v); clauses = output v; left = s.left - cost_of k v }

-- a yes answers V and C
abbrev pub writing : Costs → View → State → Result (Header × State) Refusal
writing k v s = verdict (first_no (write_questions k v s)) (header_of v) (filed k v s)
