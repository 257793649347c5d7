-- Reading an answer on a closed job. Assumes nothing.
use Rattle.std.specs.Prelude.{ℕ, zero, suc, ◌+◌, Bool, cond, not, ◌||◌, List, [], ◌∷◌, ◌++◌, length, drop, count_by, Some, None, Ok, Err, Option, Result, nat_le}
use Rattle.order.specs.declared.range.Range.{Range}
use Rattle.order.specs.Bounds.{reach}
use Rattle.order.specs.Literals.{truth}
use Rattle.order.specs.Ranges.{low, high}
use Rattle.ties.specs.Roots.{free_to}
use Rattle.kinds.specs.Tests.{all_between}
use Rattle.rows.specs.Rows.{posted}
use Rattle.theory.specs.Truth.{through}
use Rattle.theory.specs.Values.{value}
use Rattle.answers.specs.declared.claim.ClaimFault.{ClaimFault}
use Rattle.answers.specs.declared.claim.ClaimFault.TheVariants.{BadLine as LineBad, BadStatus as StatusBad, StrayValues as ValuesStray}
use Rattle.answers.specs.declared.line.Status.{Status}
use Rattle.answers.specs.declared.line.Status.TheVariants.{Satisfiable, Unsatisfiable, Unknown}
use Rattle.answers.specs.Claims.{claim_in}
use Rattle.answers.specs.Literals.{all_literals, value_words, literals_in}
use Rattle.answers.specs.Assignments.{zero_ends, given_once, says}
use Rattle.calls.specs.Catalogues.{Catalogue}
use Rattle.calls.specs.View.{View, free_bits}
use Rattle.promise.specs.declared.reading.ReadRefusal.{ReadRefusal}
use Rattle.promise.specs.declared.reading.ReadRefusal.TheVariants.{ShortBuffer, BadLine, BadStatus, StrayValues, BadWord, BadEnd, NotOnce, VoidJob, Unordered, Unmet}
use Rattle.promise.specs.declared.reading.Verdict.{Verdict}
use Rattle.promise.specs.declared.reading.Verdict.TheVariants.{Accepted, NoneClaimed, NothingClaimed}

-- what reading an answer comes to: a verdict, or the first no
abbrev pub Reading : Type 0
Reading = Result Verdict ReadRefusal

-- how many variables the file has: the free bits, none where the job is void
abbrev pub file_variables : View → ℕ
file_variables v = cond v.void 0 (free_bits v)

-- an assignment of the file's numbers gives one of the bits: a free bit has the truth of its number, any other that of its root
abbrev pub bit_truth : View → (ℕ → Bool) → ℕ → Bool
bit_truth v a = through v.root (λ m. a (free_to v.root m))

-- the value of the variable x under it: its low, and one for each true bit
abbrev pub read_value : View → (ℕ → Bool) → ℕ → ℕ
read_value v a x = value v.ranges (bit_truth v a) x

-- whether the bits of x are in order: where X reaches t + 1 it reaches t
abbrev pub in_order : List Range → (ℕ → Bool) → ℕ → Bool
in_order rs β x = all_between (λ t. not (truth β (reach rs x (t + 1))) || truth β (reach rs x t)) (low rs x + 1) (high rs x)

-- whether the row at place p is met
abbrev pub row_met : Catalogue → View → (ℕ → ℕ) → ℕ → Bool
row_met k v u p = (k.meaning (posted v.rows p).code).meets (posted v.rows p).items u

-- the first of n numbers from a on that does not pass
abbrev pub first_failing : (ℕ → Bool) → ℕ → ℕ → Option ℕ
first_failing p a zero = None
first_failing p a (suc n) = cond (p a) (first_failing p (a + 1) n) (Some a)

-- a refusal that names the first at fault, else what comes next
abbrev pub at_fault : (ℕ → ReadRefusal) → Option ℕ → Option ReadRefusal → Option ReadRefusal
at_fault q (Some x) next = Some (q x)
at_fault q None next = next

-- Job not void? Each variable's bits in order? Every row met?
abbrev pub judged : Catalogue → View → (ℕ → Bool) → Option ReadRefusal
judged k v a = cond v.void (Some VoidJob)
    (at_fault Unordered (first_failing (in_order v.ranges (bit_truth v a)) 0 (length v.ranges))
    (at_fault Unmet (first_failing (row_met k v (read_value v a)) 0 (length v.rows)) None))

-- Each word 0, or a number from -V to V, first digit not 0? 0 last and only there? Each of 1 to V given once?
abbrev pub incomplete : View → List ℕ → Option ReadRefusal
incomplete v text =
    cond (all_literals (file_variables v) (value_words text))
    (cond (zero_ends (literals_in text))
    (cond (given_once (literals_in text) (file_variables v)) None (Some NotOnce)) (Some BadEnd)) (Some BadWord)

-- the assignment that an answer says
abbrev pub assignment_in : List ℕ → ℕ → Bool
assignment_in text = says (literals_in text)

-- how many variables are declared
abbrev pub count_declared : List Bool → ℕ
count_declared ds = count_by (λ d. d) ds

-- the first refusal of two, else accepted
abbrev pub decided : Option ReadRefusal → Option ReadRefusal → Reading
decided (Some q) next = Err q
decided None (Some q) = Err q
decided None None = Ok Accepted

abbrev pub by_claim : Catalogue → View → List ℕ → Result Status ClaimFault → Reading
by_claim k v text (Err LineBad) = Err BadLine
by_claim k v text (Err StatusBad) = Err BadStatus
by_claim k v text (Err ValuesStray) = Err StrayValues
by_claim k v text (Ok Unsatisfiable) = Ok NoneClaimed
by_claim k v text (Ok Unknown) = Ok NothingClaimed
by_claim k v text (Ok Satisfiable) = decided (incomplete v text) (judged k v (assignment_in text))

-- Value buffer of n places long enough? Then the questions of the answer's lines, of its words, and of the job
abbrev pub reading : Catalogue → View → ℕ → List ℕ → Reading
reading k v n text = cond (nat_le (count_declared v.declared) n) (by_claim k v text (claim_in text)) (Err ShortBuffer)

-- the values of the declared variables, in order, the first of these marks being that of x
abbrev pub picked : List Bool → ℕ → (ℕ → ℕ) → List ℕ
picked [] x u = []
picked (d ∷ ds) x u = cond d (u x ∷ picked ds (x + 1) u) (picked ds (x + 1) u)

-- the values that an accepted answer gives
abbrev pub values_read : View → List ℕ → List ℕ
values_read v text = picked v.declared 0 (read_value v (assignment_in text))

-- accepted values start the buffer, and the rest stays; any other outcome leaves all of it
abbrev pub buffer_after : Reading → View → List ℕ → List ℕ → List ℕ
buffer_after (Ok Accepted) v text buffer = values_read v text ++ drop (length (values_read v text)) buffer
buffer_after (Ok NoneClaimed) v text buffer = buffer
buffer_after (Ok NothingClaimed) v text buffer = buffer
buffer_after (Err q) v text buffer = buffer
