-- Declaring a variable. Assumes nothing.
use Rattle.std.specs.Prelude.{ℕ, ◌-◌, List, [], ◌∷◌, length, Result}
use Rattle.order.specs.Ranges.{is_range, range}
use Rattle.order.specs.Variables.{few_variables, few_bits}
use Rattle.calls.specs.declared.refusal.Refusal.{Refusal}
use Rattle.calls.specs.declared.refusal.Refusal.TheVariants.{BadRange, TooManyVariables, TooManyBits}
use Rattle.calls.specs.Questions.{Question, ask, first_no, verdict}
use Rattle.job.specs.View.{View, with_variable}

-- low ≤ high ≤ 255? With it at most 512 variables? At most 4,096 bits?
abbrev pub declare_questions : View → ℕ → ℕ → List Question
declare_questions v low high =
    ask (is_range low high) BadRange
    ∷ ask (few_variables v.ranges 1) TooManyVariables
    ∷ ask (few_bits v.ranges (high - low)) TooManyBits
    ∷ []

-- a yes answers the variable's place
abbrev pub declaring : View → ℕ → ℕ → Result (ℕ × View) Refusal
declaring v low high = verdict (first_no (declare_questions v low high)) (length v.ranges) (with_variable v (range low high))
