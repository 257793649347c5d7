-- One variable more: its bits, and the view of the job. Assumes nothing.
use Rattle.std.proofs.Common.{◌≡◌, ℕ, ◌+◌, ◌-◌, ◌<◌, ◌≤◌, true, cond, List, [], ◌∷◌, ◌++◌, length, Some, None, Ok, Err, Result, sym, ap, ◌∙◌, arith}
use Rattle.std.proofs.lemmas.Bool.{both_ways, false≢true, le-leb}
use Rattle.order.specs.declared.range.Range.{Range}
use Rattle.order.specs.declared.variables.adding.AddError.{AddError}
use Rattle.order.specs.declared.variables.adding.AddError.TheVariants.{TooManyVariables, TooManyBits, NoMemory}
use Rattle.order.specs.Ranges.{is_range, range, total_bits}
use Rattle.order.specs.Variables.{Adds, answered, few_variables, few_bits}
use Rattle.calls.specs.Questions.{verdict}
use Rattle.calls.proofs.Asking.{all_yes}
use Rattle.calls.proofs.Declaring.{bits_more, made_range, is_range_ends}
use Rattle.job.specs.Declares.{declaring, declare_questions}
use Rattle.job.specs.View.{View, with_variable}

-- where there is room and memory the range is added
pub added_bits : (x : Result ℕ AddError) (rs rs' : List Range) (r : Range) → Adds rs r x rs' → answered x ≡ true → length rs < 512 → total_bits rs + (r.high - r.low) ≤ 4096 → total_bits rs' ≡ total_bits rs + (r.high - r.low)
added_bits (Ok x) rs rs' r a e few small = bits_more rs rs' r a.3
added_bits (Err TooManyVariables) rs rs' r a e few small = absurd (both_ways (few_variables rs 1) a.0 (le-leb (length rs + 1) 512 (omega arith)))
added_bits (Err TooManyBits) rs rs' r a e few small = absurd (both_ways (few_bits rs (r.high - r.low)) a.1 (le-leb (total_bits rs + (r.high - r.low)) 4096 small))
added_bits (Err NoMemory) rs rs' r a e few small = absurd (false≢true e)

pub declared : (v v' : View) (low high x : ℕ) (r : Range) → Some r ≡ cond (is_range low high) (Some (range low high)) None → few_variables v.ranges 1 ≡ true → few_bits v.ranges (r.high - r.low) ≡ true → x ≡ length v.ranges → v'.ranges ≡ v.ranges ++ r ∷ [] → v'.root ≡ v.root → declaring v low high ≡ Ok (x, v')
declared v v' low high x r made few small place more same =
    let is = made_range (is_range low high) r (range low high) made in
    let inside = is_range_ends low high is.0 in
    let width : high - low ≡ r.high - r.low = omega (arith, ap (λ (s : Range). s.low) is.1, ap (λ (s : Range). s.high) is.1) in
    let yes = all_yes (declare_questions v low high) (is.0, (few, (ap (few_bits v.ranges) width ∙ small, tt))) in
    let view : with_variable v (range low high) ≡ v' = λ i. record {
      ranges = (ap (λ s. v.ranges ++ s ∷ []) (sym is.1) ∙ sym more) i;
      root = sym same i;
    } in
    ap (λ o. verdict o (length v.ranges) (with_variable v (range low high))) yes ∙ (λ i. Ok (sym place i, view i))
