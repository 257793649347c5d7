-- One variable more: its bits, and the view of the job. Assumes nothing.
use Rattle.std.proofs.Common.{◌≡◌, ℕ, ◌+◌, ◌-◌, ◌≤◌, Bool, true, false, cond, List, [], ◌∷◌, ◌++◌, length, is_err, Some, None, Ok, Err, Result, sym, refl, ap, ◌∙◌, arith}
use Rattle.std.proofs.lemmas.List.{length_push}
use Rattle.std.proofs.lemmas.Bool.{false≢true}
use Rattle.std.proofs.lemmas.Bool.Decides.{nat_tests}
use Rattle.order.specs.declared.literal.Literal.{Literal}
use Rattle.order.specs.declared.range.Range.{Range}
use Rattle.order.specs.Ranges.{is_range, range, total_bits, first}
use Rattle.order.specs.Variables.{few_variables, few_bits}
use Rattle.order.proofs.Ranging.{first_push_all}
use Rattle.ties.specs.declared.classes.growing.GrowError.{GrowError}
use Rattle.ties.specs.Growth.{Grows}
use Rattle.ties.specs.Roots.{Grown}
use Rattle.calls.specs.Questions.{verdict}
use Rattle.calls.specs.Declares.{declaring, declare_questions}
use Rattle.calls.specs.View.{View, with_variable}
use Rattle.calls.proofs.Asking.{all_yes}

-- a growth that met no error
pub grown : (r : Result (Unit {0}) GrowError) (rs rs' : List Literal) (n : ℕ) → false ≡ is_err r → Grows r rs n rs' → Grown rs n rs'
grown (Ok x) rs rs' n e g = g.1
grown (Err q) rs rs' n e g = absurd (false≢true e)

-- one more at the end of a list that was kept
pub pushed : {X : Type 0} (xs ys zs : List X) (x : X) → ys ≡ xs → zs ≡ ys ++ x ∷ [] → zs ≡ xs ++ x ∷ []
pushed xs ys zs x same more = cc

-- the number and the bits of all variables, with one more
pub length_more : (rs rs' : List Range) (r : Range) → rs' ≡ rs ++ r ∷ [] → length rs' ≡ length rs + 1
length_more rs rs' r more = ap length more ∙ length_push rs r

pub bits_more : (rs rs' : List Range) (r : Range) → rs' ≡ rs ++ r ∷ [] → total_bits rs' ≡ total_bits rs + (r.high - r.low)
bits_more rs rs' r more =
    ap total_bits more ∙ ap (first (rs ++ r ∷ [])) (length_push rs r) ∙ first_push_all rs r

-- the test of a range that was made
pub made_range : (b : Bool) (r s : Range) → Some r ≡ cond b (Some s) None → (b ≡ true) × (r ≡ s)
made_range true r s e = (refl, grind arith)
made_range false r s e = absurd (grind arith)

pub is_range_ends : (l h : ℕ) → is_range l h ≡ true → (l ≤ h) × (h ≤ 255)
is_range_ends l h e = grind (arith, nat_tests)

-- the view of a job that took a range
pub declared : (v : View) (low high x : ℕ) (r : Range) (old rs' : List Range) (marks : List Bool) (root' : ℕ → Literal) → Some r ≡ cond (is_range low high) (Some (range low high)) None → old ≡ v.ranges → few_variables old 1 ≡ true → few_bits old (r.high - r.low) ≡ true → x ≡ length old → rs' ≡ v.ranges ++ r ∷ [] → marks ≡ v.declared ++ true ∷ [] → root' ≡ v.root → declaring v low high ≡ Ok (x, record { ranges = rs'; declared = marks; rows = v.rows; root = root'; void = v.void })
declared v low high x r old rs' marks root' made same few small place more marked rooted =
    let is = made_range (is_range low high) r (range low high) made in
    let inside = is_range_ends low high is.0 in
    let width : r.high - r.low ≡ high - low = omega (arith, ap (λ (s : Range). s.low) is.1, ap (λ (s : Range). s.high) is.1) in
    let yes = all_yes (declare_questions v low high) (is.0, (ap (λ l. few_variables l 1) (sym same) ∙ few, ((λ i. few_bits (sym same i) (sym width i)) ∙ small, tt))) in
    ap (λ o. verdict o (length v.ranges) (with_variable v true (range low high))) yes
    ∙ sym (λ i. Ok (
      (place ∙ ap length same) i,
      record {
        ranges = (more ∙ ap (λ s. v.ranges ++ s ∷ []) is.1) i;
        declared = marked i;
        rows = v.rows;
        root = rooted i;
        void = v.void;
      },
    ))
