-- For each assignment there is an answer text that says it.
use Rattle.std.proofs.Common.{◌≡◌, ℕ, zero, suc, ◌+◌, ◌^◌, ◌<◌, ◌≤◌, Bool, true, false, cond, not, eqb, List, [], ◌∷◌, ◌++◌, map, get_or, None, Ok, Err, codes, decimal, sym, refl, ap, ◌∙◌, subst, arith}
use Rattle.std.proofs.lemmas.Fmt.{digits_decimal, first_decimal, digits_value-decimal}
use Rattle.std.proofs.lemmas.List.{append-nil}
use Rattle.std.proofs.lemmas.Bool.Decides.{nat_tests}
use Rattle.std.proofs.lemmas.Bool.{or_right, eq-eqb}
use Rattle.order.specs.Between.{run, joined}
use Rattle.kinds.specs.Tests.{all_between}
use Rattle.kinds.proofs.Ranging.{all_more}
use Rattle.words.specs.Split.{lines, words}
use Rattle.words.specs.Shapes.{all_digits, number}
use Rattle.sink.specs.Sinks.{proper_lits}
use Rattle.sink.specs.Text.{lit_text, clause_line, lit_of}
use Rattle.sink.specs.declared.lit.Lit.{Lit}
use Rattle.sink.specs.PartLengths.{clause_ends}
use Rattle.sink.specs.Rereading.{own, digits_without, lit_again, Small, small_from_proper, body, body_without, body_words}
use Rattle.sink.specs.Splitting.{split_one, lines_append, lines_line}
use Rattle.answers.specs.Assignments.{zero_ends, times, given_once, says}
use Rattle.answers.specs.Claims.{claimed, claim_in}
use Rattle.answers.specs.Lines.{all_right, claims, value_lines}
use Rattle.answers.specs.Literals.{is_plain, is_signed, is_literal, all_literals, value_words, literals_in}
use Rattle.answers.specs.declared.claim.ClaimFault.TheVariants.{BadLine}
use Rattle.answers.specs.declared.line.Status.TheVariants.{Satisfiable}
use Rattle.calls.specs.View.{View}
use Rattle.promise.specs.Readings.{file_variables, incomplete, assignment_in}

-- the literal of the number n that has the truth of n
abbrev pub lit_at : (ℕ → Bool) → ℕ → Lit
lit_at a n = record { variable = n; negated = not (a n) }

-- those of k numbers from m on
abbrev pub lits_from : (ℕ → Bool) → ℕ → ℕ → List Lit
lits_from a m k = run (λ n. lit_at a n ∷ []) m k

-- those of 1 to V
abbrev pub answer_lits : ℕ → (ℕ → Bool) → List Lit
answer_lits V a = lits_from a 1 V

-- the literal that 0 stands for
abbrev pub zero_lit : Lit
zero_lit = record { variable = 0; negated = false }

-- a status line, then a value line that ends with 0
abbrev pub answer_text : ℕ → (ℕ → Bool) → List ℕ
answer_text V a = codes "s SATISFIABLE" ++ 10 ∷ (codes "v " ++ clause_line (answer_lits V a))

lits_proper : (V : ℕ) (a : ℕ → Bool) (m k : ℕ) → 1 ≤ m → m + k ≤ V + 1 → proper_lits V (lits_from a m k) ≡ true
lits_proper V a m zero l u = refl
lits_proper V a m (suc k) l u = grind (arith, nat_tests, lits_proper V a (m + 1) k)

-- the text's lines
text_lines : (c : List Lit) → Small c → lines (codes "s SATISFIABLE" ++ 10 ∷ (codes "v " ++ clause_line c)) ≡ codes "s SATISFIABLE" ∷ ((118 ∷ (32 ∷ body c)) ∷ [])
text_lines c s =
    lines_append (codes "s SATISFIABLE") (118 ∷ (32 ∷ clause_line c))
    ∙ ap (λ ls. codes "s SATISFIABLE" ∷ ls)
    (ap (λ t. lines (118 ∷ (32 ∷ t))) (sym (clause_ends c))
    ∙ lines_line (118 ∷ (32 ∷ body c))
    ∙ split_one 10 (118 ∷ (32 ∷ body c)) (refl, (refl, body_without c s)))

-- digits of at most V, the first not 0
plain_from : (V : ℕ) (w : List ℕ) → all_digits w ≡ true → 48 < get_or w 0 0 → number w ≤ V → is_plain V w ≡ true
plain_from V [] p h u = absurd (omega arith)
plain_from V (b ∷ w) p h u = grind (arith, nat_tests)

-- without a minus
signed_from : (V : ℕ) (w : List ℕ) → all_digits w ≡ true → is_plain V w ≡ true → is_signed V w ≡ true
signed_from V [] p h = h
signed_from V (b ∷ w) p h = ap (λ e. cond e (is_plain V w) (is_plain V (b ∷ w))) (digits_without 45 (b ∷ w) refl p).0 ∙ h

-- a literal that is written is one
lit_is : (V : ℕ) (l : Lit) → 0 < l.variable → l.variable ≤ V → V < 2 ^ 64 → is_literal V (lit_text l) ≡ true
lit_is V l p u f = or_right _ (is_signed V (lit_text l)) (go l.negated)
  where
    digits : all_digits (decimal l.variable) ≡ true
    digits = digits_decimal own l.variable (omega arith)

    plain : is_plain V (decimal l.variable) ≡ true
    plain = plain_from V (decimal l.variable) digits (first_decimal l.variable p (omega arith)) (omega (arith, digits_value-decimal own l.variable (omega arith)))

    go : (b : Bool) → is_signed V (cond b (codes "-") [] ++ decimal l.variable) ≡ true
    go true = plain
    go false = signed_from V (decimal l.variable) digits plain

all_written : (V : ℕ) (c : List Lit) → V < 2 ^ 64 → proper_lits V c ≡ true → all_literals V (map lit_text c ++ (48 ∷ []) ∷ []) ≡ true
all_written V [] f p = refl
all_written V (l ∷ c) f p =
    grind (arith, nat_tests, lit_is V l, all_written V c f)

-- the literals are read again
lits_again : (c : List Lit) → Small c → map lit_of (map lit_text c ++ (48 ∷ []) ∷ []) ≡ c ++ zero_lit ∷ []
lits_again [] s = refl
lits_again (l ∷ c) s = ap (λ x. x ∷ map lit_of (map lit_text c ++ (48 ∷ []) ∷ [])) (lit_again l s.0) ∙ ap (λ x. l ∷ x) (lits_again c s.1)

-- 0 stands last and only there
ends : (V : ℕ) (c : List Lit) → proper_lits V c ≡ true → zero_ends (c ++ zero_lit ∷ []) ≡ true
ends V [] p = refl
ends V (l ∷ []) p = grind (arith, nat_tests)
ends V (l ∷ m ∷ c) p = grind (arith, nat_tests, ends V (m ∷ c))

-- the numbers from m on are given once, and those before m not at all
module _ (a : ℕ → Bool) (n : ℕ) (some : 1 ≤ n) where
  abbrev given : ℕ → ℕ → List Lit
  given m k = lits_from a m k ++ zero_lit ∷ []

  times_before : (m k : ℕ) → n < m → times (given m k) n ≡ 0
  times_before m zero l = grind (arith, nat_tests)
  times_before m (suc k) l = grind (arith, nat_tests, times_before (m + 1) k)

  times_in : (m k : ℕ) → m ≤ n → n < m + k → times (given m k) n ≡ 1
  times_in m zero l u = absurd (omega arith)
  times_in m (suc k) l u = grind (arith, nat_tests, times_before (m + 1) k, times_in (m + 1) k)

  says_before : (m k : ℕ) → n < m → says (given m k) n ≡ false
  says_before m zero l = grind (arith, nat_tests)
  says_before m (suc k) l = grind (arith, nat_tests, says_before (m + 1) k)

  says_in : (m k : ℕ) → m ≤ n → n < m + k → says (given m k) n ≡ a n
  says_in m zero l u = absurd (omega arith)
  says_in m (suc k) l u = grind (arith, nat_tests, says_before (m + 1) k, says_in (m + 1) k)

-- what the text says
module _ (V : ℕ) (a : ℕ → Bool) (f : V < 2 ^ 64) where
  proper : proper_lits V (answer_lits V a) ≡ true
  proper = lits_proper V a 1 V (omega arith) (omega arith)

  small : Small (answer_lits V a)
  small = small_from_proper V (answer_lits V a) f proper

  pub text_claims : claim_in (answer_text V a) ≡ Ok Satisfiable
  text_claims = ap (λ ls. cond (all_right ls) (claimed (claims ls) (value_lines ls)) (Err BadLine)) (text_lines (answer_lits V a) small)

  pub text_words : value_words (answer_text V a) ≡ map lit_text (answer_lits V a) ++ codes "0" ∷ []
  text_words =
      ap (λ ls. joined words (value_lines ls)) (text_lines (answer_lits V a) small)
      ∙ append-nil (words (body (answer_lits V a)))
      ∙ body_words (answer_lits V a) small

  pub text_literals : literals_in (answer_text V a) ≡ answer_lits V a ++ zero_lit ∷ []
  text_literals = ap (map lit_of) text_words ∙ lits_again (answer_lits V a) small

  pub text_all_literals : all_literals V (value_words (answer_text V a)) ≡ true
  text_all_literals = ap (all_literals V) text_words ∙ all_written V (answer_lits V a) f proper

  pub text_ends : zero_ends (literals_in (answer_text V a)) ≡ true
  text_ends = ap zero_ends text_literals ∙ ends V (answer_lits V a) proper

  -- each of 1 to k is given once
  abbrev once : ℕ → Bool
  once n = eqb (times (answer_lits V a ++ zero_lit ∷ []) n) 1

  once_to : (k : ℕ) → k ≤ V → given_once (answer_lits V a ++ zero_lit ∷ []) k ≡ true
  once_to zero h = refl
  once_to (suc k) h =
      let e : k + 1 ≡ suc k = omega arith in
      all_more once 1 (suc k) (omega arith) (subst (λ n. all_between once 1 n ≡ true) e (once_to k (omega arith)))
      (eq-eqb (times (answer_lits V a ++ zero_lit ∷ []) (suc k)) 1 (times_in a (suc k) (omega arith) 1 V (omega arith) (omega arith)))

  pub text_once : given_once (literals_in (answer_text V a)) V ≡ true
  text_once = ap (λ ls. given_once ls V) text_literals ∙ once_to V (omega arith)

  pub text_assigns : (n : ℕ) → 1 ≤ n → n ≤ V → assignment_in (answer_text V a) n ≡ a n
  text_assigns n l u = ap (λ ls. says ls n) text_literals ∙ says_in a n l 1 V l (omega arith)

text_complete : (v : View) (a : ℕ → Bool) → file_variables v < 2 ^ 64 → incomplete v (answer_text (file_variables v) a) ≡ None
text_complete v a f =
    grind (arith, text_all_literals (file_variables v) a f, text_ends (file_variables v) a f, text_once (file_variables v) a f)

-- for each assignment of the file's numbers there is a full answer that says it
pub text_says : (v : View) (a : ℕ → Bool) → file_variables v ≤ 4096 → (text : List ℕ) × ((claim_in text ≡ Ok Satisfiable) × ((incomplete v text ≡ None) × ((n : ℕ) → 1 ≤ n → n ≤ file_variables v → assignment_in text n ≡ a n)))
text_says v a h =
    let f : file_variables v < 2 ^ 64 = omega arith in
    (answer_text (file_variables v) a, (text_claims (file_variables v) a f, (text_complete v a f, text_assigns (file_variables v) a f)))
