-- Clauses, answers and layouts agree. Assumes nothing.
use Rattle.std.proofs.Common.{◌≡◌, ℕ, suc, lit≤, ◌≤◌, Bool, true, false, cond, leb, List, Some, None, Ok, Err, Decides, Option, Result, sym, refl, ap, ◌∙◌, subst, inl, inr, arith}
use Rattle.std.proofs.lemmas.Bool.{cases_Bool, le-leb, leb-true, false≢true}
use Rattle.order.specs.Ranges.{total_bits}
use Rattle.ties.specs.Roots.{own}
use Rattle.theory.proofs.Falling.{count_most}
use Rattle.answers.specs.declared.claim.ClaimFault.{ClaimFault}
use Rattle.answers.specs.declared.claim.ClaimFault.TheVariants.{BadLine as LineBad, BadStatus as StatusBad, StrayValues as ValuesStray}
use Rattle.answers.specs.declared.line.Status.{Status}
use Rattle.answers.specs.declared.line.Status.TheVariants.{Satisfiable, Unsatisfiable, Unknown}
use Rattle.answers.specs.Claims.{claim_in}
use Rattle.calls.specs.declared.call.Call.{Call}
use Rattle.calls.specs.Catalogues.{Catalogue, LawfulAll, based}
use Rattle.calls.specs.Invariant.{Invariant}
use Rattle.calls.specs.Runs.{Answer}
use Rattle.calls.specs.View.{View, free_bits}
use Rattle.calls.specs.Writes.{output}
use Rattle.calls.proofs.BasedKinds.{lawful_based}
use Rattle.calls.proofs.Keeping.{calls_keep}
use Rattle.promise.specs.declared.reading.ReadRefusal.{ReadRefusal}
use Rattle.promise.specs.declared.reading.ReadRefusal.TheVariants.{ShortBuffer}
use Rattle.promise.specs.declared.reading.Verdict.TheVariants.{Accepted}
use Rattle.promise.specs.Faithful.{satisfied, Full, SameAnswer, Faithful, RunsFaithful}
use Rattle.promise.specs.Layouts.{Permitted, SameLayout, LayoutsSolve}
use Rattle.promise.specs.Readings.{Reading, file_variables, incomplete, judged, assignment_in, count_declared, decided, by_claim, reading, read_value}
use Rattle.promise.proofs.Laying.{layouts_solve}
use Rattle.promise.proofs.Limits.{runs_few}
use Rattle.promise.proofs.Printing.{text_says}
use Rattle.promise.proofs.SatFile.{void_unsatisfied}
use Rattle.promise.proofs.Satisfying.{accepts_satisfied, judged_solves, judged_not_void, numbers_of, solution_assignment, same_numbers, assignment_like, values_like}

-- accepted exactly where neither refusal comes
decided_none : (o p : Option ReadRefusal) → decided o p ≡ Ok Accepted → (o ≡ None) × (p ≡ None)
decided_none (Some q) p e = absurd (grind arith)
decided_none None (Some q) e = absurd (grind arith)
decided_none None None e = (refl, refl)

claim_accepted : (k : Catalogue) (v : View) (text : List ℕ) (c : Result Status ClaimFault) → by_claim k v text c ≡ Ok Accepted → (c ≡ Ok Satisfiable) × ((incomplete v text ≡ None) × (judged k v (assignment_in text) ≡ None))
claim_accepted k v text (Err LineBad) e = absurd (grind arith)
claim_accepted k v text (Err StatusBad) e = absurd (grind arith)
claim_accepted k v text (Err ValuesStray) e = absurd (grind arith)
claim_accepted k v text (Ok Unsatisfiable) e = absurd (grind arith)
claim_accepted k v text (Ok Unknown) e = absurd (grind arith)
claim_accepted k v text (Ok Satisfiable) e = (refl, decided_none (incomplete v text) (judged k v (assignment_in text)) e)

room_accepted : (b : Bool) (r : Reading) → cond b r (Err ShortBuffer) ≡ Ok Accepted → (b ≡ true) × (r ≡ Ok Accepted)
room_accepted true r e = (refl, e)
room_accepted false r e = absurd (grind arith)

module _ (k : Catalogue) (v : View) (n : ℕ) (text : List ℕ) where
  -- what is accepted is full, and judged right
  accepted_full : reading k v n text ≡ Ok Accepted → Full v n text
  accepted_full e =
      let room = room_accepted (leb (count_declared v.declared) n) (by_claim k v text (claim_in text)) e in
      let claim = claim_accepted k v text (claim_in text) room.1 in
      record { room = leb-true (count_declared v.declared) n room.0; claims = claim.0; complete = claim.1.0 }

  accepted_judged : reading k v n text ≡ Ok Accepted → judged k v (assignment_in text) ≡ None
  accepted_judged e = (claim_accepted k v text (claim_in text) (room_accepted (leb (count_declared v.declared) n) (by_claim k v text (claim_in text)) e).1).1.1

  -- and the other way round
  full_accepted : Full v n text → judged k v (assignment_in text) ≡ None → reading k v n text ≡ Ok Accepted
  full_accepted full right =
      ap (λ b. cond b (by_claim k v text (claim_in text)) (Err ShortBuffer)) (le-leb (count_declared v.declared) n full.room)
      ∙ ap (by_claim k v text) full.claims
      ∙ ap (λ o. decided o (judged k v (assignment_in text))) full.complete
      ∙ ap (decided None) right

module _ (k : Catalogue) (law : LawfulAll k) (v : View) (inv : Invariant k v) where
  -- reading accepts a full answer exactly when it satisfies every clause
  accepts_full : (n : ℕ) (text : List ℕ) → Full v n text → Decides (satisfied (assignment_in text) (output k v)) (reading k v n text ≡ Ok Accepted)
  accepts_full n text full = elim (cases_Bool v.void) [
    | inl void ↦ (
      (λ h. absurd (false≢true (sym (void_unsatisfied k v (assignment_in text) void) ∙ h))),
      (λ e. absurd (false≢true (sym (judged_not_void k v (assignment_in text) (accepted_judged k v n text e)) ∙ void))),
    )
    | inr not-void ↦
        let both = accepts_satisfied k law v inv (assignment_in text) not-void in
        ((λ h. full_accepted k v n text full (both.0 h)), (λ e. both.1 (accepted_judged k v n text e)))
  ]

  module _ (cs : List Call) (answers : List Answer) (lay : LayoutsSolve k cs answers v) (small : file_variables v ≤ 4096) where
    -- each permitted layout comes from an answer
    comes_from : (u : ℕ → ℕ) → Permitted k cs answers v u → (text : List ℕ) × (((n : ℕ) → count_declared v.declared ≤ n → reading k v n text ≡ Ok Accepted) × SameLayout v (read_value v (assignment_in text)) u)
    comes_from u permitted =
        let solved = lay.extends u permitted in
        let w = solved.0 in
        let answer = solution_assignment k law v inv w solved.1.0 in
        let said = text_says v (numbers_of v w) small in
        let text = said.0 in
        let free : file_variables v ≡ free_bits v = ap (λ b. cond b 0 (free_bits v)) answer.0 in
        let like = λ (m : ℕ) (l : 1 ≤ m) (h : m ≤ free_bits v). said.1.1.1 m l (subst (λ n. m ≤ n) (sym free) h) in
        let right = assignment_like k law v inv (assignment_in text) (numbers_of v w) like ∙ answer.1 in (
          text,
          (
            (λ n h. full_accepted k v n text (record { room = h; claims = said.1.0; complete = said.1.1.0 }) right),
            (λ x d. values_like k law v inv (assignment_in text) (numbers_of v w) like x ∙ answer.2 x ∙ solved.1.1 x d),
          ),
        )

    -- and from one alone
    comes_once : (n m : ℕ) (s t : List ℕ) → reading k v n s ≡ Ok Accepted → reading k v m t ≡ Ok Accepted → SameLayout v (read_value v (assignment_in s)) (read_value v (assignment_in t)) → SameAnswer v s t
    comes_once n m s t p q same i low high =
        let a = accepted_judged k v n s p in
        let b = accepted_judged k v m t q in
        let values = lay.only (read_value v (assignment_in s)) (read_value v (assignment_in t)) (judged_solves k v (assignment_in s) a) (judged_solves k v (assignment_in t) b) same in
        let free : file_variables v ≡ free_bits v = ap (λ x. cond x 0 (free_bits v)) (judged_not_void k v (assignment_in s) a) in
        same_numbers k law v inv (assignment_in s) (assignment_in t) a b values i low (subst (λ x. i ≤ x) free high)

    faithful : Faithful k cs answers v (output k v)
    faithful = record {
      accepts = accepts_full;
      full = accepted_full k v;
      gives = λ n text e. lay.permitted (read_value v (assignment_in text)) (judged_solves k v (assignment_in text) (accepted_judged k v n text e));
      comes = comes_from;
      once = comes_once;
    }

-- a file has no more variables than there are free bits
cond_few : (void : Bool) {n : ℕ} → n ≤ 4096 → cond void 0 n ≤ 4096
cond_few true h = lit≤ tt
cond_few false h = h

pub runs_faithful : RunsFaithful
runs_faithful k law cs answers v runs =
    let few : free_bits v ≤ 4096 = omega (arith, count_most (λ n. own v.root (suc n)) (total_bits v.ranges), runs_few (based k) cs answers v runs) in
    faithful (based k) (lawful_based k law) v ((calls_keep k law).runs cs answers v runs) cs answers (layouts_solve k law cs answers v runs) (cond_few v.void few)
