-- Small jobs, compiled by computing. Assumes nothing.
use Rattle.std.proofs.Common.{◌≡◌, ℕ, true, false, cond, ◌&&◌, ◌||◌, eqb, List, [], ◌∷◌, refl, ap, ◌∙◌, arith, lit<}
use Rattle.std.proofs.ByRecursion.{has_get_or}
use Rattle.std.proofs.lemmas.Bool.{cond_both, eqb-true, and_from, or_left, or_right, false≢true}
use Rattle.std.proofs.lemmas.Bool.Decides.{nat_tests}
use Rattle.order.specs.declared.bound.Bound.{Bound}
use Rattle.order.specs.declared.literal.Literal.{Literal}
use Rattle.order.specs.declared.literal.Literal.TheVariants.{False, True, Bit, Not}
use Rattle.order.specs.declared.range.Range.{Range}
use Rattle.order.specs.Bounds.{reaches, misses}
use Rattle.order.specs.Ranges.{range, total_bits}
use Rattle.ties.specs.Relations.{Relation}
use Rattle.ties.specs.Roots.{tied}
use Rattle.kinds.specs.Meaning.{some_holds}
use Rattle.theory.specs.Rows.{Row, LawfulRow}
use Rattle.theory.specs.Jobs.{Job, clauses, output}
use Rattle.theory.specs.Closed.{Sound, only}
use Rattle.theory.specs.Hidden.{Sums, terms}
use Rattle.theory.specs.Promise.{Promise}
use Rattle.theory.proofs.Promising.{promises}
use Rattle.theory.proofs.Stepping.{sound_none, sound_by_roots, clause_forces}

-- one of the bounds is true
abbrev some_row : List Bound → Row
some_row c = record { meets = λ v. some_holds v c; clauses = c ∷ []; pairings = []; spent = λ tied. false }

some_lawful : (rs : List Range) (c : List Bound) → LawfulRow rs (some_row c)
some_lawful rs c = record {
  by_clauses = λ v i. (λ h. (h, tt), λ a. a.0);
  by_pairings = λ v i h. tt;
  by_ties = λ v tied i k h. absurd (false≢true h);
}

-- A from 0 to 3 has the bits 1 to 3, and B from 1 to 3 the bits 4 and 5
abbrev two : List Range
two = range 0 3 ∷ range 1 3 ∷ []

abbrev job : Job
job = record { ranges = two; rows = some_row (reaches 0 2 ∷ misses 1 3 ∷ []) ∷ some_row (reaches 0 0 ∷ []) ∷ [] }

five : total_bits two ≡ 5
five = refl

-- with no ties, each clause is written but the one that has true
plain : output job Bit ≡ (Not 2 ∷ Bit 1 ∷ []) ∷ (Not 3 ∷ Bit 2 ∷ []) ∷ (Not 5 ∷ Bit 4 ∷ []) ∷ (Bit 2 ∷ Not 5 ∷ []) ∷ []
unfolding output
plain = refl

-- where bit 5 is tied to bit 2, the row's clause is left out, and the roots stand in the order clauses
roots : ℕ → Literal
roots n = cond (eqb n 5) (Bit 2) (Bit n)

tied_up : output job roots ≡ (Not 2 ∷ Bit 1 ∷ []) ∷ (Not 3 ∷ Bit 2 ∷ []) ∷ (Not 2 ∷ Bit 4 ∷ []) ∷ []
unfolding output roots
tied_up = refl

-- the promise is not empty
promised : Promise job
promised = promises job (some_lawful two (reaches 0 2 ∷ misses 1 3 ∷ []), (some_lawful two (reaches 0 0 ∷ []), tt))

-- A reaches 2: bits 1 and 2 are true, and bit 3 is left
abbrev unit_job : Job
unit_job = record { ranges = two; rows = some_row (reaches 0 2 ∷ []) ∷ [] }

abbrev true_roots : ℕ → Literal
true_roots n = cond (eqb n 1) True (cond (eqb n 2) True (Bit n))

unit_output : output unit_job true_roots ≡ (Not 5 ∷ Bit 4 ∷ []) ∷ []
unfolding output
unit_output = refl

unit_sound : Sound unit_job (tied true_roots)
unit_sound = sound_by_roots unit_job true_roots (λ S c n.
    let second : S (Bit 2) True ≡ true = clause_forces unit_job (tied Bit) (reaches 0 2 ∷ []) (has_get_or (clauses unit_job) 3 [] (lit< tt)) (Bit 2) refl refl S c (sound_none unit_job S c) in
    let first : S (Bit 1) True ≡ true = c.clauses.0.last_true (Bit 1) refl (all_but S (c.ties.opposites (Bit 2) True second) (c.ties.reflexive (Bit 1))) in
    cond_both (eqb n 1) True (cond (eqb n 2) True (Bit n)) (λ l. S (Bit n) l ≡ true)
    (λ e. ap (λ k. S (Bit k) True) (eqb-true n 1 e) ∙ first)
    (λ _. cond_both (eqb n 2) True (Bit n) (λ l. S (Bit n) l ≡ true) (λ e. ap (λ k. S (Bit k) True) (eqb-true n 2 e) ∙ second) (λ _. c.ties.reflexive (Bit n))))
  where
    all_but : (S : Relation) → S (Not 2) False ≡ true → S (Bit 1) (Bit 1) ≡ true → only S (Bit 1) (Not 2 ∷ Bit 1 ∷ []) ≡ true
    all_but S a b = and_from (S (Not 2) False || S (Not 2) (Bit 1)) ((S (Bit 1) False || S (Bit 1) (Bit 1)) && true) (or_left (S (Not 2) False) (S (Not 2) (Bit 1)) a) (and_from (S (Bit 1) False || S (Bit 1) (Bit 1)) true (or_right (S (Bit 1) False) (S (Bit 1) (Bit 1)) b) refl)

-- x0 + x1 + x2 by two hidden variables, 3 and 5, with a declared one between them
abbrev sums : Sums
sums = record {
  hidden = λ x. eqb x 3 || eqb x 5;
  left = λ x. cond (eqb x 5) 3 0;
  right = λ x. cond (eqb x 5) 2 1;
  left_before = λ x h. grind (arith, nat_tests);
  right_before = λ x h. grind (arith, nat_tests);
}

three_terms : terms sums 5 ≡ 0 ∷ 1 ∷ 2 ∷ []
three_terms = refl
