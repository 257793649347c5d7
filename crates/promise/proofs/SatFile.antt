-- The clauses of the file are true by numbers as those of the theory are by bits. Assumes nothing.
use Rattle.std.proofs.Common.{◌≡◌, ℕ, Bool, true, false, cond, not, ◌&&◌, ◌||◌, List, [], ◌∷◌, ◌++◌, map, fold, sym, refl, ap, ◌∙◌, inl, inr}
use Rattle.std.specs.List.{AllByRecursion}
use Rattle.std.proofs.ByRecursion.{All-append}
use Rattle.std.proofs.lemmas.Bool.{both_ways, cases_Bool, cond-false, or_parts}
use Rattle.order.specs.declared.bound.Bound.{Bound}
use Rattle.order.specs.declared.literal.Literal.{Literal}
use Rattle.order.specs.declared.literal.Literal.TheVariants.{False, True, Bit, Not}
use Rattle.order.specs.declared.range.Range.{Range}
use Rattle.order.specs.Between.{joined}
use Rattle.order.specs.Literals.{same}
use Rattle.order.specs.Orders.{orders}
use Rattle.ties.specs.Roots.{free_to}
use Rattle.kinds.specs.Meaning.{Meaning}
use Rattle.rows.specs.Rows.{Posted}
use Rattle.sink.specs.declared.lit.Lit.{Lit}
use Rattle.cnf.specs.Numbered.{lit, rooted, written_clause, written_all}
use Rattle.cnf.specs.Reduced.{has, add, opposed, written}
use Rattle.theory.specs.Truth.{some_true, all_true}
use Rattle.theory.specs.Rows.{Row}
use Rattle.theory.specs.Jobs.{Job, tied_bounds, reduced, reduced_row, output as theory_output}
use Rattle.theory.proofs.Stretches.{joined_append}
use Rattle.theory.proofs.Filing.{output_filed}
use Rattle.calls.specs.Catalogues.{Catalogue}
use Rattle.calls.specs.Jobs.{posted_row, job_of}
use Rattle.calls.specs.Settles.{rules}
use Rattle.calls.specs.View.{View}
use Rattle.calls.specs.Writes.{row_clauses, written_of, output}
use Rattle.promise.specs.Faithful.{clause_true, satisfied}

-- a literal that is no constant
abbrev Plain : Literal → Type 0
Plain False = ⊥
Plain True = ⊥
Plain (Bit n) = Unit {0}
Plain (Not n) = Unit {0}

plain_from : (l : Literal) → same l False ≡ false → same l True ≡ false → Plain l
plain_from False h k = both_ways true h refl
plain_from True h k = both_ways true k refl
plain_from (Bit n) h k = tt
plain_from (Not n) h k = tt

-- no constant is left in a clause that is written
plain_add : (d : List Literal) (l : Literal) → AllByRecursion Plain d → same l True ≡ false → AllByRecursion Plain (add d l)
plain_add d l h t = elim (cases_Bool (same l False || has d l)) [
  | inl e ↦ rw e h
  | inr e ↦ rw e (All-append Plain d (l ∷ []) h (plain_from l (or_parts (same l False) (has d l) e).0 t, tt))
]

plain_folded : (d c : List Literal) → AllByRecursion Plain d → has c True ≡ false → AllByRecursion Plain (fold add d c)
plain_folded d [] h t = h
plain_folded d (l ∷ c) h t = let p = or_parts (same l True) (has c True) t in plain_folded (add d l) c (plain_add d l h p.0) p.1

plain_written : (c : List Literal) → AllByRecursion (AllByRecursion Plain) (written c)
plain_written c = elim (cases_Bool (has c True || opposed c)) [
  | inl e ↦ rw e tt
  | inr e ↦ rw e (plain_folded [] c tt (or_parts (has c True) (opposed c) e).0, tt)
]

plain_clauses : (rs : List Range) (f : ℕ → Literal) (cs : List (List Bound)) → AllByRecursion (AllByRecursion Plain) (joined (reduced rs f) cs)
plain_clauses rs f [] = tt
plain_clauses rs f (c ∷ cs) = All-append (AllByRecursion Plain) (reduced rs f c) (joined (reduced rs f) cs) (plain_written (rooted rs f c)) (plain_clauses rs f cs)

plain_rows : (rs : List Range) (f : ℕ → Literal) (ws : List Row) → AllByRecursion (AllByRecursion Plain) (joined (reduced_row rs f) ws)
plain_rows rs f [] = tt
plain_rows rs f (w ∷ ws) = All-append (AllByRecursion Plain) (reduced_row rs f w) (joined (reduced_row rs f) ws) (one (w.spent (tied_bounds rs f))) (plain_rows rs f ws)
  where
    one : (b : Bool) → AllByRecursion (AllByRecursion Plain) (cond b [] (joined (reduced rs f) w.clauses))
    one true = tt
    one false = plain_clauses rs f w.clauses

plain_output : (j : Job) (f : ℕ → Literal) → AllByRecursion (AllByRecursion Plain) (theory_output j f)
unfolding theory_output
plain_output j f = All-append (AllByRecursion Plain) (joined (reduced j.ranges f) (orders j.ranges)) (joined (reduced_row j.ranges f) j.rows) (plain_clauses j.ranges f (orders j.ranges)) (plain_rows j.ranges f j.rows)

-- what has no constants is true by the numbers as it is by the bits
module _ (f : ℕ → Literal) (a : ℕ → Bool) where
  clause_same : (c : List Literal) → AllByRecursion Plain c → clause_true a (map (lit f) c) ≡ some_true (λ n. a (free_to f n)) c
  clause_same [] h = refl
  clause_same (False ∷ c) h = absurd h.0
  clause_same (True ∷ c) h = absurd h.0
  clause_same (Bit n ∷ c) h = ap (λ b. a (free_to f n) || b) (clause_same c h.1)
  clause_same (Not n ∷ c) h = ap (λ b. not (a (free_to f n)) || b) (clause_same c h.1)

  clauses_same : (cs : List (List Literal)) → AllByRecursion (AllByRecursion Plain) cs → satisfied a (map (map (lit f)) cs) ≡ all_true (λ n. a (free_to f n)) cs
  clauses_same [] h = refl
  clauses_same (c ∷ cs) h = ap (λ b. b && satisfied a (map (map (lit f)) cs)) (clause_same c h.0) ∙ ap (λ b. some_true (λ n. a (free_to f n)) c && b) (clauses_same cs h.1)

-- the file is the output by its numbers
module _ (m : ℕ → Meaning) (rs : List Range) (f : ℕ → Literal) where
  -- what is written of a row
  abbrev row-file : Row → List (List Lit)
  row-file w = cond (w.spent (tied_bounds rs f)) [] (written_all rs f w.clauses)

  row_files : (p : Posted) → written_all rs f (row_clauses m rs f p) ≡ row-file (posted_row m rs p)
  row_files p = one ((m p.code).spends p.items rs (tied_bounds rs f)) ((m p.code).clauses p.items rs)
    where
      one : (b : Bool) (cs : List (List Bound)) → written_all rs f (cond b [] cs) ≡ cond b [] (written_all rs f cs)
      one true cs = refl
      one false cs = refl

  rows_file : (ps : List Posted) → written_all rs f (joined (row_clauses m rs f) ps) ≡ joined row-file (map (posted_row m rs) ps)
  rows_file [] = refl
  rows_file (p ∷ ps) =
      joined_append (written_clause rs f) (row_clauses m rs f p) (joined (row_clauses m rs f) ps)
      ∙ ap (λ ds. ds ++ written_all rs f (joined (row_clauses m rs f) ps)) (row_files p)
      ∙ ap (λ ds. row-file (posted_row m rs p) ++ ds) (rows_file ps)

  pub written_filed : (ps : List Posted) → written_of m rs f ps ≡ map (map (lit f)) (theory_output (job_of m rs ps) f)
  unfolding written_of
  written_filed ps =
      joined_append (written_clause rs f) (orders rs) (joined (row_clauses m rs f) ps)
      ∙ ap (λ ds. written_all rs f (orders rs) ++ ds) (rows_file ps)
      ∙ sym (output_filed (job_of m rs ps) f)

-- an assignment of the numbers satisfies the file as what it gives the bits satisfies the output
pub satisfied_output : (k : Catalogue) (v : View) (a : ℕ → Bool) → v.void ≡ false → satisfied a (output k v) ≡ all_true (λ n. a (free_to v.root n)) (theory_output (rules k v) v.root)
satisfied_output k v a e =
    ap (satisfied a) (cond-false _ _ _ e ∙ written_filed k.meaning v.ranges v.root v.rows)
    ∙ clauses_same v.root a (theory_output (rules k v) v.root) (plain_output (rules k v) v.root)

-- a void job's file is never satisfied
pub void_unsatisfied : (k : Catalogue) (v : View) (a : ℕ → Bool) → v.void ≡ true → satisfied a (output k v) ≡ false
void_unsatisfied k v a e = ap (λ b. satisfied a (cond b ([] ∷ []) (written_of k.meaning v.ranges v.root v.rows))) e
