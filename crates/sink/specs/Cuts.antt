-- How words that are put together fall into clauses again.
use Rattle.std.specs.Prelude.{◌≡◌, ℕ, zero, suc, ◌<◌, ◌≤◌, Bool, true, false, cond, List, [], ◌∷◌, ◌++◌, map, length, ℤ, pos, negsuc, neg_ℤ, nat_le, refl}
use Rattle.std.proofs.Common.{sym, ap, ◌∙◌, arith}
use Rattle.std.proofs.lemmas.List.{append_assoc, length-append, length-map, flat_map_more}
use Rattle.std.proofs.lemmas.Bool.{and_parts}
use Rattle.std.proofs.lemmas.Bool.Decides.{nat_tests}
use Rattle.sink.specs.Sinks.{Lawful, proper_lits}
use Rattle.sink.specs.Files.{Rereads, Counts}
use Rattle.sink.specs.Wordwise.{header_words, lit_word, clause_words, all_clause_words, word_costs, onto_first, cut, clauses_in_words}
use Rattle.sink.specs.declared.lit.Lit.{Lit}

onto_some : (l : Lit) (cs : List (List Lit)) → 1 ≤ length cs → 1 ≤ length (onto_first l cs)
onto_some l [] h = h
onto_some l (c ∷ cs) h = omega arith

onto_append : (l : Lit) (cs ds : List (List Lit)) → 1 ≤ length cs → onto_first l (cs ++ ds) ≡ onto_first l cs ++ ds
onto_append l [] ds h = absurd (omega arith)
onto_append l (c ∷ cs) ds h = refl

-- words that end with 0 have a clause
cut_some : (p : List ℤ) → 1 ≤ length (cut (p ++ pos 0 ∷ []))
cut_some [] = omega arith
cut_some (pos zero ∷ p) = omega arith
cut_some (pos (suc n) ∷ p) = onto_some _ _ (cut_some p)
cut_some (negsuc n ∷ p) = onto_some _ _ (cut_some p)

-- the clauses up to a 0, and those after it
cut_append : (p q : List ℤ) → cut (p ++ pos 0 ∷ q) ≡ cut (p ++ pos 0 ∷ []) ++ cut q
cut_append [] q = refl
cut_append (pos zero ∷ p) q = ap (λ cs. [] ∷ cs) (cut_append p q)
cut_append (pos (suc n) ∷ p) q = ap (onto_first _) (cut_append p q) ∙ onto_append _ _ (cut q) (cut_some p)
cut_append (negsuc n ∷ p) q = ap (onto_first _) (cut_append p q) ∙ onto_append _ _ (cut q) (cut_some p)

cut_clause : (c : List Lit) (q : List ℤ) → cut (clause_words c ++ q) ≡ cut (clause_words c) ++ cut q
cut_clause c q = ap cut (append_assoc (map lit_word c) (pos 0 ∷ []) q) ∙ cut_append (map lit_word c) q

cut_clauses : (cs : List (List Lit)) (q : List ℤ) → cut (all_clause_words cs ++ q) ≡ cut (all_clause_words cs) ++ cut q
cut_clauses [] q = refl
cut_clauses (c ∷ cs) q = grind (arith, append_assoc, cut_clause, cut_clauses cs q)

-- a literal that is written is read again
cut_lit : (l : Lit) (zs : List ℤ) → 0 < l.variable → cut (lit_word l ∷ zs) ≡ onto_first l (cut zs)
cut_lit l zs h = go l.negated l.variable h
  where
    go : (b : Bool) (n : ℕ) → 0 < n → cut (cond b (neg_ℤ (pos n)) (pos n) ∷ zs) ≡ onto_first (record { variable = n; negated = b }) (cut zs)
    go true zero h = absurd (omega arith)
    go true (suc n) h = refl
    go false zero h = absurd (omega arith)
    go false (suc n) h = refl

-- a clause that is written is read again
cut_again : (v : ℕ) (c : List Lit) → proper_lits v c ≡ true → cut (clause_words c) ≡ c ∷ []
cut_again v [] p = refl
cut_again v (l ∷ c) p = grind (arith, nat_tests, cut_lit, cut_again v c)

-- the header's words hold no clause, and a clause's words hold that clause
pub word_rereads : Rereads header_words clause_words clauses_in_words
word_rereads = record {
  nothing = refl;
  of_header = λ h p. refl;
  of_clause = λ h cs c p q.
      ap cut (sym (flat_map_more clause_words [] cs c))
      ∙ cut_clauses cs (clause_words c)
      ∙ ap (λ ds. cut (all_clause_words cs) ++ ds) (cut_again h.variables c (and_parts (nat_le (length c) 64) (proper_lits h.variables c) q).1);
}

-- costs are words
pub word_counts : Counts header_words clause_words word_costs
word_counts = record {
  header_units = λ h. refl;
  clause_units = λ c. simp (length-append, length-map) refl;
}

-- costs are bounded
pub word_lawful : Lawful word_costs
word_lawful = record {
  small_header = λ h p. omega arith;
  small_clause = λ v c f p. grind (arith, nat_tests);
}
