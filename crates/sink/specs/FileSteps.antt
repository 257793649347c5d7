-- The laws of the text: what is read again, and what it costs.
use Rattle.std.specs.Prelude.{◌≡◌, ℕ, ◌*◌, ◌<◌, ◌≤◌, Bool, true, false, cond, List, [], ◌∷◌, length, codes, nat_le, refl}
use Rattle.std.proofs.Common.{arith}
use Rattle.std.proofs.lemmas.Fmt.{length-decimal-le}
use Rattle.std.proofs.lemmas.List.{length-append}
use Rattle.std.proofs.lemmas.Bool.{and_parts}
use Rattle.std.proofs.lemmas.Bool.Decides.{nat_tests}
use Rattle.sink.specs.Sinks.{Lawful, proper_header, proper_lits}
use Rattle.sink.specs.Files.{Rereads, Counts}
use Rattle.sink.specs.Text.{header_line, lits_text, clause_line, clauses_in, text_costs}
use Rattle.sink.specs.declared.header.Header.{Header}
use Rattle.sink.specs.declared.lit.Lit.{Lit}
use Rattle.sink.specs.PartLengths.{header_length, piece, piece_length, clause_length}
use Rattle.sink.specs.Rereading.{small_from_proper, header_clauses, clauses_more}

proper_variables : (h : Header) → proper_header h ≡ true → h.variables ≤ 4096
proper_variables h p = grind (arith, nat_tests)

proper_clauses : (h : Header) → proper_header h ≡ true → h.clauses < 2147483648
proper_clauses h p = grind (arith, nat_tests)

-- a header's line holds no clause, and a clause's line holds that clause
pub text_rereads : Rereads header_line clause_line clauses_in
text_rereads = record {
  nothing = refl;
  of_header = λ h p.
      let a = proper_variables h p in
      let b = proper_clauses h p in
      header_clauses h (omega arith) (omega arith);
  of_clause = λ h cs c p q.
      let a = proper_variables h p in
      clauses_more h cs c (small_from_proper h.variables c (omega arith) (and_parts (nat_le (length c) 64) (proper_lits h.variables c) q).1);
}

-- costs are bytes
pub text_counts : Counts header_line clause_line text_costs
text_counts = record {
  header_units = λ h. refl;
  clause_units = λ c. refl;
}

-- costs are bounded
sign_short : (b : Bool) → length (cond b (codes "-") []) ≤ 1
sign_short true = omega arith
sign_short false = omega arith

lits_short : (v : ℕ) (c : List Lit) → v ≤ 4096 → proper_lits v c ≡ true → length (lits_text c) ≤ 6 * length c
lits_short v [] f p = omega arith
lits_short v (l ∷ c) f p = grind (arith, nat_tests, length-append (piece l) (lits_text c), piece_length l, sign_short l.negated, length-decimal-le 4 l.variable, lits_short v c f)

pub text_lawful : Lawful text_costs
text_lawful = record {
  small_header = λ h p.
      let a = proper_variables h p in
      let b = proper_clauses h p in
      omega (arith, header_length h, length-decimal-le 4 h.variables (omega arith) (omega arith) (omega arith), length-decimal-le 10 h.clauses (omega arith) (omega arith) (omega arith));
  small_clause = λ v c f p. grind (arith, nat_tests, clause_length c, lits_short v c f);
}
