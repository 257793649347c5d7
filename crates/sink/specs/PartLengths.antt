-- How long the parts of a clause file are.
use Rattle.std.specs.Prelude.{◌≡◌, ℕ, ◌+◌, ◌<◌, ◌≤◌, cond, List, [], ◌∷◌, ◌++◌, length, take, codes, decimal, slice_index_or, fold}
use Rattle.std.proofs.Common.{◌∙◌, arith}
use Rattle.std.proofs.lemmas.List.{append_assoc, length-append}
use Rattle.std.proofs.lemmas.List.Folds.{length-flat_map-take}
use Rattle.sink.specs.Sinks.{capped}
use Rattle.sink.specs.Text.{header_line, lit_text, lits_text, clause_line}
use Rattle.sink.specs.declared.header.Header.{Header}
use Rattle.sink.specs.declared.lit.Lit.{Lit}

pub header_length : (h : Header) → length (header_line h) ≡ length (decimal h.variables) + length (decimal h.clauses) + 8
header_length h = simp length-append (omega arith)

-- a literal with its blank
abbrev pub piece : Lit → List ℕ
piece l = lit_text l ++ codes " "

pub clause_length : (c : List Lit) → length (clause_line c) ≡ length (lits_text c) + 2
clause_length c = length-append (lits_text c) (codes "0\n")

-- the literals before i and the one at i are no longer than the whole line
pub lits_fit : (c : List Lit) (i : ℕ) (d : Lit) → i < length c → length (lits_text (take i c)) + length (piece (slice_index_or c i d)) ≤ length (clause_line c)
lits_fit c i d h = omega (arith, length-flat_map-take piece c i d h, clause_length c)

-- the two bytes that end a line, one after the other
pub clause_ends : (c : List Lit) → (lits_text c ++ 48 ∷ []) ++ 10 ∷ [] ≡ clause_line c
clause_ends c = append_assoc (lits_text c) (48 ∷ []) (10 ∷ [])

pub piece_length : (l : Lit) → length (piece l) ≡ length (cond l.negated (codes "-") []) + length (decimal l.variable) + 1
piece_length l = simp length-append

-- a count that stops at the largest number, over all literals
capped_from : (n : ℕ) (c : List Lit) → n ≤ 18446744073709551615 → fold (λ n l. capped (n + length (piece l))) n c ≡ capped (n + length (lits_text c))
capped_from n [] f = omega arith
capped_from n (l ∷ c) f = capped_from (capped (n + length (piece l))) c (omega arith) ∙ omega (arith, length-append (piece l) (lits_text c))

pub capped_sum : (c : List Lit) → fold (λ n l. capped (n + length (piece l))) 2 c ≡ capped (length (clause_line c))
capped_sum c = capped_from 2 c (omega arith) ∙ omega (arith, clause_length c)
