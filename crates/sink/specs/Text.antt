-- The text of a clause file, and the clauses that a text holds. Assumes nothing.
use Rattle.std.specs.Prelude.{ℕ, true, false, cond, List, [], ◌∷◌, ◌++◌, map, length, drop, flat_map, codes, decimal, Option, ◌==◌}
use Rattle.words.specs.Split.{lines, words}
use Rattle.words.specs.Shapes.{number}
use Rattle.sink.specs.declared.header.Header.{Header}
use Rattle.sink.specs.declared.lit.Lit.{Lit}
use Rattle.sink.specs.Sinks.{Costs}
use Rattle.sink.specs.Files.{file_by}

-- p cnf, V and C, parted by single blanks, then LF
abbrev pub header_line : Header → List ℕ
header_line h = codes "p cnf " ++ decimal h.variables ++ codes " " ++ decimal h.clauses ++ codes "\n"

-- a literal's number, with a minus before it where it is an opposite
abbrev pub lit_text : Lit → List ℕ
lit_text l = cond l.negated (codes "-") [] ++ decimal l.variable

-- every literal is followed by one blank
abbrev pub lits_text : List Lit → List ℕ
lits_text = flat_map (λ l. lit_text l ++ codes " ")

-- then 0 and LF end it
abbrev pub clause_line : List Lit → List ℕ
clause_line c = lits_text c ++ codes "0\n"

abbrev pub clause_lines : List (List Lit) → List ℕ
clause_lines = flat_map clause_line

-- the file of a header and clauses; nothing without a header
abbrev pub file : Option Header → List (List Lit) → List ℕ
file = file_by header_line clause_line

-- costs are bytes
abbrev pub text_costs : Costs
text_costs = record { header = λ h. length (header_line h); clause = λ c. length (clause_line c) }

-- the literal that a word stands for
abbrev pub lit_of : List ℕ → Lit
lit_of [] = record { variable = 0; negated = false }
lit_of (b ∷ bs) = cond (b == 45) (record { variable = number bs; negated = true }) (record { variable = number (b ∷ bs); negated = false })

-- each word of a line but the last, as a literal
abbrev pub line_lits : List (List ℕ) → List Lit
line_lits [] = []
line_lits (w ∷ []) = []
line_lits (w ∷ (u ∷ ws)) = lit_of w ∷ line_lits (u ∷ ws)

-- the clauses that a text holds: one for each line after the first
abbrev pub clauses_in : List ℕ → List (List Lit)
clauses_in text = map (λ line. line_lits (words line)) (drop 1 (lines text))
