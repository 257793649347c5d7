-- A clause file as signed words, and the clauses that words hold. Assumes nothing.
use Rattle.std.specs.Prelude.{zero, suc, ◌+◌, true, false, cond, List, [], ◌∷◌, ◌++◌, map, length, drop, flat_map, ℤ, pos, negsuc, neg_ℤ, Option}
use Rattle.sink.specs.declared.header.Header.{Header}
use Rattle.sink.specs.declared.lit.Lit.{Lit}
use Rattle.sink.specs.Sinks.{Costs}
use Rattle.sink.specs.Files.{file_by}

-- V and C
abbrev pub header_words : Header → List ℤ
header_words h = pos h.variables ∷ pos h.clauses ∷ []

-- a variable's number, below zero where the literal is its opposite
abbrev pub lit_word : Lit → ℤ
lit_word l = cond l.negated (neg_ℤ (pos l.variable)) (pos l.variable)

-- each literal, and then 0
abbrev pub clause_words : List Lit → List ℤ
clause_words c = map lit_word c ++ pos 0 ∷ []

abbrev pub all_clause_words : List (List Lit) → List ℤ
all_clause_words = flat_map clause_words

-- the header, then each clause; nothing without a header
abbrev pub word_file : Option Header → List (List Lit) → List ℤ
word_file = file_by header_words clause_words

-- costs are words
abbrev pub word_costs : Costs
word_costs = record { header = λ h. 2; clause = λ c. length c + 1 }

-- l before the first clause
abbrev pub onto_first : Lit → List (List Lit) → List (List Lit)
onto_first l [] = []
onto_first l (c ∷ cs) = (l ∷ c) ∷ cs

-- the clauses that words hold, each ended by 0
abbrev pub cut : List ℤ → List (List Lit)
cut [] = []
cut (pos zero ∷ zs) = [] ∷ cut zs
cut (pos (suc n) ∷ zs) = onto_first (record { variable = suc n; negated = false }) (cut zs)
cut (negsuc n ∷ zs) = onto_first (record { variable = suc n; negated = true }) (cut zs)

-- the words after the first two
abbrev pub clauses_in_words : List ℤ → List (List Lit)
clauses_in_words zs = cut (drop 2 zs)
