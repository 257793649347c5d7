-- How a text falls into lines, and a line into words. Assumes nothing.
use Rattle.std.specs.Prelude.{ℕ, cond, List, [], ◌∷◌, ◌==◌}

-- b before the first piece
abbrev pub onto : ℕ → List (List ℕ) → List (List ℕ)
onto b [] = (b ∷ []) ∷ []
onto b (p ∷ ps) = (b ∷ p) ∷ ps

-- the pieces of a text between the places where x stands
abbrev pub split : ℕ → List ℕ → List (List ℕ)
split x [] = [] ∷ []
split x (b ∷ bs) = cond (b == x) ([] ∷ split x bs) (onto b (split x bs))

-- a last piece that is empty is left out
abbrev pub closed_last : List (List ℕ) → List (List ℕ)
closed_last [] = []
closed_last ([] ∷ []) = []
closed_last ((b ∷ p) ∷ []) = (b ∷ p) ∷ []
closed_last (p ∷ (q ∷ ps)) = p ∷ closed_last (q ∷ ps)

-- the pieces that have a byte
abbrev pub filled : List (List ℕ) → List (List ℕ)
filled [] = []
filled ([] ∷ ps) = filled ps
filled ((b ∷ p) ∷ ps) = (b ∷ p) ∷ filled ps

-- LF (10) ends each line but perhaps the last
abbrev pub lines : List ℕ → List (List ℕ)
lines text = closed_last (split 10 text)

-- blanks (32) part the words of a line
abbrev pub words : List ℕ → List (List ℕ)
words line = filled (split 32 line)
