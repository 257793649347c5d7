-- Which words a line should have. Assumes nothing.
use Rattle.std.specs.Prelude.{ℕ, zero, suc, ◌+◌, Bool, true, false, cond, List, [], ◌∷◌, Some, None, codes, Option}
use Rattle.std.specs.Str.{bytes_eq}
use Rattle.words.specs.Shapes.{is_name, is_number}

-- whether there is a first word, and it passes
abbrev pub first_fits : (List ℕ → Bool) → List (List ℕ) → Bool
first_fits p [] = false
first_fits p (w ∷ ws) = p w

-- the words after the first
abbrev pub rest : List (List ℕ) → List (List ℕ)
rest [] = []
rest (w ∷ ws) = ws

-- the first word
abbrev pub head_word : List (List ℕ) → List ℕ
head_word [] = []
head_word (w ∷ ws) = w

abbrev pub none_left : List (List ℕ) → Bool
none_left [] = true
none_left (w ∷ ws) = false

-- the place of the first word that is wrong, missing or too many; words are counted from n
abbrev pub misfit : List (List ℕ → Bool) → List (List ℕ) → ℕ → Option ℕ
misfit [] ws n = cond (none_left ws) None (Some n)
misfit (p ∷ ps) ws n = cond (first_fits p ws) (misfit ps (rest ws) (n + 1)) (Some n)

-- the words of the first heading
abbrev pub heading : List (List ℕ → Bool)
heading = bytes_eq (codes "name") ∷ bytes_eq (codes "low") ∷ bytes_eq (codes "high") ∷ []

-- the words of the second heading
abbrev pub rule_heading : List (List ℕ → Bool)
rule_heading = bytes_eq (codes "rule") ∷ bytes_eq (codes "items") ∷ []

-- a variable line: a name and two numbers
abbrev pub variable_words : List (List ℕ → Bool)
variable_words = is_name ∷ is_number ∷ is_number ∷ []

-- the word at place k, from 0
abbrev pub word_at : List (List ℕ) → ℕ → List ℕ
word_at ws zero = head_word ws
word_at ws (suc k) = word_at (rest ws) k
