-- The literals that the value lines of an answer give. Assumes nothing.
use Rattle.std.specs.Prelude.{◌≡◌, ℕ, Bool, true, false, cond, not, ◌&&◌, ◌||◌, List, [], ◌∷◌, ◌++◌, map, Ok, Err, vec_items, codes, Result, Vec, ◌==◌, nat_le}
use Rattle.std.specs.Str.{bytes_eq}
use Rattle.std.specs.declared.alloc.Global.{Global}
use Rattle.order.specs.Between.{joined}
use Rattle.words.specs.Shapes.{all_digits, number}
use Rattle.words.specs.Split.{lines, words}
use Rattle.sink.specs.declared.lit.Lit.{Lit}
use Rattle.sink.specs.Text.{lit_of}
use Rattle.answers.specs.declared.literals.LiteralFault.{LiteralFault}
use Rattle.answers.specs.declared.literals.LiteralFault.TheVariants.{BadWord, NoMemory}
use Rattle.answers.specs.Lines.{value_lines}

-- digits, the first not 0, that say a number of at most v
abbrev pub is_plain : ℕ → List ℕ → Bool
is_plain v [] = false
is_plain v (b ∷ bs) = not (b == 48) && (all_digits (b ∷ bs) && nat_le (number (b ∷ bs)) v)

-- the same after a minus, or without one
abbrev pub is_signed : ℕ → List ℕ → Bool
is_signed v [] = false
is_signed v (b ∷ bs) = cond (b == 45) (is_plain v bs) (is_plain v (b ∷ bs))

-- 0, or a number from -v to v whose first digit is not 0
abbrev pub is_literal : ℕ → List ℕ → Bool
is_literal v w = bytes_eq (codes "0") w || is_signed v w

abbrev pub all_literals : ℕ → List (List ℕ) → Bool
all_literals v [] = true
all_literals v (w ∷ ws) = is_literal v w && all_literals v ws

-- the words of all value lines
abbrev pub value_words : List ℕ → List (List ℕ)
value_words text = joined words (value_lines (lines text))

-- the literals that they stand for
abbrev pub literals_in : List ℕ → List Lit
literals_in text = map lit_of (value_words text)

-- the literals of words are added, unless a word is none
abbrev pub Tells : List (List ℕ) → ℕ → Vec Lit Global → Result (Unit {0}) LiteralFault → Vec Lit Global → Type 0
Tells ws v s (Ok u) t = (all_literals v ws ≡ true) × (vec_items t ≡ vec_items s ++ map lit_of ws)
Tells ws v s (Err BadWord) t = all_literals v ws ≡ false
Tells ws v s (Err NoMemory) t = Unit {0}

-- the literals of all value lines, unless a word is none
abbrev pub Gives : List ℕ → ℕ → Result (Vec Lit Global) LiteralFault → Type 0
Gives text v (Ok lits) = (all_literals v (value_words text) ≡ true) × (vec_items lits ≡ literals_in text)
Gives text v (Err BadWord) = all_literals v (value_words text) ≡ false
Gives text v (Err NoMemory) = Unit {0}
