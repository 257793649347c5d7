-- What a word of a sheet is taken for. Assumes nothing.
use Rattle.std.specs.Prelude.{◌≡◌, ℕ, true, false, List}
use Rattle.words.specs.declared.tokens.Word.{Word}
use Rattle.words.specs.declared.tokens.Word.TheVariants.{Name, Number, Other}
use Rattle.words.specs.Shapes.{is_name, is_number, number}

-- the word w is taken for a name, a number with its value, or neither; each has the word's bytes
abbrev pub Reads : List ℕ → Word → Type 0
Reads w (Name b) = (b.now ≡ w) × (is_name w ≡ true)
Reads w (Number b n) = (b.now ≡ w) × (is_number w ≡ true) × (n ≡ number w)
Reads w (Other b) = (b.now ≡ w) × (is_name w ≡ false) × (is_number w ≡ false)
