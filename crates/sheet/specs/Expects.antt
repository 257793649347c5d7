-- What taking one word of a line answers. Assumes nothing.
use Rattle.std.specs.Prelude.{◌≡◌, Bool, true, false, List, ℕ, Some, None, Option}
use Rattle.words.specs.declared.lines.Words.{Words}
use Rattle.words.specs.declared.parts.Part.{Part}
use Rattle.words.specs.Parts.{bytes}
use Rattle.words.specs.Split.{words}
use Rattle.words.specs.Words.{words_left}
use Rattle.sheet.specs.Lines.{first_fits, head_word, rest}

-- the words of a part of the text
abbrev pub words_of : List ℕ → Part → List (List ℕ)
words_of text p = words (bytes text p)

-- the first word that is left passes, what is answered says it, and the rest is left; or it is wrong or missing
abbrev pub Takes : {A : Type 0} → (List ℕ → Bool) → (List ℕ → A → Type 0) → Words → Words → Option A → Type 0
Takes p says s t (Some y) = (first_fits p (words_left s) ≡ true) × says (head_word (words_left s)) y × (words_left t ≡ rest (words_left s)) × (t.text.now ≡ s.text.now)
Takes p says s t None = first_fits p (words_left s) ≡ false
