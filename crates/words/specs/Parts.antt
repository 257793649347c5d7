-- Parts of a text by their places. Assumes nothing.
use Rattle.std.specs.Prelude.{◌≡◌, ℕ, ◌+◌, ◌-◌, ◌<◌, ◌≤◌, List, [], ◌∷◌, length, take, drop, Some, None, Option}
use Rattle.words.specs.declared.parts.Part.{Part}
use Rattle.words.specs.Split.{lines, words}

-- the bytes of a part
abbrev pub bytes : List ℕ → Part → List ℕ
bytes text p = take (p.end - p.start) (drop p.start text)

-- the part of the text from a on and before b
abbrev pub part : ℕ → ℕ → Part
part a b = record { start = a; end = b }

-- p is the first line of the text from `from` on
pub record FirstLine (text : List ℕ) (from : ℕ) (p : Part) : Type 0 where
  pub starts : p.start ≡ from
  pub forward : from ≤ p.end
  pub within : p.end ≤ length text
  pub some : from < length text
  pub first : lines (drop from text) ≡ bytes text p ∷ lines (drop (p.end + 1) text)

-- what is answered when the first line from `from` on is asked for
abbrev pub NextLine : List ℕ → ℕ → Option Part → Type 0
NextLine text from None = lines (drop from text) ≡ []
NextLine text from (Some p) = FirstLine text from p

-- w is the first word of a part
pub record FirstWord (text : List ℕ) (rest w : Part) : Type 0 where
  pub after : rest.start ≤ w.start
  pub forward : w.start < w.end
  pub before : w.end ≤ rest.end
  pub within : w.end ≤ length text
  pub first : words (bytes text rest) ≡ bytes text w ∷ words (bytes text (part w.end rest.end))

-- what is answered when the first word of a part is asked for
abbrev pub NextWord : List ℕ → Part → Option Part → Type 0
NextWord text rest None = words (bytes text rest) ≡ []
NextWord text rest (Some w) = FirstWord text rest w
