-- What reading a line answers, and what it leaves. Assumes nothing.
use Rattle.std.specs.Prelude.{◌≡◌, ℕ, Bool, List, Some, None, Ok, Err, Result, ⊤}
use Rattle.sheet.specs.declared.reader.reading.LineFault.{LineFault}
use Rattle.sheet.specs.declared.reader.reading.LineFault.TheVariants.{Refused, NoMemory}
use Rattle.calls.specs.declared.refusal.Fault.{Fault}
use Rattle.calls.specs.declared.refusal.Fault.TheVariants.{Refused as No, NoMemory as Lack}
use Rattle.sheet.specs.declared.refusal.Reason.TheVariants.{BadVariable, Job}
use Rattle.words.specs.declared.parts.Part.{Part}
use Rattle.words.specs.Parts.{bytes}
use Rattle.words.specs.Shapes.{number}
use Rattle.sheet.specs.Expects.{words_of}
use Rattle.sheet.specs.Lines.{misfit, variable_words, word_at}
use Rattle.sheet.specs.Sheets.{Draft, Mark, mark}

-- the words are those expected, or the place of the first that is not is told
abbrev pub Fits : List (List ℕ → Bool) → List (List ℕ) → Result (Unit {0}) ℕ → Type 0
Fits ps ws (Ok u) = misfit ps ws 1 ≡ None
Fits ps ws (Err n) = misfit ps ws 1 ≡ Some n

-- the words of a variable line, or the place of the first that is not right
abbrev pub Declares : List ℕ → Part → Result (Part × ℕ × ℕ) ℕ → Type 0
Declares text line (Ok y) = (misfit variable_words (words_of text line) 1 ≡ None) × (bytes text y.0 ≡ word_at (words_of text line) 0) × (y.1 ≡ number (word_at (words_of text line) 1)) × (y.2 ≡ number (word_at (words_of text line) 2))
Declares text line (Err n) = misfit variable_words (words_of text line) 1 ≡ Some n

-- the same, and the line is refused where its words are not right
abbrev pub DeclaresOrRefuses : List ℕ → Part → Result (Part × ℕ × ℕ) LineFault → Type 0
DeclaresOrRefuses text line (Ok y) = Declares text line (Ok y)
DeclaresOrRefuses text line (Err f) = (n : ℕ) × (misfit variable_words (words_of text line) 1 ≡ Some n) × (f ≡ Refused BadVariable n)

-- a line does what its step says; at a refusal and for want of memory nothing changes
abbrev pub Steps : Result Draft Mark → Result (Unit {0}) LineFault → Draft → Draft → Type 0
Steps v (Ok u) d d' = v ≡ Ok d'
Steps v (Err (Refused q n)) d d' = (v ≡ Err (mark q n)) × (d' ≡ d)
Steps v (Err (NoMemory e)) d d' = d' ≡ d

-- the job's refusals pass up whole, at word 1, and its want of memory as such
abbrev pub Passes : Fault → LineFault → Type 0
Passes (No q) f = f ≡ Refused (Job q) 1
Passes Lack (Refused r n) = ⊥
Passes Lack (NoMemory e) = ⊤
