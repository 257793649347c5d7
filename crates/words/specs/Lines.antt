-- The lines of a text that are still to come. Assumes nothing.
use Rattle.std.specs.Prelude.{◌≡◌, ℕ, List, drop, Option, IfSome, option_map}
use Rattle.std.specs.Borrow.{Bor}
use Rattle.std.specs.Iterator.{YieldsFirstBy}
use Rattle.words.specs.declared.lines.Lines.{Lines}
use Rattle.words.specs.declared.parts.Part.{Part}
use Rattle.words.specs.Parts.{bytes, NextLine}
use Rattle.words.specs.Split.{lines}

-- the lines that are left
abbrev pub lines_left : Lines → List (List ℕ)
lines_left s = lines (drop s.at s.text.now)

-- what one call gives: the first line that is left, by its place in the text and its bytes
pub record GivesLine (s : Lines) (r : Option (Part × Bor (List ℕ))) (t : Lines) : Type 0 where
  pub text : t.text.now ≡ s.text.now
  pub place : NextLine s.text.now s.at (option_map (λ l. l.0) r)
  pub by_place : IfSome r (λ l. l.1.now ≡ bytes s.text.now l.0)
  pub first : YieldsFirstBy (λ l. l.1.now) lines_left s r t
