-- The words of a part of a text that are still to come. Assumes nothing.
use Rattle.std.specs.Prelude.{◌≡◌, ℕ, List, Option, IfSome, option_map}
use Rattle.std.specs.Borrow.{Bor}
use Rattle.std.specs.Iterator.{YieldsFirstBy}
use Rattle.words.specs.declared.lines.Words.{Words}
use Rattle.words.specs.declared.parts.Part.{Part}
use Rattle.words.specs.Parts.{bytes, NextWord}
use Rattle.words.specs.Split.{words}

-- the words that are left
abbrev pub words_left : Words → List (List ℕ)
words_left s = words (bytes s.text.now s.rest)

-- what one call gives: the first word that is left, by its place in the text and its bytes
pub record GivesWord (s : Words) (r : Option (Part × Bor (List ℕ))) (t : Words) : Type 0 where
  pub text : t.text.now ≡ s.text.now
  pub place : NextWord s.text.now s.rest (option_map (λ w. w.0) r)
  pub by_place : IfSome r (λ w. w.1.now ≡ bytes s.text.now w.0)
  pub first : YieldsFirstBy (λ w. w.1.now) words_left s r t
