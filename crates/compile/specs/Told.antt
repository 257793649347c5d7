-- How a refusal is told. Assumes nothing.
use Rattle.std.specs.Prelude.{ℕ, List, [], ◌∷◌, ◌++◌, codes, decimal}
use Rattle.sheet.specs.Refusals.{number, layer}
use Rattle.calls.specs.Refusals.{number as job_number}
use Rattle.compile.specs.declared.refused.Refused.{Refused}
use Rattle.compile.specs.declared.refused.Refused.TheVariants.{Sheet, Writing}

-- each number after a blank
abbrev pub blanked : List ℕ → List ℕ
blanked [] = []
blanked (n ∷ ns) = codes " " ++ (decimal n ++ blanked ns)

-- a line that tells numbers
abbrev pub refused_line : List ℕ → List ℕ
refused_line ns = codes "refused" ++ (blanked ns ++ codes "\n")

-- the same without its LF
abbrev pub refused_words : List ℕ → List ℕ
refused_words ns = codes "refused" ++ blanked ns

-- of a sheet number, layer, line and word; of a writing its number alone
abbrev pub numbers : Refused → List ℕ
numbers (Sheet stop) = number stop.reason ∷ layer stop.reason ∷ stop.line ∷ stop.word ∷ []
numbers (Writing q) = job_number q ∷ []
