-- What an answer claims. Assumes nothing.
use Rattle.std.specs.Prelude.{◌≡◌, ℕ, Bool, true, false, cond, ◌||◌, List, [], ◌∷◌, Ok, Err, Result}
use Rattle.words.specs.Split.{lines}
use Rattle.answers.specs.declared.claim.ClaimFault.{ClaimFault}
use Rattle.answers.specs.declared.claim.ClaimFault.TheVariants.{BadLine, BadStatus, StrayValues}
use Rattle.answers.specs.declared.line.Status.{Status}
use Rattle.answers.specs.declared.line.Status.TheVariants.{Satisfiable, Unsatisfiable, Unknown}
use Rattle.answers.specs.Lines.{all_right, claims, value_lines}

abbrev pub none : {X : Type 0} → List X → Bool
none [] = true
none (x ∷ xs) = false

abbrev pub is_satisfiable : Status → Bool
is_satisfiable Satisfiable = true
is_satisfiable Unsatisfiable = false
is_satisfiable Unknown = false

-- one status line? No value line unless satisfiable?
abbrev pub claimed : List Status → List (List ℕ) → Result Status ClaimFault
claimed [] vs = Err BadStatus
claimed (s ∷ []) vs = cond (is_satisfiable s || none vs) (Ok s) (Err StrayValues)
claimed (s ∷ (t ∷ ss)) vs = Err BadStatus

-- every line a comment, status or value line? Then the other two questions
abbrev pub claim_in : List ℕ → Result Status ClaimFault
claim_in text = cond (all_right (lines text)) (claimed (claims (lines text)) (value_lines (lines text))) (Err BadLine)

abbrev pub Claims : List ℕ → Result Status ClaimFault → Type 0
Claims text r = r ≡ claim_in text
