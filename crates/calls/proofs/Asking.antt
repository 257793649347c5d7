-- Questions that are put one after another. Assumes nothing.
use Rattle.std.proofs.Common.{◌≡◌, true, List, [], ◌∷◌, None, refl, arith}
use Rattle.std.specs.List.{AllByRecursion}
use Rattle.calls.specs.Questions.{Question, first_no}

-- all questions are answered yes
pub all_yes : (qs : List Question) → AllByRecursion (λ q. q.yes ≡ true) qs → first_no qs ≡ None
all_yes [] h = refl
all_yes (q ∷ qs) h = grind (arith, all_yes qs)
