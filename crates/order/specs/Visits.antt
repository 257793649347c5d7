-- What a visitor has gone through. Assumes nothing.
use Rattle.std.specs.Prelude.{◌≡◌, List, [], ◌∷◌}

-- from s, by one step for each of a list, to t
abbrev pub After : {S C : Type 0} → (S → C → S → Type 0) → S → List C → S → Type 0
After step s [] t = s ≡ t
After {S} step s (c ∷ cs) t = (u : S) × (step s c u × After step u cs t)
