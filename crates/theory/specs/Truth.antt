-- Clauses that are true under an assignment of the bits. Assumes nothing.
use Rattle.std.specs.Prelude.{ℕ, Bool, true, false, ◌&&◌, ◌||◌, List, [], ◌∷◌}
use Rattle.order.specs.declared.literal.Literal.{Literal}
use Rattle.order.specs.Literals.{truth}

-- whether a clause has a true literal
abbrev pub some_true : (ℕ → Bool) → List Literal → Bool
some_true β [] = false
some_true β (l ∷ c) = truth β l || some_true β c

-- whether each clause has a true literal
abbrev pub all_true : (ℕ → Bool) → List (List Literal) → Bool
all_true β [] = true
all_true β (c ∷ cs) = some_true β c && all_true β cs

-- an assignment of the roots gives one of the bits
abbrev pub through : (ℕ → Literal) → (ℕ → Bool) → ℕ → Bool
through f α n = truth α (f n)
