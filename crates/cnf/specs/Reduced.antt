-- What is written of a clause of roots. Assumes nothing.
use Rattle.std.specs.Prelude.{Bool, false, cond, ◌||◌, List, [], ◌∷◌, ◌++◌, fold}
use Rattle.order.specs.declared.literal.Literal.{Literal}
use Rattle.order.specs.declared.literal.Literal.TheVariants.{False, True}
use Rattle.order.specs.Literals.{opposite, same}

-- whether a clause has the literal l
abbrev pub has : List Literal → Literal → Bool
has [] l = false
has (m ∷ c) l = same m l || has c l

-- a literal is added to a clause, unless it is false or there
abbrev pub add : List Literal → Literal → List Literal
add d l = cond (same l False || has d l) d (d ++ l ∷ [])

-- false and repeats are struck out, the first place kept
abbrev pub struck : List Literal → List Literal
struck c = fold add [] c

-- whether a clause has a literal and its opposite
abbrev pub opposed : List Literal → Bool
opposed [] = false
opposed (l ∷ c) = has c (opposite l) || opposed c

-- what is written of a clause: nothing where it has true, or a literal and its opposite
abbrev pub written : List Literal → List (List Literal)
written c = cond (has c True || opposed c) [] (struck c ∷ [])
