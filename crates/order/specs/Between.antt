-- Lists over the numbers of a stretch. Assumes nothing.
use Rattle.std.specs.Prelude.{ℕ, zero, suc, ◌+◌, ◌-◌, List, [], ◌∷◌, ◌++◌}

-- the lists of n numbers from a on, joined
abbrev pub run : {X : Type 0} → (ℕ → List X) → ℕ → ℕ → List X
run f a zero = []
run f a (suc n) = f a ++ run f (a + 1) n

-- the lists of the numbers from a on and below b, joined
abbrev pub between : {X : Type 0} → (ℕ → List X) → ℕ → ℕ → List X
between f a b = run f a (b - a)

-- the lists of a list's items, joined
abbrev pub joined : {X Y : Type 0} → (X → List Y) → List X → List Y
joined f [] = []
joined f (x ∷ xs) = f x ++ joined f xs
