-- Literals and clauses through the roots. Assumes nothing.
use Rattle.std.proofs.Common.{◌≡◌, ℕ, Bool, List, [], ◌∷◌, map, sym, refl, arith}
use Rattle.order.specs.declared.literal.Literal.{Literal}
use Rattle.order.specs.declared.literal.Literal.TheVariants.{False, True, Bit, Not}
use Rattle.order.specs.Literals.{truth}
use Rattle.order.proofs.Signs.{truth_opposite}
use Rattle.ties.specs.Roots.{root_by}
use Rattle.theory.specs.Truth.{some_true, through}

-- a literal is true through the roots as its root is
pub truth_through : (f : ℕ → Literal) (α : ℕ → Bool) (l : Literal) → truth (through f α) l ≡ truth α (root_by f l)
truth_through f α False = refl
truth_through f α True = refl
truth_through f α (Bit n) = refl
truth_through f α (Not n) = sym (truth_opposite α (f n))

-- and so is a clause
pub some_through : (f : ℕ → Literal) (α : ℕ → Bool) (c : List Literal) → some_true (through f α) c ≡ some_true α (map (root_by f) c)
some_through f α [] = refl
some_through f α (l ∷ c) = rw (truth_through f α l, some_through f α c)

-- where each bit is its own root, so is each literal
pub root_itself : (x : Literal) → root_by Bit x ≡ x
root_itself x = grind arith
