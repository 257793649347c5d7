-- The numbers of the free bits, and the clauses of the file. Assumes nothing.
use Rattle.std.specs.Prelude.{◌≡◌, ℕ, suc, ◌<◌, Bool, true, false, ◌&&◌, List, [], ◌∷◌, map, length, slice_index}
use Rattle.order.specs.declared.range.Range.{Range}
use Rattle.order.specs.Between.{joined}
use Rattle.order.specs.declared.bound.Bound.{Bound}
use Rattle.order.specs.Bounds.{literals}
use Rattle.order.specs.declared.literal.Literal.{Literal}
use Rattle.order.specs.declared.literal.Literal.TheVariants.{False, True, Bit, Not}
use Rattle.ties.specs.Roots.{root_by, free_to, there}
use Rattle.sink.specs.declared.lit.Lit.{Lit}
use Rattle.cnf.specs.Reduced.{written}

-- the literal of the file for a free bit or its opposite: free bits are numbered from 1, rising
abbrev pub lit : (ℕ → Literal) → Literal → Lit
lit f False = record { variable = 0; negated = false }
lit f True = record { variable = 0; negated = true }
lit f (Bit n) = record { variable = free_to f n; negated = false }
lit f (Not n) = record { variable = free_to f n; negated = true }

-- bits become their roots
abbrev pub rooted : List Range → (ℕ → Literal) → List Bound → List Literal
rooted rs f c = map (root_by f) (literals rs c)

-- what is written of a clause of bounds: one clause or none
abbrev pub written_clause : List Range → (ℕ → Literal) → List Bound → List (List Lit)
written_clause rs f c = map (map (lit f)) (written (rooted rs f c))

-- what is written of a list of clauses
abbrev pub written_all : List Range → (ℕ → Literal) → List (List Bound) → List (List Lit)
written_all rs f cs = joined (written_clause rs f) cs

-- entry n is the number of the free bits of 1 to n + 1
abbrev pub Numbers : (ℕ → Literal) → List ℕ → Type 0
Numbers f ns = (n : ℕ) → n < length ns → slice_index ns n ≡ free_to f (suc n)

-- each literal of a clause is a constant or one of the bits 1 to n
abbrev pub all_there : ℕ → List Literal → Bool
all_there n [] = true
all_there n (l ∷ c) = there n l && all_there n c
