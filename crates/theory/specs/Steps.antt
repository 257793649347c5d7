-- Settling: ties that a job's rules force, step by step. Assumes nothing.
use Rattle.std.specs.Prelude.{◌≡◌, ℕ, ◌≤◌, true, List, [], ◌∷◌, length}
use Rattle.std.specs.List.{ContainsAt, AllByRecursion}
use Rattle.order.specs.declared.bound.Bound.{Bound}
use Rattle.order.specs.declared.literal.Literal.{Literal}
use Rattle.order.specs.declared.literal.Literal.TheVariants.{True, Bit}
use Rattle.order.specs.Bounds.{literal}
use Rattle.order.specs.Literals.{opposite}
use Rattle.ties.specs.Relations.{Relation, Within, Least}
use Rattle.ties.specs.Roots.{tied, Fixed}
use Rattle.kinds.specs.Items.{Pairing}
use Rattle.theory.specs.Jobs.{Job, clauses, pairings, reduced}
use Rattle.theory.specs.Closed.{Stands, Pairs, Closed, Sound, Refused}

-- each closed set that holds R ties a with b
abbrev pub Forced : Job → Relation → Literal → Literal → Type 0
Forced j R a b = (S : Relation) → Closed j S → Within R S → S a b ≡ true

-- no closed set holds R
abbrev pub Hopeless : Job → Relation → Type 0
Hopeless j R = (S : Relation) → Closed j S → Within R S → ⊥

-- each of the clauses has two literals at least
abbrev pub Long : List (List Literal) → Type 0
Long ds = AllByRecursion (λ d. 2 ≤ length d) ds

-- the steps that settling may take: the ties stay sound from the start, through each tie that is forced, to the end
pub record Settling (j : Job) : Type 0 where
  -- to tie nothing is sound
  pub start : Sound j (tied Bit)
  -- a clause that leaves one literal, and a pairing whose premise stands, force a tie
  pub unit : (f : ℕ → Literal) → Fixed f → (c : List Bound) → ContainsAt (clauses j) c → (u : Literal) → reduced j.ranges f c ≡ (u ∷ []) ∷ [] → Forced j (tied f) u True
  pub pairing : (R : Relation) (p : Pairing) → ContainsAt (pairings j) p → AllByRecursion (Stands j.ranges R) p.premise → Forced j R (literal j.ranges p.gives.left) (literal j.ranges p.gives.right)
  -- to make a tie that is forced keeps the ties sound
  pub tie : (R : Relation) → Sound j R → (a b : Literal) (R' : Relation) → Forced j R a b → Least R a b R' → Sound j R'
  -- a clause that leaves nothing, and a forced tie of opposites, are hopeless
  pub empty : (f : ℕ → Literal) (c : List Bound) → ContainsAt (clauses j) c → reduced j.ranges f c ≡ [] ∷ [] → Hopeless j (tied f)
  pub opposites : (R : Relation) (a b : Literal) → Forced j R a b → R a (opposite b) ≡ true → Hopeless j R
  -- sound ties that are hopeless leave no closed set
  pub refused : (R : Relation) → Sound j R → Hopeless j R → Refused j
  -- where each clause leaves two literals or is left out, and each pairing is followed, the ties are closed
  pub closed : (f : ℕ → Literal) → AllByRecursion (λ c. Long (reduced j.ranges f c)) (clauses j) → AllByRecursion (Pairs j.ranges (tied f)) (pairings j) → Closed j (tied f)

-- these steps stand for each job
abbrev pub Settles : Type 0
Settles = (j : Job) → Settling j
