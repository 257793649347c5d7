-- Sets of ties that a job's rules close. Assumes nothing.
use Rattle.std.specs.Prelude.{◌≡◌, ℕ, Bool, true, false, cond, not, ◌&&◌, ◌||◌, List, [], ◌∷◌}
use Rattle.std.specs.List.{AllByRecursion}
use Rattle.order.specs.declared.literal.Literal.{Literal}
use Rattle.order.specs.declared.literal.Literal.TheVariants.{False, True}
use Rattle.order.specs.declared.range.Range.{Range}
use Rattle.order.specs.Bounds.{literal, literals}
use Rattle.order.specs.Literals.{opposite, truth}
use Rattle.ties.specs.Relations.{Relation, IsTies, Within}
use Rattle.kinds.specs.declared.item.Tie.{Tie}
use Rattle.kinds.specs.Items.{Pairing}
use Rattle.cnf.specs.Reduced.{has}
use Rattle.theory.specs.Jobs.{Job, clauses, pairings}

-- whether each literal of a clause is tied to false
abbrev pub all_false : Relation → List Literal → Bool
all_false S [] = true
all_false S (l ∷ c) = S l False && all_false S c

-- whether each literal of a clause is tied to false or to u
abbrev pub only : Relation → Literal → List Literal → Bool
only S u [] = true
only S u (l ∷ c) = (S l False || S l u) && only S u c

-- what a clause asks of a set of ties: not all of it is false, and what alone is left of it is true
pub record Heeds (S : Relation) (c : List Literal) : Type 0 where
  pub some_left : all_false S c ≡ false
  pub last_true : (u : Literal) → has c u ≡ true → only S u c ≡ true → S u True ≡ true

-- the tie of two bounds stands
abbrev pub Stands : List Range → Relation → Tie → Type 0
Stands rs S t = S (literal rs t.left) (literal rs t.right) ≡ true

-- what a pairing asks of a set of ties: where its premise stands, so does its tie
abbrev pub Pairs : List Range → Relation → Pairing → Type 0
Pairs rs S p = AllByRecursion (Stands rs S) p.premise → Stands rs S p.gives

-- a set of ties that the job's rules add nothing to, with no contradiction
pub record Closed (j : Job) (S : Relation) : Type 0 where
  pub ties : IsTies S
  pub apart : (l : Literal) → S l (opposite l) ≡ false
  pub clauses : AllByRecursion (λ c. Heeds S (literals j.ranges c)) (clauses j)
  pub pairings : AllByRecursion (Pairs j.ranges S) (pairings j)

-- whether two literals are both true or both false
abbrev pub alike : (ℕ → Bool) → Relation
alike β l m = cond (truth β l) (truth β m) (not (truth β m))

-- each closed set holds the ties R
abbrev pub Sound : Job → Relation → Type 0
Sound j R = (S : Relation) → Closed j S → Within R S

-- no set of ties is closed
abbrev pub Refused : Job → Type 0
Refused j = (S : Relation) → Closed j S → ⊥
