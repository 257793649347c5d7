-- Settling by rounds: what a look at a clause or a pairing leaves, as long as the roots of its bounds stay. Assumes nothing.
use Rattle.std.specs.Prelude.{◌≡◌, ℕ, true, List, [], ◌∷◌}
use Rattle.std.specs.List.{AllByRecursion}
use Rattle.order.specs.declared.bound.Bound.{Bound}
use Rattle.order.specs.declared.literal.Literal.{Literal}
use Rattle.order.specs.declared.literal.Literal.TheVariants.{True}
use Rattle.order.specs.declared.range.Range.{Range}
use Rattle.order.specs.Bounds.{literal}
use Rattle.ties.specs.Relations.{Within}
use Rattle.ties.specs.Roots.{tied, root_by, Lower, Named, Fixed}
use Rattle.kinds.specs.declared.item.Tie.{Tie}
use Rattle.kinds.specs.Items.{Pairing}
use Rattle.theory.specs.Jobs.{reduced}
use Rattle.theory.specs.Closed.{Pairs, Stands}
use Rattle.theory.specs.Steps.{Long}

-- roots that come first in their classes
pub record Rooted (f : ℕ → Literal) : Type 0 where
  pub lower : Lower f
  pub named : Named f
  pub fixed : Fixed f

-- the ties of f, and perhaps more
pub record Onward (f g : ℕ → Literal) : Type 0 where
  pub before : Rooted f
  pub after : Rooted g
  pub more : Within (tied f) (tied g)

-- a bound has the same root by f and by g
abbrev pub Still : List Range → (ℕ → Literal) → (ℕ → Literal) → Bound → Type 0
Still rs f g b = root_by f (literal rs b) ≡ root_by g (literal rs b)

-- both bounds of a tie have
abbrev pub StillTie : List Range → (ℕ → Literal) → (ℕ → Literal) → Tie → Type 0
StillTie rs f g t = Still rs f g t.left × Still rs f g t.right

-- all bounds of a pairing have
abbrev pub StillPairing : List Range → (ℕ → Literal) → (ℕ → Literal) → Pairing → Type 0
StillPairing rs f g p = AllByRecursion (StillTie rs f g) p.premise × StillTie rs f g p.gives

-- a clause was seen between f and g: where its roots have stayed, it is left out or leaves two literals
abbrev pub Seen : List Range → (ℕ → Literal) → (ℕ → Literal) → List Bound → Type 0
Seen rs f g c = AllByRecursion (Still rs f g) c → Long (reduced rs g c)

-- a pairing was heard between f and g: where its roots have stayed, it is followed
abbrev pub Heard : List Range → (ℕ → Literal) → (ℕ → Literal) → Pairing → Type 0
Heard rs f g p = StillPairing rs f g p → Pairs rs (tied g) p

-- what rounds come down to
pub record Round (rs : List Range) : Type 0 where
  -- what was seen within a stretch was seen within a longer one
  pub sees_longer : (e f g h : ℕ → Literal) → Onward e f → Onward f g → Onward g h → (c : List Bound) → Seen rs f g c → Seen rs e h c
  pub hears_longer : (e f g h : ℕ → Literal) → Onward e f → Onward f g → Onward g h → (p : Pairing) → Heard rs f g p → Heard rs e h p
  -- what needs nothing was seen, and needs nothing as long as its roots stay
  pub sees : (f g : ℕ → Literal) (c : List Bound) → Long (reduced rs f c) → Seen rs f g c
  pub hears : (f g : ℕ → Literal) (p : Pairing) → Pairs rs (tied f) p → Heard rs f g p
  -- a clause that left one literal was seen once this is tied to true
  pub sees_unit : (f g : ℕ → Literal) → Onward f g → (c : List Bound) (u : Literal) → reduced rs f c ≡ (u ∷ []) ∷ [] → tied g u True ≡ true → Seen rs f g c
  -- a pairing whose tie stands was heard
  pub hears_tie : (f g : ℕ → Literal) (p : Pairing) → Stands rs (tied g) p.gives → Heard rs f g p
  -- within a round that makes no tie all that was seen is closed
  pub sees_end : (f : ℕ → Literal) (c : List Bound) → Seen rs f f c → Long (reduced rs f c)
  pub hears_end : (f : ℕ → Literal) (p : Pairing) → Heard rs f f p → Pairs rs (tied f) p

abbrev pub Rounds : Type 0
Rounds = (rs : List Range) → Round rs
