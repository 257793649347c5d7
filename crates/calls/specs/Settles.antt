-- What a settling answers, and what the job holds then. Assumes nothing.
use Rattle.std.specs.Prelude.{◌≡◌, ℕ, ◌+◌, Bool, true, false, Decides}
use Rattle.order.specs.declared.literal.Literal.{Literal}
use Rattle.ties.specs.Relations.{Relation}
use Rattle.ties.specs.Roots.{tied}
use Rattle.theory.specs.Jobs.{Job}
use Rattle.theory.specs.Closed.{Closed, Refused}
use Rattle.theory.specs.Rounds.{Rooted}
use Rattle.calls.specs.Catalogues.{Catalogue}
use Rattle.calls.specs.Jobs.{job_of}
use Rattle.calls.specs.View.{View, with_ties, free_bits}

-- the rules of the job as it stands
abbrev pub rules : Catalogue → View → Job
rules k v = job_of k.meaning v.ranges v.rows

-- void or not, ties made, free bits left
abbrev pub Triple : Type 0
Triple = Bool × ℕ × ℕ

-- an honest count: where the job is void, 0 and 0 and no tie is made; else each tie made takes one free bit. The root of
-- each bit is the first literal of its class
pub record Counted (v : View) (t : Triple) (v' : View) : Type 0 where
  pub after : v' ≡ with_ties v v'.root t.0
  pub rooted : Rooted v'.root
  pub was_void : v.void ≡ true → t.0 ≡ true
  pub no_ties : t.0 ≡ true → (t.1 ≡ 0) × (t.2 ≡ 0) × (v'.root ≡ v.root)
  pub made : t.0 ≡ false → free_bits v ≡ t.1 + t.2
  pub left : t.0 ≡ false → t.2 ≡ free_bits v'

-- every closed set of ties has a with b
abbrev pub AlwaysTied : Job → Literal → Literal → Type 0
AlwaysTied j a b = (S : Relation) → Closed j S → S a b ≡ true

-- void exactly when no set of ties is closed; else the ties are closed, and tied is exactly what every closed set ties
pub record Settling (k : Catalogue) (v : View) (t : Triple) (v' : View) : Type 0 where
  pub counted : Counted v t v'
  pub verdict : Decides t.0 (Refused (rules k v))
  pub closed : t.0 ≡ false → Closed (rules k v) (tied v'.root)
  pub ties : t.0 ≡ false → (a b : Literal) → Decides (tied v'.root a b) (AlwaysTied (rules k v) a b)
