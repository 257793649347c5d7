-- What a walk over the parts of a job comes to. Assumes nothing.
use Rattle.std.specs.Prelude.{ℕ, ◌+◌, ◌<◌, Bool, true, false, List, length, Some, None, Option}
use Rattle.std.specs.List.{AllByRecursion}
use Rattle.order.specs.declared.literal.Literal.{Literal}
use Rattle.order.specs.declared.range.Range.{Range}
use Rattle.ties.specs.declared.classes.Ties.{Ties}
use Rattle.ties.specs.Roots.{tied, root_at}
use Rattle.ties.specs.Views.{roots_of}
use Rattle.kinds.specs.Meaning.{Meaning}
use Rattle.rows.specs.Rows.{Posted}
use Rattle.theory.specs.Jobs.{Job}
use Rattle.theory.specs.Closed.{Closed, Sound, Refused}
use Rattle.theory.specs.Rounds.{Seen, Heard, Onward}
use Rattle.calls.specs.Jobs.{job_of}
use Rattle.settle.specs.Moves.{Further}
use Rattle.settle.specs.Parts.{part_clauses, part_pairings}

-- the part at place k was seen between the roots os and ns
pub record PartSeen (m : ℕ → Meaning) (rs : List Range) (ps : List Posted) (os ns : List Literal) (k : ℕ) : Type 0 where
  pub clauses : AllByRecursion (Seen rs (root_at os) (root_at ns)) (part_clauses m rs ps k)
  pub pairings : AllByRecursion (Heard rs (root_at os) (root_at ns)) (part_pairings m rs ps k)

-- the parts at places below n were
abbrev pub SeenBelow : (ℕ → Meaning) → List Range → List Posted → List Literal → List Literal → ℕ → Type 0
SeenBelow m rs ps os ns n = (k : ℕ) → k < n → PartSeen m rs ps os ns k

-- all parts were, and the ties have grown
pub record AllSeen (m : ℕ → Meaning) (rs : List Range) (ps : List Posted) (os ns : List Literal) : Type 0 where
  pub onward : Onward (root_at os) (root_at ns)
  pub parts : SeenBelow m rs ps os ns (length rs + length ps)

-- the ties have grown, or nothing is said
abbrev pub StepsOn : Bool → List Literal → List Literal → Type 0
StepsOn true os ns = Further os ns
StepsOn false os ns = Unit {0}

-- all parts were seen and the ties stay sound; or sound ties leave no closed set
abbrev pub Walked : Bool → (ℕ → Meaning) → List Range → List Posted → List Literal → List Literal → Type 0
Walked true m rs ps os ns = AllSeen m rs ps os ns × (Sound (job_of m rs ps) (tied (root_at os)) → Sound (job_of m rs ps) (tied (root_at ns)))
Walked false m rs ps os ns = Sound (job_of m rs ps) (tied (root_at os)) → Refused (job_of m rs ps)

-- the ties have grown, where there is an answer
abbrev pub GrowsTo : List Literal → Option Ties → Type 0
GrowsTo os None = Unit {0}
GrowsTo os (Some t) = Further os (roots_of t)

-- the least closed set of ties with the ties os; or none where os is sound and no set is closed
abbrev pub SettlesTo : Job → List Literal → Option Ties → Type 0
SettlesTo j os None = Sound j (tied (root_at os)) → Refused j
SettlesTo j os (Some t) = Closed j (tied (root_at (roots_of t))) × (Sound j (tied (root_at os)) → Sound j (tied (root_at (roots_of t))))
