-- What making a forced tie comes to. Assumes nothing.
use Rattle.std.specs.Prelude.{◌≡◌, ◌≤◌, Bool, true, false, ◌&&◌, ◌⊎◌, List, length}
use Rattle.std.specs.List.{ContainsAt, list_all}
use Rattle.order.specs.declared.bound.Bound.{Bound}
use Rattle.order.specs.declared.literal.Literal.{Literal}
use Rattle.order.specs.declared.range.Range.{Range}
use Rattle.order.specs.Bounds.{literal}
use Rattle.order.specs.Literals.{opposite}
use Rattle.ties.specs.Relations.{Relation, Least}
use Rattle.ties.specs.Roots.{tied, root_at, free, there}
use Rattle.kinds.specs.declared.item.Tie.{Tie}
use Rattle.kinds.specs.Items.{Pairing}
use Rattle.theory.specs.Jobs.{Job, clauses, pairings}
use Rattle.theory.specs.Closed.{Sound, Refused}
use Rattle.theory.specs.Rounds.{Onward, Seen, Heard}

-- the ties grow, and fewer bits are free, unless nothing has changed
pub record Further (os rs : List Literal) : Type 0 where
  pub onward : Onward (root_at os) (root_at rs)
  pub fewer : free rs ≤ free os
  pub long : length rs ≡ length os
  pub stays : free rs ≡ free os → rs ≡ os

-- a and b are tied, by the least set of ties; or each is tied to the other's opposite, or one of them is not there
abbrev pub Tying : Bool → List Literal → Literal → Literal → List Literal → Type 0
Tying true os a b rs = Further os rs × Least (tied (root_at os)) a b (tied (root_at rs))
Tying false os a b rs = (tied (root_at os) a (opposite b) ≡ true) ⊎ ((there (length os) a && there (length os) b) ≡ false)

-- a clause was looked at: the ties stay sound for each job that has it; or no set of ties is closed for such a job
abbrev pub Heeded : Bool → List Range → List Bound → List Literal → List Literal → Type 0
Heeded true rs c os ns = Further os ns × Seen rs (root_at os) (root_at ns) c × ((j : Job) → j.ranges ≡ rs → ContainsAt (clauses j) c → Sound j (tied (root_at os)) → Sound j (tied (root_at ns)))
Heeded false rs c os ns = (j : Job) → j.ranges ≡ rs → ContainsAt (clauses j) c → Sound j (tied (root_at os)) → Refused j

-- whether each of some ties stands
abbrev pub all_stand : List Range → Relation → List Tie → Bool
all_stand rs R ts = list_all (λ (t : Tie). R (literal rs t.left) (literal rs t.right)) ts

-- a pairing was looked at, in the same way
abbrev pub Followed : Bool → List Range → Pairing → List Literal → List Literal → Type 0
Followed true rs p os ns = Further os ns × Heard rs (root_at os) (root_at ns) p × ((j : Job) → j.ranges ≡ rs → ContainsAt (pairings j) p → Sound j (tied (root_at os)) → Sound j (tied (root_at ns)))
Followed false rs p os ns = (j : Job) → j.ranges ≡ rs → ContainsAt (pairings j) p → Sound j (tied (root_at os)) → Refused j
