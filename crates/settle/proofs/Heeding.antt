-- A tie that a clause forces keeps ties sound. Assumes nothing.
use Rattle.std.proofs.Common.{◌≡◌, ℕ, ◌≤◌, Bool, true, false, ◌&&◌, List, [], ◌∷◌, length, sym, refl, ◌∙◌, subst, inl, inr, true≢false, arith}
use Rattle.std.specs.List.{ContainsAt}
use Rattle.std.proofs.lemmas.Bool.{and_from, and_parts}
use Rattle.std.proofs.lemmas.Bool.Decides.{nat_tests}
use Rattle.order.specs.declared.bound.Bound.{Bound}
use Rattle.order.specs.declared.literal.Literal.{Literal}
use Rattle.order.specs.declared.literal.Literal.TheVariants.{False, True, Bit, Not}
use Rattle.order.specs.declared.range.Range.{Range}
use Rattle.order.specs.Ranges.{total_bits}
use Rattle.ties.specs.declared.classes.Ties.{Ties}
use Rattle.ties.specs.declared.joins.Joined.TheVariants.{Same, Made}
use Rattle.ties.specs.Roots.{tied, root_at, there, Joins}
use Rattle.ties.specs.Views.{roots_of}
use Rattle.ties.proofs.Equivalences.{tied_is_ties, least_same}
use Rattle.cnf.proofs.Inside.{kept_there}
use Rattle.theory.specs.Jobs.{Job, clauses, reduced}
use Rattle.theory.specs.Rounds.{Rooted}
use Rattle.theory.specs.Steps.{Forced}
use Rattle.theory.proofs.Settling.{settles}
use Rattle.theory.proofs.Rounding.{rounds}
use Rattle.settle.specs.Moves.{Further, Tying, Heeded}

pub rooted_ties : (t : Ties) → Rooted (root_at (roots_of t))
rooted_ties t = record { lower = t.lower; named = t.named; fixed = t.fixed }

-- nothing changes
pub further_same : (t : Ties) → Further (roots_of t) (roots_of t)
further_same t = record { onward = record { before = rooted_ties t; after = rooted_ties t; more = λ x y h. h }; fewer = omega arith; long = refl; stays = λ e. refl }

-- one change after another
pub further_through : {os ns ms : List Literal} → Further os ns → Further ns ms → Further os ms
further_through p q = record {
  onward = record { before = p.onward.before; after = q.onward.after; more = λ x y h. q.onward.more x y (p.onward.more x y h) };
  fewer = omega arith;
  long = q.long ∙ p.long;
  stays = λ e. q.stays (omega arith) ∙ p.stays (omega arith);
}

-- two literals that were tied, or are now
pub tying_same : (t u : Ties) (a b : Literal) → Joins Same (roots_of t) a b (roots_of u) → Tying true (roots_of t) a b (roots_of u)
tying_same t u a b h =
    subst (λ rs. Tying true (roots_of t) a b rs) (sym h.0)
    (further_same t, least_same (tied (root_at (roots_of t))) a b (tied_is_ties (root_at (roots_of t))) h.1)

pub tying_made : (t u : Ties) (a b : Literal) → Joins Made (roots_of t) a b (roots_of u) → Tying true (roots_of t) a b (roots_of u)
tying_made t u a b h = (
  record { onward = record { before = rooted_ties t; after = rooted_ties u; more = h.least.more }; fewer = omega (arith, h.freed); long = h.long; stays = λ e. absurd (omega (arith, h.freed)) },
  h.least,
)

-- what is there among some bits is there among more
there_more : (m n : ℕ) (l : Literal) → m ≤ n → there m l ≡ true → there n l ≡ true
there_more m n False h e = refl
there_more m n True h e = refl
there_more m n (Bit k) h e = grind (arith, nat_tests)
there_more m n (Not k) h e = grind (arith, nat_tests)

pub both_there : (m n : ℕ) (a b : Literal) → m ≤ n → there m a ≡ true → there m b ≡ true → (there n a && there n b) ≡ true
both_there m n a b h p q = and_from (there n a) (there n b) (there_more m n a h p) (there_more m n b h q)

-- a clause that leaves nothing
pub heeds_nothing : (rs : List Range) (c : List Bound) (os : List Literal) → reduced rs (root_at os) c ≡ [] ∷ [] → Heeded false rs c os []
heeds_nothing rs c os none j e has sound =
    (settles j).refused (tied (root_at os)) sound ((settles j).empty (root_at os) c has (subst (λ r. reduced r (root_at os) c ≡ [] ∷ []) (sym e) none))

-- a clause that leaves one literal
module _ (rs : List Range) (c : List Bound) (t : Ties) (ns : List Literal) (u : Literal) (long : total_bits rs ≤ length (roots_of t)) (one : reduced rs (root_at (roots_of t)) c ≡ (u ∷ []) ∷ []) where
  abbrev os : List Literal
  os = roots_of t

  forced : (j : Job) → j.ranges ≡ rs → ContainsAt (clauses j) c → Forced j (tied (root_at os)) u True
  forced j e has = (settles j).unit (root_at os) t.fixed c has u (subst (λ r. reduced r (root_at os) c ≡ (u ∷ []) ∷ []) (sym e) one)

  there_one : (there (length os) u && there (length os) True) ≡ true
  there_one =
      both_there (total_bits rs) (length os) u True long
      (and_parts (there (total_bits rs) u) true (kept_there rs (root_at os) t.named c (u ∷ []) (total_bits rs) refl one)).0 refl

  pub heeds_one : (r : Bool) → Tying r os u True ns → Heeded r rs c os ns
  heeds_one true h = (
    h.0,
    (rounds rs).sees_unit (root_at os) (root_at ns) h.0.onward c u one h.1.both,
    λ j e has sound. (settles j).tie (tied (root_at os)) sound u True (tied (root_at ns)) (forced j e has) h.1,
  )
  heeds_one false h = elim h [
    | inl opposed ↦ λ j e has sound. (settles j).refused (tied (root_at os)) sound ((settles j).opposites (tied (root_at os)) u True (forced j e has) opposed)
    | inr absent ↦ absurd (true≢false (sym there_one ∙ absent))
  ]
