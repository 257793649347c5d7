-- A tie that a pairing gives keeps ties sound. Assumes nothing.
use Rattle.std.proofs.Common.{◌≡◌, ◌≤◌, Bool, true, false, ◌&&◌, List, [], ◌∷◌, length, sym, refl, ◌∙◌, subst, inl, inr, true≢false}
use Rattle.std.specs.List.{ContainsAt, AllByRecursion}
use Rattle.std.proofs.lemmas.Bool.{and_from, and_parts}
use Rattle.order.specs.declared.literal.Literal.{Literal}
use Rattle.order.specs.declared.range.Range.{Range}
use Rattle.order.specs.Bounds.{literal}
use Rattle.order.specs.Ranges.{total_bits}
use Rattle.ties.specs.declared.classes.Ties.{Ties}
use Rattle.ties.specs.Relations.{Relation}
use Rattle.ties.specs.Roots.{tied, root_at, there}
use Rattle.ties.specs.Views.{roots_of}
use Rattle.kinds.specs.declared.item.Tie.{Tie}
use Rattle.kinds.specs.Items.{pairing}
use Rattle.cnf.proofs.Inside.{literal_there}
use Rattle.theory.specs.Jobs.{Job, pairings}
use Rattle.theory.specs.Closed.{Stands}
use Rattle.theory.specs.Steps.{Forced}
use Rattle.theory.proofs.Settling.{settles}
use Rattle.theory.proofs.Rounding.{rounds}
use Rattle.settle.specs.Moves.{all_stand, Tying, Followed}
use Rattle.settle.proofs.Heeding.{further_same, both_there}

-- each tie of a premise stands
stand : (rs : List Range) (R : Relation) (ts : List Tie) → all_stand rs R ts ≡ true → AllByRecursion (Stands rs R) ts
stand rs R [] h = tt
stand rs R (t ∷ ts) h = let p = and_parts (R (literal rs t.left) (literal rs t.right)) (all_stand rs R ts) h in (p.0, stand rs R ts p.1)

stand_back : (rs : List Range) (R : Relation) (ts : List Tie) → AllByRecursion (Stands rs R) ts → all_stand rs R ts ≡ true
stand_back rs R [] h = refl
stand_back rs R (t ∷ ts) h = and_from (R (literal rs t.left) (literal rs t.right)) (all_stand rs R ts) h.0 (stand_back rs R ts h.1)

-- a premise that does not stand
pub follows_none : (rs : List Range) (t : Ties) (ts : List Tie) (x : Tie) → all_stand rs (tied (root_at (roots_of t))) ts ≡ false → Followed true rs (pairing ts x) (roots_of t) (roots_of t)
follows_none rs t ts x apart = (
  further_same t,
  λ still premise. absurd (true≢false (sym (stand_back rs (tied (root_at (roots_of t))) ts premise) ∙ apart)),
  λ j e has sound. sound,
)

-- a premise that stands
module _ (rs : List Range) (t : Ties) (ns : List Literal) (ts : List Tie) (x : Tie) (long : total_bits rs ≤ length (roots_of t)) (all : all_stand rs (tied (root_at (roots_of t))) ts ≡ true) where
  abbrev os : List Literal
  os = roots_of t

  forced : (j : Job) → j.ranges ≡ rs → ContainsAt (pairings j) (pairing ts x) → Forced j (tied (root_at os)) (literal rs x.left) (literal rs x.right)
  forced j e has =
      subst (λ r. Forced j (tied (root_at os)) (literal r x.left) (literal r x.right)) e
      ((settles j).pairing (tied (root_at os)) (pairing ts x) has (subst (λ r. AllByRecursion (Stands r (tied (root_at os))) ts) (sym e) (stand rs (tied (root_at os)) ts all)))

  there_both : (there (length os) (literal rs x.left) && there (length os) (literal rs x.right)) ≡ true
  there_both = both_there (total_bits rs) (length os) (literal rs x.left) (literal rs x.right) long (literal_there rs x.left) (literal_there rs x.right)

  pub follows_tie : (r : Bool) → Tying r os (literal rs x.left) (literal rs x.right) ns → Followed r rs (pairing ts x) os ns
  follows_tie true h = (
    h.0,
    (rounds rs).hears_tie (root_at os) (root_at ns) (pairing ts x) h.1.both,
    λ j e has sound. (settles j).tie (tied (root_at os)) sound _ _ (tied (root_at ns)) (forced j e has) h.1,
  )
  follows_tie false h = elim h [
    | inl opposed ↦ λ j e has sound. (settles j).refused (tied (root_at os)) sound ((settles j).opposites (tied (root_at os)) _ _ (forced j e has) opposed)
    | inr absent ↦ absurd (true≢false (sym there_both ∙ absent))
  ]
