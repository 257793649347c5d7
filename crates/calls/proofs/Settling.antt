-- What a settling shows of the job. Assumes nothing.
use Rattle.std.proofs.Common.{◌≡◌, ℕ, ◌-◌, ◌≤◌, true, false, sym, refl, ◌∙◌, true≢false, arith}
use Rattle.std.proofs.lemmas.Bool.{false≢true}
use Rattle.order.specs.declared.literal.Literal.{Literal}
use Rattle.order.specs.Ranges.{total_bits}
use Rattle.ties.specs.Roots.{tied, free_to}
use Rattle.theory.specs.Closed.{Closed, Sound, Refused}
use Rattle.theory.specs.Rounds.{Rooted}
use Rattle.calls.specs.Catalogues.{Catalogue}
use Rattle.calls.specs.Invariant.{Invariant}
use Rattle.calls.specs.Settles.{rules, Counted, Settling}
use Rattle.calls.specs.View.{View, with_ties, free_bits}

-- a void job stays as it is
pub counted_void : (v : View) → Rooted v.root → v.void ≡ true → Counted v (true, 0, 0) v
counted_void v rooted e = record {
  rooted = rooted;
  after = λ i. record { ranges = v.ranges; declared = v.declared; rows = v.rows; root = v.root; void = e i };
  was_void = λ _. refl;
  no_ties = λ _. (refl, refl, refl);
  made = λ h. absurd (true≢false h);
  left = λ h. absurd (true≢false h);
}

pub settled_void : (k : Catalogue) (v : View) → v.void ≡ true → Invariant k v → Settling k v (true, 0, 0) v
settled_void k v e inv = record {
  counted = counted_void v inv.rooted e;
  verdict = (λ _. inv.refused e, λ _. refl);
  closed = λ h. absurd (true≢false h);
  ties = λ h. absurd (true≢false h);
}

-- no set of ties is closed
pub counted_none : (v : View) → Rooted v.root → Counted v (true, 0, 0) (with_ties v v.root true)
counted_none v rooted = record {
  rooted = rooted;
  after = refl;
  was_void = λ _. refl;
  no_ties = λ _. (refl, refl, refl);
  made = λ h. absurd (true≢false h);
  left = λ h. absurd (true≢false h);
}

pub settled_none : (k : Catalogue) (v : View) → v.void ≡ false → Invariant k v → (Sound (rules k v) (tied v.root) → Refused (rules k v)) → Settling k v (true, 0, 0) (with_ties v v.root true)
settled_none k v e inv none = record {
  counted = counted_none v inv.rooted;
  verdict = (λ _. none (inv.sound e), λ _. refl);
  closed = λ h. absurd (true≢false h);
  ties = λ h. absurd (true≢false h);
}

-- the ties are f, with no more free bits than before
module _ (v : View) (f : ℕ → Literal) (before left : ℕ) (e : v.void ≡ false) (was : before ≡ free_bits v) (now : left ≡ free_to f (total_bits v.ranges)) (fewer : left ≤ before) (rooted : Rooted f) where
  pub counted_some : Counted v (false, before - left, left) (with_ties v f v.void)
  counted_some = record {
    after = λ i. with_ties v f (e i);
    rooted = rooted;
    was_void = λ h. absurd (true≢false (sym h ∙ e));
    no_ties = λ h. absurd (false≢true h);
    made = λ _. omega (arith, was);
    left = λ _. now;
  }

  pub settled_some : (k : Catalogue) → Invariant k v → Closed (rules k v) (tied f) → (Sound (rules k v) (tied v.root) → Sound (rules k v) (tied f)) → Settling k v (false, before - left, left) (with_ties v f v.void)
  settled_some k inv closed sound = record {
    counted = counted_some;
    verdict = (λ h. absurd (false≢true h), λ none. absurd (none (tied f) closed));
    closed = λ _. closed;
    ties = λ _ a b. (λ h S c. sound (inv.sound e) S c a b h, λ all. all (tied f) closed);
  }
