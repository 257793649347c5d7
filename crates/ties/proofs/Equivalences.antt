-- Roots make a set of ties, and the least set of ties with one more. Assumes nothing.
use Rattle.std.proofs.Common.{◌≡◌, ℕ, ◌≤◌, true, sym, refl, ap, ◌∙◌, subst, arith}
use Rattle.order.specs.declared.literal.Literal.{Literal}
use Rattle.order.specs.Literals.{opposite}
use Rattle.ties.specs.Relations.{Relation, IsTies, Least}
use Rattle.ties.specs.Roots.{rank, root_by, tied, Lower, Fixed}
use Rattle.order.proofs.Signs.{same_from_equal, equal_from_same, opposite_opposite}

pub root_by_opposite : (f : ℕ → Literal) (x : Literal) → root_by f (opposite x) ≡ opposite (root_by f x)
root_by_opposite f x = grind (arith, opposite_opposite)

-- roots of roots are themselves, if those of bits are
pub root_by_twice : (f : ℕ → Literal) → Fixed f → (x : Literal) → root_by f (root_by f x) ≡ root_by f x
root_by_twice f fixed x = grind (arith, root_by_opposite, fixed)

pub tied_roots : (f : ℕ → Literal) (x y : Literal) → tied f x y ≡ true → root_by f x ≡ root_by f y
tied_roots f x y = equal_from_same (root_by f x) (root_by f y)

pub roots_tie : (f : ℕ → Literal) (x y : Literal) → root_by f x ≡ root_by f y → tied f x y ≡ true
roots_tie f x y = same_from_equal (root_by f x) (root_by f y)

pub tied_is_ties : (f : ℕ → Literal) → IsTies (tied f)
tied_is_ties f = record {
  reflexive = λ x. roots_tie f x x refl;
  symmetric = λ x y h. roots_tie f y x (sym (tied_roots f x y h));
  transitive = λ x y z h k. roots_tie f x z (tied_roots f x y h ∙ tied_roots f y z k);
  opposites = λ x y h. roots_tie f (opposite x) (opposite y) (root_by_opposite f x ∙ ap opposite (tied_roots f x y h) ∙ sym (root_by_opposite f y));
}

-- each literal is tied to its root
pub tied_to_root : (f : ℕ → Literal) → Fixed f → (x : Literal) → tied f x (root_by f x) ≡ true
tied_to_root f fixed x = roots_tie f x (root_by f x) (sym (root_by_twice f fixed x))

pub root_lower : (f : ℕ → Literal) → Lower f → (x : Literal) → rank (root_by f x) ≤ rank x
root_lower f lower x = grind (arith, lower)

-- a root is the first literal of its class
pub root_first : (f : ℕ → Literal) → Lower f → (x y : Literal) → tied f x y ≡ true → rank (root_by f x) ≤ rank y
root_first f lower x y h = subst (λ r. rank r ≤ rank y) (sym (tied_roots f x y h)) (root_lower f lower y)

pub least_same : (R : Relation) (a b : Literal) → IsTies R → R a b ≡ true → Least R a b R
least_same R a b is h = record { ties = is; more = λ x y k. k; both = h; least = λ S _ holds _. holds }

module _ {R R' : Relation} {x y : Literal} (l : Least R x y R') where
  pub least_swap : Least R y x R'
  least_swap = record {
    ties = l.ties;
    more = l.more;
    both = l.ties.symmetric _ _ l.both;
    least = λ S is holds tie. l.least S is holds (is.symmetric _ _ tie);
  }

  -- it is the same to tie two others of the two classes
  pub least_ends : (a b : Literal) → R a x ≡ true → R b y ≡ true → Least R a b R'
  least_ends a b ax by = record {
    ties = l.ties;
    more = l.more;
    both = joined R' l.ties (l.more _ _ ax) l.both (l.ties.symmetric _ _ (l.more _ _ by));
    least = λ S is holds tie. l.least S is holds (joined S is (is.symmetric _ _ (holds _ _ ax)) tie (holds _ _ by));
  }
    where
      joined : (S : Relation) → IsTies S → {p q r s : Literal} → S p q ≡ true → S q r ≡ true → S r s ≡ true → S p s ≡ true
      joined S is h k m = is.transitive _ _ _ h (is.transitive _ _ _ k m)
