-- A root gives way to another. Assumes nothing.
use Rattle.std.proofs.Common.{◌≡◌, ℕ, zero, suc, ◌+◌, ◌*◌, ◌<◌, ◌≤◌, true, false, ltb, leb, ◌⊎◌, List, map, length, sym, refl, ap, ◌∙◌, subst, inl, inr, arith}
use lib.ListN.{length-map}
use Rattle.std.proofs.lemmas.List.{get_or-map, get_or_past}
use Rattle.std.proofs.lemmas.Bool.{cases_lt, and_parts, ltb-true, leb-true}
use Rattle.std.proofs.lemmas.Bool.Decides.{nat_tests}
use Rattle.order.specs.declared.literal.Literal.{Literal}
use Rattle.order.specs.declared.literal.Literal.TheVariants.{False, True, Bit, Not}
use Rattle.order.specs.Literals.{opposite, same}
use Rattle.ties.specs.Relations.{Relation, IsTies, Within}
use Rattle.ties.specs.Roots.{rank, root_at, root_by, tied, own, free, there, Lower, Named, Fixed, Merged, Joins}
use Rattle.ties.specs.Moves.{replaced, Distinct, Move}
use Rattle.ties.specs.declared.joins.Joined.{Joined}
use Rattle.ties.specs.declared.joins.Joined.TheVariants.{Made}
use Rattle.order.proofs.Signs.{same_from_equal, same_tells, opposite_opposite, opposite_apart}
use Rattle.ties.proofs.Counts.{free_less}
use Rattle.ties.proofs.Equivalences.{root_by_opposite, tied_is_ties, tied_roots, tied_to_root, roots_tie, least_swap, least_ends}

-- the number of a literal's bit, and 0 for a constant
abbrev pub number : Literal → ℕ
number False = 0
number True = 0
number (Bit n) = n
number (Not n) = n

number_opposite : (x : Literal) → number (opposite x) ≡ number x
number_opposite x = grind arith

pub there_opposite : (n : ℕ) (x : Literal) → there n (opposite x) ≡ there n x
there_opposite n x = grind arith

pub there_number : (n : ℕ) (x : Literal) → there n x ≡ true → number x ≤ n
there_number n x h = grind (arith, nat_tests)

-- what is there among some bits is there among those up to its number
pub there_among : (m n : ℕ) (x : Literal) → there m x ≡ true → number x ≤ n → there n x ≡ true
there_among m n x h le = grind (arith, nat_tests)

number_less : (n : ℕ) (old new : Literal) → there n old ≡ true → there n new ≡ true → rank new < rank old → (new ≡ opposite old → ⊥) → number new < number old
number_less n old new o h less apart = grind (arith, nat_tests)

rank_by_number : (x : Literal) → (2 * number x ≤ rank x) × (rank x ≤ 2 * number x + 1)
rank_by_number x = grind arith

module _ (old new : Literal) where
  replaced_opposite : (x : Literal) → replaced old new (opposite x) ≡ opposite (replaced old new x)
  replaced_opposite x = grind (arith, same_tells, opposite_opposite, opposite_apart)

  replaced_other : (x : Literal) → (number x ≡ number old → ⊥) → replaced old new x ≡ x
  replaced_other x ne = grind (arith, same_tells, number_opposite)

  replaced_old : replaced old new old ≡ new
  replaced_old = grind (arith, same_tells)

  replaced_cases : (x : Literal) → ((x ≡ old) × (replaced old new x ≡ new)) ⊎ (((x ≡ opposite old) × (replaced old new x ≡ opposite new)) ⊎ (replaced old new x ≡ x))
  replaced_cases x = grind (arith, same_tells, opposite_apart)

  pub replaced_alike : (x : Literal) → same x old ≡ true → new ≡ replaced old new x
  replaced_alike x h = grind arith

  pub replaced_opposed : (x old' new' : Literal) → same x old ≡ false → same x old' ≡ true → old' ≡ opposite old → new' ≡ opposite new → new' ≡ replaced old new x
  replaced_opposed x old' new' h h' o n = grind arith

  pub replaced_apart : (x old' : Literal) → same x old ≡ false → same x old' ≡ false → old' ≡ opposite old → x ≡ replaced old new x
  replaced_apart x old' h h' o = grind arith

-- a root's bit is its own root
root_own : (rs : List Literal) (l : Literal) → root_by (root_at rs) l ≡ l → root_at rs (number l) ≡ Bit (number l)
root_own rs False h = refl
root_own rs True h = refl
root_own rs (Bit n) h = h
root_own rs (Not n) h = sym (opposite_opposite (root_at rs n)) ∙ ap opposite h

module _ {rs : List Literal} {old new : Literal} (move : Move rs old new) where
  nearer : number new < number old
  nearer = number_less (length rs) old new move.roots.x_there move.roots.y_there move.less (λ e. absurd (grind (arith, same_tells, opposite_opposite, move.roots.apart)))

  root_at_map : (n : ℕ) → root_at (map (replaced old new) rs) n ≡ replaced old new (root_at rs n)
  root_at_map zero = let lt = nearer in sym (replaced_other old new (Bit zero) (omega arith))
  root_at_map (suc n) =
      elim (cases_lt n (length rs)) [
        | inl lt ↦ get_or-map (replaced old new) rs n (Bit (suc n)) (Bit (suc n)) lt
        | inr le ↦
            let in' = there_number (length rs) old move.roots.x_there in
            get_or_past (map (replaced old new) rs) n (Bit (suc n)) (omega (arith, length-map rs (replaced old new)))
            ∙ sym (replaced_other old new (Bit (suc n)) (omega arith))
            ∙ ap (replaced old new) (sym (get_or_past rs n (Bit (suc n)) le))
      ]

  root_by_map : (x : Literal) → root_by (root_at (map (replaced old new) rs)) x ≡ replaced old new (root_by (root_at rs) x)
  root_by_map False = let lt = nearer in sym (replaced_other old new False (omega arith))
  root_by_map True = let lt = nearer in sym (replaced_other old new True (omega arith))
  root_by_map (Bit n) = root_at_map n
  root_by_map (Not n) = ap opposite (root_at_map n) ∙ sym (replaced_opposite old new (root_at rs n))

  replaced_new : replaced old new new ≡ new
  replaced_new = let lt = nearer in replaced_other old new new (omega arith)

  replaced_twice : (x : Literal) → replaced old new (replaced old new x) ≡ replaced old new x
  replaced_twice x = grind (arith, replaced_cases old new, replaced_new, replaced_opposite)

  root_by_replaced : (x : Literal) → root_by (root_at rs) x ≡ x → root_by (root_at rs) (replaced old new x) ≡ replaced old new x
  root_by_replaced x h = grind (arith, replaced_cases old new, root_by_opposite, move.roots.y_root)

  pub fixed_map : Fixed (root_at rs) → Fixed (root_at (map (replaced old new) rs))
  fixed_map fixed n =
      ap (root_by (root_at (map (replaced old new) rs))) (root_at_map n)
      ∙ root_by_map (replaced old new (root_at rs n))
      ∙ ap (replaced old new) (root_by_replaced (root_at rs n) (fixed n))
      ∙ replaced_twice (root_at rs n)
      ∙ sym (root_at_map n)

  pub lower_map : Lower (root_at rs) → Lower (root_at (map (replaced old new) rs))
  lower_map lower n = rw (root_at_map n) (grind (arith, replaced_cases old new, rank_by_number, number_opposite, nearer, lower n))

  new_there : (n : ℕ) → there n old ≡ true → there n new ≡ true
  new_there n h = let lt = nearer in there_among (length rs) n new move.roots.y_there (omega (arith, there_number n old h))

  pub named_map : Named (root_at rs) → Named (root_at (map (replaced old new) rs))
  named_map named n some =
      rw (root_at_map n)
      (grind (arith, replaced_cases old new (root_at rs n), there_opposite, new_there n, named n some))

  -- what was tied stays tied
  more_tied : Within (tied (root_at rs)) (tied (root_at (map (replaced old new) rs)))
  more_tied x y h = roots_tie _ x y (root_by_map x ∙ ap (replaced old new) (tied_roots (root_at rs) x y h) ∙ sym (root_by_map y))

  both_tied : tied (root_at (map (replaced old new) rs)) old new ≡ true
  both_tied =
      roots_tie _ old new
      (root_by_map old ∙ ap (replaced old new) move.roots.x_root ∙ replaced_old old new
      ∙ sym (root_by_map new ∙ ap (replaced old new) move.roots.y_root ∙ replaced_new))

  -- a set of ties that holds the old ones, and ties old with new
  module _ (fixed : Fixed (root_at rs)) (S : Relation) (is : IsTies S) (holds : Within (tied (root_at rs)) S) (tie : S old new ≡ true) where
    to_root : (x : Literal) → S x (root_by (root_at rs) x) ≡ true
    to_root x = holds x (root_by (root_at rs) x) (tied_to_root (root_at rs) fixed x)

    to_replaced : (x : Literal) → S x (replaced old new x) ≡ true
    to_replaced x = grind (arith, replaced_cases old new x, tie, is.reflexive x, is.opposites old new tie)

    to_new_root : (x : Literal) → S x (root_by (root_at (map (replaced old new) rs)) x) ≡ true
    to_new_root x = rw (root_by_map x) (is.transitive _ _ _ (to_root x) (to_replaced (root_by (root_at rs) x)))

    least_tied : Within (tied (root_at (map (replaced old new) rs))) S
    least_tied x y h =
        let e = tied_roots _ x y h in
        is.transitive _ _ _ (to_new_root x) (subst (λ r. S r y ≡ true) (sym e) (is.symmetric _ _ (to_new_root y)))

  old_own : root_at rs (number old) ≡ Bit (number old)
  old_own = root_own rs old move.roots.x_root

  own_no_more : own (root_at (map (replaced old new) rs)) (number old) ≡ false
  own_no_more =
      rw (root_at_map (number old), old_own)
      (grind (arith, same_tells, replaced_cases old new (Bit (number old)), number_opposite, nearer))

  own_other : (k : ℕ) → (k ≡ number old → ⊥) → own (root_at rs) k ≡ own (root_at (map (replaced old new) rs)) k
  own_other k ne =
      rw (root_at_map k)
      (grind (arith, same_tells, replaced_cases old new (root_at rs k), number_opposite, root_own rs new move.roots.y_root))

  -- the bit of old is free no more
  free_map : free rs ≡ free (map (replaced old new) rs) + 1
  free_map =
      let lt = nearer in
      rw (length-map rs (replaced old new))
      (free_less (root_at rs) (root_at (map (replaced old new) rs)) (number old) (length rs) (omega arith) (there_number (length rs) old move.roots.x_there) (same_from_equal _ _ old_own) own_no_more (λ k _. own_other k))

  pub merged_map : Fixed (root_at rs) → Merged rs old new (map (replaced old new) rs)
  merged_map fixed = record {
    least = record { ties = tied_is_ties _; more = more_tied; both = both_tied; least = least_tied fixed };
    freed = free_map;
    long = length-map rs (replaced old new);
  }

rank_distinct : (n : ℕ) (x y : Literal) → there n x ≡ true → there n y ≡ true → rank x ≡ rank y → x ≡ y
rank_distinct n x y tx ty e = grind (arith, nat_tests)

-- a literal's root is there with it
module _ (f : ℕ → Literal) (named : Named f) where
  bit_root_there : (m n : ℕ) → there m (Bit n) ≡ true → there m (f n) ≡ true
  bit_root_there m n h =
      let parts = and_parts (ltb 0 n) (leb n m) h in
      let here = named n (ltb-true 0 n parts.0) in
      there_among n m (f n) here (omega (arith, there_number n (f n) here, leb-true n m parts.1))

  pub root_there : (m : ℕ) (x : Literal) → there m x ≡ true → there m (root_by f x) ≡ true
  root_there m False h = h
  root_there m True h = h
  root_there m (Bit n) h = bit_root_there m n h
  root_there m (Not n) h = there_opposite m (f n) ∙ bit_root_there m n h

distinct_swap : {rs : List Literal} {x y : Literal} → Distinct rs x y → Distinct rs y x
distinct_swap roots = record {
  x_there = roots.y_there;
  y_there = roots.x_there;
  x_root = roots.y_root;
  y_root = roots.x_root;
  differ = grind (arith, same_tells, roots.differ);
  apart = grind (arith, same_tells, opposite_opposite, roots.apart);
}

merged_swap : {rs rs' : List Literal} {x y : Literal} → Merged rs x y rs' → Merged rs y x rs'
merged_swap m = record { least = least_swap m.least; freed = m.freed; long = m.long }

move_from_ranks : {rs : List Literal} {old new : Literal} → Distinct rs old new → rank new ≤ rank old → Move rs old new
move_from_ranks {rs = rs} {old = old} {new = new} roots le = record {
  roots = roots;
  less = grind (arith, same_tells, rank_distinct (length rs) old new roots.x_there roots.y_there, roots.differ);
}

-- two roots in order: the later one gives way
module _ {rs : List Literal} {x y : Literal} (new old : Literal) (both : ((new ≡ x) × (old ≡ y)) ⊎ ((new ≡ y) × (old ≡ x))) where
  pub ordered_move : Distinct rs x y → rank new ≤ rank old → Move rs old new
  ordered_move roots le = move_from_ranks (elim both [ inl e ↦ rw (e.0, e.1) (distinct_swap roots) | inr e ↦ rw (e.0, e.1) roots ]) le

  pub ordered_merged : {rs' : List Literal} → Merged rs old new rs' → Merged rs x y rs'
  ordered_merged m = elim both [ inl e ↦ merged_swap (rw (e.0, e.1) at m) | inr e ↦ rw (e.0, e.1) at m ]

-- two roots were merged, and so the literals whose roots they are were joined
pub merged_joins : {rs rs' : List Literal} {x y : Literal} (r : Joined) → r ≡ Made → Merged rs x y rs' → Fixed (root_at rs) → (a b : Literal) → x ≡ root_by (root_at rs) a → y ≡ root_by (root_at rs) b → Joins r rs a b rs'
merged_joins {rs = rs} r made m fixed a b e h =
    rw made
    (record {
      least = least_ends m.least a b (subst (λ l. tied (root_at rs) a l ≡ true) (sym e) (tied_to_root (root_at rs) fixed a)) (subst (λ l. tied (root_at rs) b l ≡ true) (sym h) (tied_to_root (root_at rs) fixed b));
      freed = m.freed;
      long = m.long;
    })
