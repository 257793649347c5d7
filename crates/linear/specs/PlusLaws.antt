-- The laws of a row that adds two variables. Assumes nothing.
use Rattle.std.specs.Prelude.{◌≡◌, ℕ, ◌+◌, ◌-◌, ◌≤◌, Bool, true, false, ◌||◌, List, ◌++◌, length, ◌==◌, nat_eq, nat_le, nat_lt, refl}
use Rattle.std.proofs.Common.{sym, subst, arith, lit<, lit≤, length-append}
use Rattle.std.proofs.Math.Logic.{inl, inr}
use Rattle.std.specs.List.{AllByRecursion}
use Rattle.std.proofs.ByRecursion.{All-append}
use Rattle.std.proofs.lemmas.Bool.{or_cases, eqb-true, eq-eqb}
use Rattle.std.proofs.lemmas.Bool.Decides.{nat_tests}
use Rattle.order.specs.declared.bound.Bound.{Bound}
use Rattle.order.specs.declared.range.Range.{Range}
use Rattle.order.specs.Between.{between}
use Rattle.order.specs.Bounds.{InRange}
use Rattle.order.specs.Ranges.{low, high}
use Rattle.kinds.specs.declared.item.Item.{Item}
use Rattle.kinds.specs.Items.{var, names, Pairing}
use Rattle.kinds.specs.Meaning.{Lawful, Met, Kept, Follows, Respects, Own, OwnTie, OwnPairing}
use Rattle.kinds.proofs.FamilyFacts.{family_paired, family_spent, family_own, family_short, family_few, family_same}
use Rattle.kinds.proofs.Ranging.{all_between_from, between_all, length_between}
use Rattle.kinds.proofs.Rows.{range_small}
use Rattle.linear.specs.declared.plus.Link.{Link}
use Rattle.linear.specs.declared.plus.Link.TheVariants.{Sum, Difference}
use Rattle.linear.specs.Plus.{plus, corner, corner_row, corners, stepped, linked, links, links_stand, all_links, any_stand}
use Rattle.linear.specs.Owned.{owned, same_ends}

-- the clauses at i and j, of the values x, y and z
up : (x y z i j : ℕ) → (x + y == z) ≡ true → (nat_lt x i || (nat_lt y j || (nat_le (i + j) z || false))) ≡ true
up x y z i j h = grind (arith, nat_tests)

down : (x y z i j : ℕ) → (x + y == z) ≡ true → (nat_le (i + 1) x || (nat_le (j + 1) y || (nat_lt z (i + j + 1) || false))) ≡ true
down x y z i j h = grind (arith, nat_tests)

by_both : (x y z : ℕ) → (nat_lt x x || (nat_lt y y || (nat_le (x + y) z || false))) ≡ true → (nat_le (x + 1) x || (nat_le (y + 1) y || (nat_lt z (x + y + 1) || false))) ≡ true → (x + y == z) ≡ true
by_both x y z h g = grind (arith, nat_tests)

-- what a link says of values
Says : Link → (ℕ → ℕ) → ℕ → Type 0
Says (Sum p q) v k = v p + v q ≡ k
Says (Difference p q) v k = k + v p ≡ v q

sum_ties : (x y k i : ℕ) → x + y ≡ k → nat_le i x ≡ nat_lt y (k + 1 - i)
sum_ties x y k i e = grind (arith, nat_tests)

by_sum_ties : (x y k : ℕ) → nat_le x x ≡ nat_lt y (k + 1 - x) → nat_le (x + 1) x ≡ nat_lt y (k + 1 - (x + 1)) → x + y ≡ k
by_sum_ties x y k h g = grind (arith, nat_tests)

difference_ties : (x y k i : ℕ) → k + x ≡ y → nat_le i x ≡ nat_le (k + i) y
difference_ties x y k i e = grind (arith, nat_tests)

by_difference_ties : (x y k : ℕ) → nat_le x x ≡ nat_le (k + x) y → nat_le (x + 1) x ≡ nat_le (k + (x + 1)) y → k + x ≡ y
by_difference_ties x y k h g = grind (arith, nat_tests)

-- values of which it is true keep its ties, and it is true of values that keep two of them
kept : (l : Link) (v : ℕ → ℕ) (k i : ℕ) → Says l v k → Kept v (linked l k i)
unfolding Says
kept (Sum p q) v k i h = sum_ties (v p) (v q) k i h
kept (Difference p q) v k i h = difference_ties (v p) (v q) k i h

by_kept : (l : Link) (v : ℕ → ℕ) (k : ℕ) → Kept v (linked l k (v (stepped l))) → Kept v (linked l k (v (stepped l) + 1)) → Says l v k
unfolding Says
by_kept (Sum p q) v k h g = by_sum_ties (v p) (v q) k h g
by_kept (Difference p q) v k h g = by_difference_ties (v p) (v q) k h g

-- the two variables of a link are a row's own
abbrev Owned : List Item → Link → Type 0
Owned items (Sum p q) = (names items p ≡ true) × (names items q ≡ true)
Owned items (Difference p q) = (names items p ≡ true) × (names items q ≡ true)

own_tie : (items : List Item) (l : Link) → Owned items l → (k i : ℕ) → OwnTie items (linked l k i)
own_tie items (Sum p q) own k i = own
own_tie items (Difference p q) own k i = own

module _ (rs : List Range) (s : ℕ) (l : Link) where
  abbrev p : ℕ
  p = stepped l

  module _ (v : ℕ → ℕ) (within : InRange rs v) where
    links_follow : Says l v (v s) → AllByRecursion (Follows v) (links rs s l)
    links_follow h = family_paired rs s (linked l) (low rs s) (high rs s + 1) (low rs p) (high rs p + 2) v within (λ k i e. kept l v k i (subst (Says l v) e h))

    stand_says : (tied : Bound → Bound → Bool) → Respects v tied → links_stand tied rs s l ≡ true → Says l v (v s)
    stand_says tied respects h =
        let f = family_spent rs s (linked l) (low rs s) (high rs s + 1) (low rs p) (high rs p + 2) v within tied respects h in
        let lo = within.above p in
        let hi = within.below p in
        subst (Says l v) (sym f.1) (by_kept l v f.0 (f.2 (v p) (omega arith) (omega arith)) (f.2 (v p + 1) (omega arith) (omega arith)))

  links_own : (items : List Item) → names items s ≡ true → Owned items l → AllByRecursion (OwnPairing items) (links rs s l)
  links_own items os own = family_own rs s (linked l) (low rs s) (high rs s + 1) (low rs p) (high rs p + 2) items os (own_tie items l own)

  links_short : AllByRecursion (λ p. length p.premise ≤ 4) (links rs s l)
  links_short = family_short rs s (linked l) (low rs s) (high rs s + 1) (low rs p) (high rs p + 2)

  links_few : length (links rs s l) ≤ 65792
  links_few = family_few rs s (linked l) (low rs s) (high rs s + 1) (low rs p) (high rs p + 2) (omega (arith, range_small rs s)) (omega (arith, range_small rs p))

  links_same : (rs' : List Range) → (low rs s ≡ low rs' s) × (high rs s ≡ high rs' s) → (low rs p ≡ low rs' p) × (high rs p ≡ high rs' p) → links rs' s l ≡ links rs s l
  links_same rs' es ep =
      sym (family_same rs rs' s (linked l) (linked l) es.0 es.1 (λ k i. refl) (low rs s) (high rs s + 1) (low rs p) (high rs p + 2) (low rs' s) (high rs' s + 1) (low rs' p) (high rs' p + 2) es.0 (λ i. es.1 i + 1) ep.0 (λ i. ep.1 i + 2))

module _ (rs : List Range) (a b c : ℕ) where
  all_corners : (P : List Bound → Type 0) → ((i j : ℕ) → AllByRecursion P (corner a b c i j)) → AllByRecursion P (corners rs a b c)
  all_corners P h = all_between_from (corner_row rs a b c) P (low rs a) (high rs a + 1) (λ i _ _. all_between_from (corner a b c i) P (low rs b) (high rs b + 1) (λ j _ _. h i j))

  few : length (corners rs a b c) ≤ 131072
  few = length_between (corner_row rs a b c) 512 (λ i. length_between (corner a b c i) 2 (λ j. lit≤ tt) (low rs b) (high rs b + 1) 256 (omega (arith, range_small rs b))) (low rs a) (high rs a + 1) 256 (omega (arith, range_small rs a))

  all_three : (P : Pairing → Type 0) → AllByRecursion P (links rs c (Sum a b)) → AllByRecursion P (links rs a (Difference b c)) → AllByRecursion P (links rs b (Difference a c)) → AllByRecursion P (all_links rs a b c)
  all_three P x y z = All-append P (links rs c (Sum a b)) (links rs a (Difference b c) ++ links rs b (Difference a c)) x (All-append P (links rs a (Difference b c)) (links rs b (Difference a c)) y z)

  few_ties : length (all_links rs a b c) ≤ 262144
  few_ties =
      omega (
        arith,
        length-append (links rs c (Sum a b)) (links rs a (Difference b c) ++ links rs b (Difference a c)),
        length-append (links rs a (Difference b c)) (links rs b (Difference a c)),
        links_few rs c (Sum a b),
        links_few rs a (Difference b c),
        links_few rs b (Difference a c),
      )

  module _ (v : ℕ → ℕ) (within : InRange rs v) where
    complete_from : AllByRecursion (Met v) (corners rs a b c) → (v a + v b == v c) ≡ true
    complete_from all =
        let row = between_all (corner_row rs a b c) (Met v) (low rs a) (high rs a + 1) all (v a) (within.above a) (omega (arith, within.below a)) in
        let at = between_all (corner a b c (v a)) (Met v) (low rs b) (high rs b + 1) row (v b) (within.above b) (omega (arith, within.below b)) in
        by_both (v a) (v b) (v c) at.0 at.1.0

    paired_from : nat_eq (v a + v b) (v c) ≡ true → AllByRecursion (Follows v) (all_links rs a b c)
    unfolding Says
    paired_from m =
        let e : v a + v b ≡ v c = eqb-true (v a + v b) (v c) m in
        all_three (Follows v) (links_follow rs c (Sum a b) v within e) (links_follow rs a (Difference b c) v within e) (links_follow rs b (Difference a c) v within (omega arith))

    parts : (tied : Bound → Bound → Bool) → Respects v tied → (links_stand tied rs a (Difference b c) || links_stand tied rs b (Difference a c)) ≡ true → v a + v b ≡ v c
    unfolding Says
    parts tied respects h =
        elim (or_cases (links_stand tied rs a (Difference b c)) (links_stand tied rs b (Difference a c)) h) [
          | inl x ↦ stand_says rs a (Difference b c) v within tied respects x
          | inr y ↦ omega (arith, stand_says rs b (Difference a c) v within tied respects y)
        ]

    spent_from : (tied : Bound → Bound → Bool) → Respects v tied → any_stand tied rs a b c ≡ true → (v a + v b == v c) ≡ true
    unfolding Says
    spent_from tied respects h =
        let met : v a + v b ≡ v c =
        elim (or_cases (links_stand tied rs c (Sum a b)) (links_stand tied rs a (Difference b c) || links_stand tied rs b (Difference a c)) h) [
          | inl x ↦ stand_says rs c (Sum a b) v within tied respects x
          | inr y ↦ parts tied respects y
        ] in
        eq-eqb (v a + v b) (v c) met

  corners_same : (rs' : List Range) → (low rs a ≡ low rs' a) × (high rs a ≡ high rs' a) → (low rs b ≡ low rs' b) × (high rs b ≡ high rs' b) → corners rs' a b c ≡ corners rs a b c
  corners_same rs' ea eb = λ i. between (λ k. between (corner a b c k) (sym eb.0 i) (sym eb.1 i + 1)) (sym ea.0 i) (sym ea.1 i + 1)

pub plus_lawful : Lawful plus
plus_lawful = record {
  sound = λ items rs v apt within m. all_corners rs (var items 0) (var items 1) (var items 2) (Met v) (λ i j. (up (v (var items 0)) (v (var items 1)) (v (var items 2)) i j m, (down (v (var items 0)) (v (var items 1)) (v (var items 2)) i j m, tt)));
  complete = λ items rs v apt within all. complete_from rs (var items 0) (var items 1) (var items 2) v within all;
  paired = λ items rs v apt within m. paired_from rs (var items 0) (var items 1) (var items 2) v within m;
  spent = λ items rs v apt within tied respects s. spent_from rs (var items 0) (var items 1) (var items 2) v within tied respects s;
  own_clauses = λ items rs apt.
      let oa = owned 3 items apt.0 0 (lit< tt) in
      let ob = owned 3 items apt.0 1 (lit< tt) in
      let oc = owned 3 items apt.0 2 (lit< tt) in
      all_corners rs (var items 0) (var items 1) (var items 2) (AllByRecursion (Own items)) (λ i j. ((oa, (ob, (oc, tt))), ((oa, (ob, (oc, tt))), tt)));
  own_pairings = λ items rs apt.
      let oa = owned 3 items apt.0 0 (lit< tt) in
      let ob = owned 3 items apt.0 1 (lit< tt) in
      let oc = owned 3 items apt.0 2 (lit< tt) in
      all_three rs (var items 0) (var items 1) (var items 2) (OwnPairing items)
      (links_own rs (var items 2) (Sum (var items 0) (var items 1)) items oc (oa, ob))
      (links_own rs (var items 0) (Difference (var items 1) (var items 2)) items oa (ob, oc))
      (links_own rs (var items 1) (Difference (var items 0) (var items 2)) items ob (oa, oc));
  same_clauses = λ items rs rs' apt agree. let e = same_ends 3 items apt.0 rs rs' agree in corners_same rs (var items 0) (var items 1) (var items 2) rs' (e 0 (lit< tt)) (e 1 (lit< tt));
  same_pairings = λ items rs rs' apt agree.
      let e = same_ends 3 items apt.0 rs rs' agree in
      λ i. links_same rs (var items 2) (Sum (var items 0) (var items 1)) rs' (e 2 (lit< tt)) (e 0 (lit< tt)) i
      ++ (links_same rs (var items 0) (Difference (var items 1) (var items 2)) rs' (e 0 (lit< tt)) (e 1 (lit< tt)) i
      ++ links_same rs (var items 1) (Difference (var items 0) (var items 2)) rs' (e 1 (lit< tt)) (e 0 (lit< tt)) i);
  same_fits = λ items rs rs' apt agree. refl;
  same_meets = λ items u v formed e.
      let own = owned 3 items formed in
      λ i. (e (var items 0) (own 0 (lit< tt)) i + e (var items 1) (own 1 (lit< tt)) i == e (var items 2) (own 2 (lit< tt)) i);
  short = lit≤ tt;
  short_clauses = λ items rs apt. all_corners rs (var items 0) (var items 1) (var items 2) (λ c. length c ≤ 3) (λ i j. (lit≤ tt, (lit≤ tt, tt)));
  few_clauses = λ items rs apt. few rs (var items 0) (var items 1) (var items 2);
  few_pairings = λ items rs apt. few_ties rs (var items 0) (var items 1) (var items 2);
  short_premises = λ items rs apt. all_three rs (var items 0) (var items 1) (var items 2) (λ p. length p.premise ≤ 4) (links_short rs (var items 2) (Sum (var items 0) (var items 1))) (links_short rs (var items 0) (Difference (var items 1) (var items 2))) (links_short rs (var items 1) (Difference (var items 0) (var items 2)));
}
