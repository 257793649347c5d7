-- The laws of a row that equates two variables. Assumes nothing.
use Rattle.std.specs.Prelude.{◌≡◌, ℕ, ◌+◌, ◌<◌, ◌≤◌, min, max, true, false, ◌||◌, List, length, ◌==◌, nat_le, nat_lt, refl}
use Rattle.std.proofs.Common.{sym, inl, inr, le_trans, arith, lit<, lit≤}
use Rattle.std.specs.List.{AllByRecursion}
use Rattle.std.proofs.lemmas.Bool.{false≢true, cases_order, eq-eqb}
use Rattle.std.proofs.lemmas.Bool.Decides.{nat_tests}
use Rattle.order.specs.declared.bound.Bound.{Bound}
use Rattle.order.specs.declared.range.Range.{Range}
use Rattle.order.specs.Between.{between}
use Rattle.order.specs.Bounds.{InRange}
use Rattle.order.specs.Ranges.{low, high}
use Rattle.kinds.specs.Items.{var, Pairing}
use Rattle.kinds.specs.Meaning.{Lawful, Met, Follows, Own, OwnPairing}
use Rattle.kinds.proofs.Ranging.{all_between_from, between_all, length_between}
use Rattle.kinds.proofs.Rows.{range_small}
use Rattle.linear.specs.Same.{same, level, match, start, end, levels, matches}
use Rattle.linear.specs.Owned.{owned, same_ends}

-- the clauses and the tie at t, of the values x and y
up : (x y t : ℕ) → (x == y) ≡ true → (nat_lt x t || (nat_le t y || false)) ≡ true
up x y t h = grind (arith, nat_tests)

down : (x y t : ℕ) → (x == y) ≡ true → (nat_le t x || (nat_lt y t || false)) ≡ true
down x y t h = grind (arith, nat_tests)

as_one : (x y t : ℕ) → (x == y) ≡ true → nat_le t x ≡ nat_le t y
as_one x y t h = grind (arith, nat_tests)

-- the clauses at the greater of two values refuse them
not_above : (x y : ℕ) → x < y → (nat_le y x || (nat_lt y y || false)) ≡ true → (x == y) ≡ true
not_above x y l h = grind (arith, nat_tests)

not_below : (x y : ℕ) → y < x → (nat_lt x x || (nat_le x y || false)) ≡ true → (x == y) ≡ true
not_below x y l h = grind (arith, nat_tests)

module _ (rs : List Range) (a b : ℕ) where
  all_levels : (P : List Bound → Type 0) → ((t : ℕ) → AllByRecursion P (level a b t)) → AllByRecursion P (levels rs a b)
  all_levels P h = all_between_from (level a b) P (start rs a b) (end rs a b) (λ t _ _. h t)

  all_matches : (P : Pairing → Type 0) → ((t : ℕ) → AllByRecursion P (match a b t)) → AllByRecursion P (matches rs a b)
  all_matches P h = all_between_from (match a b) P (start rs a b) (end rs a b) (λ t _ _. h t)

  complete_from : (v : ℕ → ℕ) → InRange rs v → AllByRecursion (Met v) (levels rs a b) → (v a == v b) ≡ true
  complete_from v within all =
      let at = between_all (level a b) (Met v) (start rs a b) (end rs a b) all in
      let la = within.above a in
      let lb = within.above b in
      let ha = within.below a in
      let hb = within.below b in
      elim (cases_order (v a) (v b)) [
        | inl e ↦ eq-eqb (v a) (v b) e
        | inr (inl l) ↦ not_above (v a) (v b) l (at (v b) (omega arith) (omega arith)).1.0
        | inr (inr l) ↦ not_below (v a) (v b) l (at (v a) (omega arith) (omega arith)).0
      ]

  spans : end rs a b ≤ start rs a b + 256
  spans = omega (arith, range_small rs a, range_small rs b)

  few : length (levels rs a b) ≤ 131072
  few = le_trans (length_between (level a b) 2 (λ t. lit≤ tt) (start rs a b) (end rs a b) 256 spans) (lit≤ tt)

  few_ties : length (matches rs a b) ≤ 262144
  few_ties = le_trans (length_between (match a b) 1 (λ t. lit≤ tt) (start rs a b) (end rs a b) 256 spans) (lit≤ tt)

-- what is made over the thresholds depends on the ends alone
over_same : {X : Type 0} (f : ℕ → List X) (rs rs' : List Range) (a b : ℕ) → (low rs a ≡ low rs' a) × (high rs a ≡ high rs' a) → (low rs b ≡ low rs' b) × (high rs b ≡ high rs' b) → between f (start rs' a b) (end rs' a b) ≡ between f (start rs a b) (end rs a b)
over_same f rs rs' a b p q = λ i. between f (min (sym p.0 i) (sym q.0 i) + 1) (max (sym p.1 i) (sym q.1 i) + 1)

pub same_lawful : Lawful same
same_lawful = record {
  sound = λ items rs v apt within m. all_levels rs (var items 0) (var items 1) (Met v) (λ t. (up (v (var items 0)) (v (var items 1)) t m, (down (v (var items 0)) (v (var items 1)) t m, tt)));
  complete = λ items rs v apt within all. complete_from rs (var items 0) (var items 1) v within all;
  paired = λ items rs v apt within m. all_matches rs (var items 0) (var items 1) (Follows v) (λ t. (λ _. as_one (v (var items 0)) (v (var items 1)) t m, tt));
  spent = λ items rs v apt within tied kept s. absurd (false≢true s);
  own_clauses = λ items rs apt.
      let oa = owned 2 items apt.0 0 (lit< tt) in
      let ob = owned 2 items apt.0 1 (lit< tt) in
      all_levels rs (var items 0) (var items 1) (AllByRecursion (Own items)) (λ t. ((oa, (ob, tt)), ((oa, (ob, tt)), tt)));
  own_pairings = λ items rs apt. let own = owned 2 items apt.0 in all_matches rs (var items 0) (var items 1) (OwnPairing items) (λ t. ((tt, (own 0 (lit< tt), own 1 (lit< tt))), tt));
  same_clauses = λ items rs rs' apt agree. let e = same_ends 2 items apt.0 rs rs' agree in over_same (level (var items 0) (var items 1)) rs rs' (var items 0) (var items 1) (e 0 (lit< tt)) (e 1 (lit< tt));
  same_pairings = λ items rs rs' apt agree. let e = same_ends 2 items apt.0 rs rs' agree in over_same (match (var items 0) (var items 1)) rs rs' (var items 0) (var items 1) (e 0 (lit< tt)) (e 1 (lit< tt));
  same_fits = λ items rs rs' apt agree. refl;
  same_meets = λ items u v formed e. let own = owned 2 items formed in λ i. (e (var items 0) (own 0 (lit< tt)) i == e (var items 1) (own 1 (lit< tt)) i);
  short = lit≤ tt;
  short_clauses = λ items rs apt. all_levels rs (var items 0) (var items 1) (λ c. length c ≤ 2) (λ t. (lit≤ tt, (lit≤ tt, tt)));
  few_clauses = λ items rs apt. few rs (var items 0) (var items 1);
  few_pairings = λ items rs apt. few_ties rs (var items 0) (var items 1);
  short_premises = λ items rs apt. all_matches rs (var items 0) (var items 1) (λ p. length p.premise ≤ 4) (λ t. (lit≤ tt, tt));
}
