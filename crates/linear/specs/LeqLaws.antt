-- The laws of a row that orders two variables. Assumes nothing.
use Rattle.std.specs.Prelude.{◌≡◌, ℕ, ◌+◌, ◌≤◌, true, false, ◌||◌, List, length, nat_le, nat_lt, refl}
use Rattle.std.proofs.Common.{sym, le_trans, arith, lit<, lit≤}
use Rattle.std.specs.List.{AllByRecursion}
use Rattle.std.proofs.lemmas.Bool.{false≢true}
use Rattle.std.proofs.lemmas.Bool.Decides.{nat_tests}
use Rattle.order.specs.declared.bound.Bound.{Bound}
use Rattle.order.specs.declared.range.Range.{Range}
use Rattle.order.specs.Between.{between}
use Rattle.order.specs.Bounds.{InRange}
use Rattle.order.specs.Ranges.{low, high}
use Rattle.kinds.specs.Items.{var}
use Rattle.kinds.specs.Meaning.{Lawful, Met, Own}
use Rattle.kinds.proofs.Ranging.{all_between_from, between_all, length_between}
use Rattle.kinds.proofs.Rows.{range_small}
use Rattle.linear.specs.Leq.{leq, rise, rises}
use Rattle.linear.specs.Owned.{owned, same_ends}

-- the clause at t, of the values x and y
met_by : (x y t : ℕ) → nat_le x y ≡ true → (nat_lt x t || (nat_le t y || false)) ≡ true
met_by x y t h = grind (arith, nat_tests)

by_met : (x y : ℕ) → (nat_lt x x || (nat_le x y || false)) ≡ true → nat_le x y ≡ true
by_met x y h = grind (arith, nat_tests)

module _ (rs : List Range) (a b : ℕ) where
  all_rises : (P : List Bound → Type 0) → ((t : ℕ) → AllByRecursion P (rise a b t)) → AllByRecursion P (rises rs a b)
  all_rises P h = all_between_from (rise a b) P (low rs a) (high rs a + 1) (λ t _ _. h t)

  complete_from : (v : ℕ → ℕ) → InRange rs v → AllByRecursion (Met v) (rises rs a b) → nat_le (v a) (v b) ≡ true
  complete_from v within all =
      by_met (v a) (v b) (between_all (rise a b) (Met v) (low rs a) (high rs a + 1) all (v a) (within.above a) (omega (arith, within.below a))).0

  few : length (rises rs a b) ≤ 131072
  few = le_trans (length_between (rise a b) 1 (λ t. lit≤ tt) (low rs a) (high rs a + 1) 256 (omega (arith, range_small rs a))) (lit≤ tt)

rises_same : (rs rs' : List Range) (a b : ℕ) → low rs a ≡ low rs' a → high rs a ≡ high rs' a → rises rs' a b ≡ rises rs a b
rises_same rs rs' a b l h = λ i. between (rise a b) (sym l i) (sym h i + 1)

pub leq_lawful : Lawful leq
leq_lawful = record {
  sound = λ items rs v apt within m. all_rises rs (var items 0) (var items 1) (Met v) (λ t. (met_by (v (var items 0)) (v (var items 1)) t m, tt));
  complete = λ items rs v apt within all. complete_from rs (var items 0) (var items 1) v within all;
  paired = λ items rs v apt within m. tt;
  spent = λ items rs v apt within tied kept s. absurd (false≢true s);
  own_clauses = λ items rs apt. let own = owned 2 items apt.0 in all_rises rs (var items 0) (var items 1) (AllByRecursion (Own items)) (λ t. ((own 0 (lit< tt), (own 1 (lit< tt), tt)), tt));
  own_pairings = λ items rs apt. tt;
  same_clauses = λ items rs rs' apt agree. let e = same_ends 2 items apt.0 rs rs' agree 0 (lit< tt) in rises_same rs rs' (var items 0) (var items 1) e.0 e.1;
  same_pairings = λ items rs rs' apt agree. refl;
  same_fits = λ items rs rs' apt agree. refl;
  same_meets = λ items u v formed e. let own = owned 2 items formed in λ i. nat_le (e (var items 0) (own 0 (lit< tt)) i) (e (var items 1) (own 1 (lit< tt)) i);
  short = lit≤ tt;
  short_clauses = λ items rs apt. all_rises rs (var items 0) (var items 1) (λ c. length c ≤ 2) (λ t. (lit≤ tt, tt));
  few_clauses = λ items rs apt. few rs (var items 0) (var items 1);
  few_pairings = λ items rs apt. lit≤ tt;
  short_premises = λ items rs apt. tt;
}
