-- The laws of two variables that differ. Assumes nothing.
use Rattle.std.specs.Prelude.{◌≡◌, ℕ, ◌+◌, ◌*◌, ◌≤◌, true, false, not, ◌||◌, List, length, ◌==◌, nat_le, nat_lt, refl}
use Rattle.std.proofs.Common.{⊎_elim, le_trans, arith, lit≤}
use Rattle.std.specs.List.{AllByRecursion}
use Rattle.std.proofs.lemmas.Bool.{false≢true, cases_eq}
use Rattle.std.proofs.lemmas.Bool.Decides.{nat_tests}
use Rattle.order.specs.declared.range.Range.{Range}
use Rattle.order.specs.Between.{between}
use Rattle.order.specs.Bounds.{InRange}
use Rattle.order.specs.Ranges.{low, high}
use Rattle.kinds.specs.declared.item.Item.{Item}
use Rattle.kinds.specs.Items.{var, names}
use Rattle.kinds.specs.Meaning.{Lawful, Met, Follows, Own, OwnPairing}
use Rattle.kinds.proofs.Ranging.{all_between_from, between_all, length_between, between_same}
use Rattle.kinds.proofs.Rows.{own_var, agree_low, agree_high, plain_length, range_small}
use Rattle.logical.specs.Neq.{shared_from, shared_past, not_both, apart, excludes, excluded_at, excludes_each, told_of, apart_pairings, neq}

-- the clause at t, of the values x and y
met_by : (x y t : ℕ) → not (x == y) ≡ true → (nat_lt x t || (nat_le (t + 1) x || (nat_lt y t || (nat_le (t + 1) y || false)))) ≡ true
met_by x y t h = grind (arith, nat_tests)

by_met : (x y : ℕ) → x ≡ y → (nat_lt x x || (nat_le (x + 1) x || (nat_lt y x || (nat_le (x + 1) y || false)))) ≡ true → not (x == y) ≡ true
by_met x y e h = grind (arith, nat_tests)

-- the pairings at t: where x, from l to h, is t; where x and y reach t and t + 1 alike, or each in the other's place
excluded : (l h x y t : ℕ) → not (x == y) ≡ true → l ≤ x → x ≤ h → nat_le t x ≡ nat_le l x → nat_le (t + 1) x ≡ nat_le (h + 1) x → nat_le t y ≡ nat_le (t + 1) y
excluded l h x y t d p q e f = grind (arith, nat_tests)

pub turn_round : (x y : ℕ) → not (x == y) ≡ true → not (y == x) ≡ true
turn_round x y h = grind (arith, nat_tests)

alike_skips : (x y t : ℕ) → not (x == y) ≡ true → nat_le t x ≡ nat_le t y → nat_le (t + 1) x ≡ nat_le (t + 1) y → nat_le t x ≡ nat_le (t + 1) x
alike_skips x y t d e f = grind (arith, nat_tests)

mirrored_skips : (x y t : ℕ) → not (x == y) ≡ true → nat_le t x ≡ nat_lt y (t + 1) → nat_le (t + 1) x ≡ nat_lt y t → nat_le t x ≡ nat_le (t + 1) x
mirrored_skips x y t d e f = grind (arith, nat_tests)

module _ (rs : List Range) (a b : ℕ) where
  -- what holds of the clauses, or of other lists, of each shared value
  all_shared : {X : Type 0} (f : ℕ → List X) (P : X → Type 0) → ((t : ℕ) → AllByRecursion P (f t)) → AllByRecursion P (between f (shared_from rs a b) (shared_past rs a b))
  all_shared f P h = all_between_from f P (shared_from rs a b) (shared_past rs a b) (λ t _ _. h t)

  few_shared : {X : Type 0} (f : ℕ → List X) (m : ℕ) → ((t : ℕ) → length (f t) ≤ m) → length (between f (shared_from rs a b) (shared_past rs a b)) ≤ 256 * m
  few_shared f m h = length_between f m h (shared_from rs a b) (shared_past rs a b) 256 (omega (arith, range_small rs a))

  module _ (v : ℕ → ℕ) where
    pub apart_sound : not (v a == v b) ≡ true → AllByRecursion (Met v) (apart rs a b)
    apart_sound d = all_shared (not_both a b) (Met v) (λ t. (met_by (v a) (v b) t d, tt))

    pub apart_complete : InRange rs v → AllByRecursion (Met v) (apart rs a b) → not (v a == v b) ≡ true
    apart_complete within all =
        ⊎_elim
        (λ e. by_met (v a) (v b) e (between_all (not_both a b) (Met v) (shared_from rs a b) (shared_past rs a b) all (v a) (omega (arith, within.above a, within.above b)) (omega (arith, within.below a, within.below b))).0)
        (λ ne. grind (arith, nat_tests))
        (cases_eq (v a) (v b))

    excludes_follows : InRange rs v → not (v a == v b) ≡ true → (t : ℕ) → Follows v (excludes rs a b t)
    excludes_follows within d t p = excluded (low rs a) (high rs a) (v a) (v b) t d (within.above a) (within.below a) p.0 p.1.0

    pub each_follows : InRange rs v → not (v a == v b) ≡ true → AllByRecursion (Follows v) (excludes_each rs a b)
    each_follows within d = all_shared (excluded_at rs a b) (Follows v) (λ t. (excludes_follows within d t, tt))

  module _ (items : List Item) (oa : names items a ≡ true) (ob : names items b ≡ true) where
    pub apart_own : AllByRecursion (AllByRecursion (Own items)) (apart rs a b)
    apart_own = all_shared (not_both a b) (AllByRecursion (Own items)) (λ t. ((oa, (oa, (ob, (ob, tt)))), tt))

    pub each_own : AllByRecursion (OwnPairing items) (excludes_each rs a b)
    each_own = all_shared (excluded_at rs a b) (OwnPairing items) (λ t. ((((oa, oa), ((oa, oa), tt)), (ob, ob)), tt))

    apart_own_pairings : AllByRecursion (OwnPairing items) (apart_pairings rs a b)
    apart_own_pairings =
        all_shared (told_of rs a b) (OwnPairing items) (λ t. (
          (((oa, oa), ((oa, oa), tt)), (ob, ob)),
          ((((ob, ob), ((ob, ob), tt)), (oa, oa)), ((((oa, ob), ((oa, ob), tt)), (oa, oa)), ((((oa, ob), ((oa, ob), tt)), (oa, oa)), tt))),
        ))

  pub apart_short : AllByRecursion (λ c. length c ≤ 4) (apart rs a b)
  apart_short = all_shared (not_both a b) (λ c. length c ≤ 4) (λ t. (lit≤ tt, tt))

  pub each_short : AllByRecursion (λ p. length p.premise ≤ 4) (excludes_each rs a b)
  each_short = all_shared (excluded_at rs a b) (λ p. length p.premise ≤ 4) (λ t. (lit≤ tt, tt))

  pub apart_few : length (apart rs a b) ≤ 256
  apart_few = few_shared (not_both a b) 1 (λ t. lit≤ tt)

  pub each_few : length (excludes_each rs a b) ≤ 256
  each_few = few_shared (excluded_at rs a b) 1 (λ t. lit≤ tt)

  apart_short_premises : AllByRecursion (λ p. length p.premise ≤ 4) (apart_pairings rs a b)
  apart_short_premises = all_shared (told_of rs a b) (λ p. length p.premise ≤ 4) (λ t. (lit≤ tt, (lit≤ tt, (lit≤ tt, (lit≤ tt, tt)))))

module _ (rs : List Range) (a b : ℕ) (v : ℕ → ℕ) where
  apart_follows : InRange rs v → not (v a == v b) ≡ true → AllByRecursion (Follows v) (apart_pairings rs a b)
  apart_follows within d =
      all_shared rs a b (told_of rs a b) (Follows v) (λ t. (
        excludes_follows rs a b v within d t,
        (
          excludes_follows rs b a v within (turn_round (v a) (v b) d) t,
          (λ p. alike_skips (v a) (v b) t d p.0 p.1.0, (λ p. mirrored_skips (v a) (v b) t d p.0 p.1.0, tt)),
        ),
      ))

-- all of it depends on the ends of A and B alone
module _ (rs rs' : List Range) (a b : ℕ) (la : low rs a ≡ low rs' a) (ha : high rs a ≡ high rs' a) (lb : low rs b ≡ low rs' b) (hb : high rs b ≡ high rs' b) where
  shared_same : {X : Type 0} (f g : ℕ → List X) → ((t : ℕ) → g t ≡ f t) → between g (shared_from rs' a b) (shared_past rs' a b) ≡ between f (shared_from rs a b) (shared_past rs a b)
  shared_same f g h = between_same g f (shared_from rs' a b) (shared_past rs' a b) (shared_from rs a b) (shared_past rs a b) (omega arith) (omega arith) h

  pub apart_same : apart rs' a b ≡ apart rs a b
  apart_same = shared_same (not_both a b) (not_both a b) (λ t. refl)

  pub each_same : excludes_each rs' a b ≡ excludes_each rs a b
  each_same = shared_same (excluded_at rs a b) (excluded_at rs' a b) (λ t. cc)

  apart_same_pairings : apart_pairings rs' a b ≡ apart_pairings rs a b
  apart_same_pairings = shared_same (told_of rs a b) (told_of rs' a b) (λ t. cc)

pub neq_lawful : Lawful neq
neq_lawful = record {
  sound = λ items rs v apt within m. apart_sound rs (var items 0) (var items 1) v m;
  complete = λ items rs v apt within all. apart_complete rs (var items 0) (var items 1) v within all;
  paired = λ items rs v apt within m. apart_follows rs (var items 0) (var items 1) v within m;
  spent = λ items rs v apt within tied kept s. absurd (false≢true s);
  own_clauses = λ items rs apt. let n = plain_length 2 items apt.0 in apart_own rs (var items 0) (var items 1) items (own_var items 0 (omega arith)) (own_var items 1 (omega arith));
  own_pairings = λ items rs apt. let n = plain_length 2 items apt.0 in apart_own_pairings rs (var items 0) (var items 1) items (own_var items 0 (omega arith)) (own_var items 1 (omega arith));
  same_clauses = λ items rs rs' apt same. let n = plain_length 2 items apt.0 in apart_same rs rs' (var items 0) (var items 1) (agree_low items rs rs' 0 same (omega arith)) (agree_high items rs rs' 0 same (omega arith)) (agree_low items rs rs' 1 same (omega arith)) (agree_high items rs rs' 1 same (omega arith));
  same_pairings = λ items rs rs' apt same. let n = plain_length 2 items apt.0 in apart_same_pairings rs rs' (var items 0) (var items 1) (agree_low items rs rs' 0 same (omega arith)) (agree_high items rs rs' 0 same (omega arith)) (agree_low items rs rs' 1 same (omega arith)) (agree_high items rs rs' 1 same (omega arith));
  same_fits = λ items rs rs' apt same. refl;
  same_meets = λ items u v formed same. let n = plain_length 2 items formed in let ea = same (var items 0) (own_var items 0 (omega arith)) in let eb = same (var items 1) (own_var items 1 (omega arith)) in cc;
  short = lit≤ tt;
  short_clauses = λ items rs apt. apart_short rs (var items 0) (var items 1);
  few_clauses = λ items rs apt. le_trans (apart_few rs (var items 0) (var items 1)) (lit≤ tt);
  few_pairings = λ items rs apt. le_trans (few_shared rs (var items 0) (var items 1) (told_of rs (var items 0) (var items 1)) 4 (λ t. lit≤ tt)) (lit≤ tt);
  short_premises = λ items rs apt. apart_short_premises rs (var items 0) (var items 1);
}
