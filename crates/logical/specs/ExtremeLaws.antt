-- The laws of the greater and the lesser of two variables, for either direction. Assumes nothing.
use Rattle.std.specs.Prelude.{◌≡◌, ℕ, ◌+◌, ◌*◌, ◌<◌, ◌≤◌, min, max, Bool, true, false, cond, not, ◌||◌, List, length, ◌==◌, nat_eq, nat_le, nat_lt, refl}
use Rattle.std.proofs.Common.{le_trans, arith, lit≤}
use Rattle.std.specs.List.{AllByRecursion}
use Rattle.std.proofs.lemmas.Bool.{false≢true}
use Rattle.std.proofs.lemmas.Bool.Decides.{nat_tests}
use Rattle.order.specs.declared.range.Range.{Range}
use Rattle.order.specs.Between.{between}
use Rattle.order.specs.Bounds.{InRange}
use Rattle.order.specs.Ranges.{low, high}
use Rattle.kinds.specs.declared.item.Item.{Item}
use Rattle.kinds.specs.Items.{var, names}
use Rattle.kinds.specs.Meaning.{Lawful, Met, Follows, Own, OwnPairing, Agree}
use Rattle.kinds.proofs.Ranging.{all_between_from, between_all, length_between, between_same}
use Rattle.kinds.proofs.Rows.{own_var, agree_low, agree_high, plain_length, range_small}
use Rattle.logical.specs.Extreme.{extreme_of, least_past, greatest_past, chosen_at, extreme_clauses, passes, told_at, extreme_pairings, extreme}

-- whether the bound of a value x at t holds, in a direction
abbrev on : Bool → ℕ → ℕ → Bool
on down x t = cond down (nat_lt x t) (nat_le t x)

-- the clauses at t, of the values x, y and z
one_met : (down : Bool) (x y z t : ℕ) → (z == extreme_of down x y) ≡ true → (on (not down) x t || (on down z t || false)) ≡ true
one_met down x y z t h = grind (arith, nat_tests)

both_met : (down : Bool) (x y z t : ℕ) → (z == extreme_of down x y) ≡ true → (on down x t || (on down y t || (on (not down) z t || false))) ≡ true
both_met down x y z t h = grind (arith, nat_tests)

by_met : (down : Bool) (x y z t : ℕ) → (on (not down) x t || (on down z t || false)) ≡ true → (on (not down) y t || (on down z t || false)) ≡ true → (on down x t || (on down y t || (on (not down) z t || false))) ≡ true → nat_le t z ≡ nat_le t (extreme_of down x y)
by_met down x y z t h k m = grind (arith, nat_tests)

-- where the one does not hold, the other decides
other_decides : (down : Bool) (x y z t h : ℕ) → y ≤ h → (z == extreme_of down x y) ≡ true → on down y t ≡ nat_le (h + 1) y → on down z t ≡ on down x t
other_decides down x y z t h l e p = grind (arith, nat_tests)

swapped : (down : Bool) (x y z : ℕ) → (z == extreme_of down x y) ≡ true → (z == extreme_of down y x) ≡ true
swapped down x y z h = grind (arith, nat_tests)

-- what is chosen from two numbers lies where they do
chosen_within : (down : Bool) (l h x y : ℕ) → l ≤ x → l ≤ y → x ≤ h → y ≤ h → (l ≤ extreme_of down x y) × (extreme_of down x y ≤ h)
chosen_within down l h x y lx ly xh yh = (grind (arith, nat_tests), grind (arith, nat_tests))

-- numbers that reach the same thresholds from l + 1 to h are equal
same_reach : (l h z w : ℕ) → l ≤ z → l ≤ w → z ≤ h → w ≤ h → ((t : ℕ) → l + 1 ≤ t → t < h + 1 → nat_le t z ≡ nat_le t w) → (z == w) ≡ true
same_reach l h z w lz lw zh wh at = let below = at z in let above = at w in grind (arith, nat_tests)

module _ (down : Bool) (rs : List Range) (a b c : ℕ) where
  -- what holds of the clauses, or the pairings, of each threshold
  all_at : {X : Type 0} (f : ℕ → List X) (P : X → Type 0) → ((t : ℕ) → AllByRecursion P (f t)) → AllByRecursion P (between f (least_past rs a b c) (greatest_past rs a b c))
  all_at f P h = all_between_from f P (least_past rs a b c) (greatest_past rs a b c) (λ t _ _. h t)

  few_at : {X : Type 0} (f : ℕ → List X) (m : ℕ) → ((t : ℕ) → length (f t) ≤ m) → length (between f (least_past rs a b c) (greatest_past rs a b c)) ≤ 256 * m
  few_at f m h = length_between f m h (least_past rs a b c) (greatest_past rs a b c) 256 (omega (arith, range_small rs a, range_small rs b, range_small rs c))

  module _ (v : ℕ → ℕ) where
    extreme_sound : nat_eq (v c) (extreme_of down (v a) (v b)) ≡ true → AllByRecursion (Met v) (extreme_clauses down rs a b c)
    extreme_sound m = all_at (chosen_at down a b c) (Met v) (λ t. (one_met down (v a) (v b) (v c) t m, (one_met down (v b) (v a) (v c) t (swapped down (v a) (v b) (v c) m), (both_met down (v a) (v b) (v c) t m, tt))))

    extreme_complete : InRange rs v → AllByRecursion (Met v) (extreme_clauses down rs a b c) → (v c == extreme_of down (v a) (v b)) ≡ true
    extreme_complete within all =
        let at = between_all (chosen_at down a b c) (Met v) (least_past rs a b c) (greatest_past rs a b c) all in
        let l = min (min (low rs a) (low rs b)) (low rs c) in
        let h = max (max (high rs a) (high rs b)) (high rs c) in
        let r = chosen_within down l h (v a) (v b) (omega (arith, within.above a)) (omega (arith, within.above b)) (omega (arith, within.below a)) (omega (arith, within.below b)) in
        same_reach l h (v c) (extreme_of down (v a) (v b)) (omega (arith, within.above c)) r.0 (omega (arith, within.below c)) r.1 (λ t p q. let m = at t p q in by_met down (v a) (v b) (v c) t m.0 m.1.0 m.1.1.0)

    extreme_follows : InRange rs v → (v c == extreme_of down (v a) (v b)) ≡ true → AllByRecursion (Follows v) (extreme_pairings down rs a b c)
    extreme_follows within m =
        all_at (told_at down (passes rs a) (passes rs b) a b c) (Follows v) (λ t. (
          λ p. other_decides down (v a) (v b) (v c) t (high rs b) (within.below b) m p.0,
          (λ p. other_decides down (v b) (v a) (v c) t (high rs a) (within.below a) (swapped down (v a) (v b) (v c) m) p.0, tt),
        ))

  module _ (items : List Item) (oa : names items a ≡ true) (ob : names items b ≡ true) (oc : names items c ≡ true) where
    extreme_own : AllByRecursion (AllByRecursion (Own items)) (extreme_clauses down rs a b c)
    extreme_own = all_at (chosen_at down a b c) (AllByRecursion (Own items)) (λ t. ((oa, (oc, tt)), ((ob, (oc, tt)), ((oa, (ob, (oc, tt))), tt))))

    extreme_own_pairings : AllByRecursion (OwnPairing items) (extreme_pairings down rs a b c)
    extreme_own_pairings = all_at (told_at down (passes rs a) (passes rs b) a b c) (OwnPairing items) (λ t. ((((ob, ob), tt), (oc, oa)), ((((oa, oa), tt), (oc, ob)), tt)))

  extreme_short : AllByRecursion (λ d. length d ≤ 3) (extreme_clauses down rs a b c)
  extreme_short = all_at (chosen_at down a b c) (λ d. length d ≤ 3) (λ t. (lit≤ tt, (lit≤ tt, (lit≤ tt, tt))))

  extreme_short_premises : AllByRecursion (λ p. length p.premise ≤ 4) (extreme_pairings down rs a b c)
  extreme_short_premises = all_at (told_at down (passes rs a) (passes rs b) a b c) (λ p. length p.premise ≤ 4) (λ t. (lit≤ tt, (lit≤ tt, tt)))

module _ (down : Bool) (items : List Item) (rs rs' : List Range) (n : length items ≡ 3) (same : Agree items rs rs') where
  abbrev a : ℕ
  a = var items 0

  abbrev b : ℕ
  b = var items 1

  abbrev c : ℕ
  c = var items 2

  same_stretch : {X : Type 0} (f g : ℕ → List X) → ((t : ℕ) → g t ≡ f t) → between g (least_past rs' a b c) (greatest_past rs' a b c) ≡ between f (least_past rs a b c) (greatest_past rs a b c)
  same_stretch f g h =
      let la = agree_low items rs rs' 0 same (omega arith) in
      let lb = agree_low items rs rs' 1 same (omega arith) in
      let lc = agree_low items rs rs' 2 same (omega arith) in
      let ha = agree_high items rs rs' 0 same (omega arith) in
      let hb = agree_high items rs rs' 1 same (omega arith) in
      let hc = agree_high items rs rs' 2 same (omega arith) in
      between_same g f (least_past rs' a b c) (greatest_past rs' a b c) (least_past rs a b c) (greatest_past rs a b c) (omega arith) (omega arith) h

  extreme_same_pairings : extreme_pairings down rs' a b c ≡ extreme_pairings down rs a b c
  extreme_same_pairings =
      let ha = agree_high items rs rs' 0 same (omega arith) in
      let hb = agree_high items rs rs' 1 same (omega arith) in
      same_stretch (told_at down (passes rs a) (passes rs b) a b c) (told_at down (passes rs' a) (passes rs' b) a b c) (λ t. cc)

pub extreme_lawful : (down : Bool) → Lawful (extreme down)
extreme_lawful down = record {
  sound = λ items rs v apt within m. extreme_sound down rs (var items 0) (var items 1) (var items 2) v m;
  complete = λ items rs v apt within all. extreme_complete down rs (var items 0) (var items 1) (var items 2) v within all;
  paired = λ items rs v apt within m. extreme_follows down rs (var items 0) (var items 1) (var items 2) v within m;
  spent = λ items rs v apt within tied kept s. absurd (false≢true s);
  own_clauses = λ items rs apt. let n = plain_length 3 items apt.0 in extreme_own down rs (var items 0) (var items 1) (var items 2) items (own_var items 0 (omega arith)) (own_var items 1 (omega arith)) (own_var items 2 (omega arith));
  own_pairings = λ items rs apt. let n = plain_length 3 items apt.0 in extreme_own_pairings down rs (var items 0) (var items 1) (var items 2) items (own_var items 0 (omega arith)) (own_var items 1 (omega arith)) (own_var items 2 (omega arith));
  same_clauses = λ items rs rs' apt same. same_stretch down items rs rs' (plain_length 3 items apt.0) same (chosen_at down (var items 0) (var items 1) (var items 2)) (chosen_at down (var items 0) (var items 1) (var items 2)) (λ t. refl);
  same_pairings = λ items rs rs' apt same. extreme_same_pairings down items rs rs' (plain_length 3 items apt.0) same;
  same_fits = λ items rs rs' apt same. refl;
  same_meets = λ items u v formed same. let n = plain_length 3 items formed in let ea = same (var items 0) (own_var items 0 (omega arith)) in let eb = same (var items 1) (own_var items 1 (omega arith)) in let ec = same (var items 2) (own_var items 2 (omega arith)) in cc;
  short = lit≤ tt;
  short_clauses = λ items rs apt. extreme_short down rs (var items 0) (var items 1) (var items 2);
  few_clauses = λ items rs apt. le_trans (few_at down rs (var items 0) (var items 1) (var items 2) (chosen_at down (var items 0) (var items 1) (var items 2)) 3 (λ t. lit≤ tt)) (lit≤ tt);
  few_pairings = λ items rs apt. le_trans (few_at down rs (var items 0) (var items 1) (var items 2) (told_at down (passes rs (var items 0)) (passes rs (var items 1)) (var items 0) (var items 1) (var items 2)) 2 (λ t. lit≤ tt)) (lit≤ tt);
  short_premises = λ items rs apt. extreme_short_premises down rs (var items 0) (var items 1) (var items 2);
}
