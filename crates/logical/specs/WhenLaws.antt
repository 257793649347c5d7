-- The laws of a variable that says whether one variable is at most another. Assumes nothing.
use Rattle.std.specs.Prelude.{◌≡◌, ℕ, ◌+◌, ◌≤◌, true, false, ◌||◌, leb, List, [], ◌∷◌, ◌++◌, length, ◌==◌, nat_le, nat_lt, refl}
use Rattle.std.proofs.Common.{sym, ap, ap₂, ◌∙◌, arith, lit≤, length-append}
use Rattle.std.specs.List.{AllByRecursion}
use Rattle.std.proofs.ByRecursion.{All-append}
use Rattle.std.proofs.lemmas.Bool.{false≢true, leb-true}
use Rattle.std.proofs.lemmas.Bool.Decides.{nat_tests}
use Rattle.order.specs.declared.bound.Bound.{Bound}
use Rattle.order.specs.declared.range.Range.{Range}
use Rattle.order.specs.Bounds.{InRange}
use Rattle.order.specs.Ranges.{low, high}
use Rattle.kinds.specs.declared.item.Item.{Item}
use Rattle.kinds.specs.Items.{var}
use Rattle.kinds.specs.Meaning.{Lawful, Met, Own, Agree}
use Rattle.kinds.proofs.Ranging.{all_between_from, between_all, length_between, between_same}
use Rattle.kinds.proofs.Rows.{own_var, agree_low, agree_high, plain_length, range_small}
use Rattle.logical.specs.When.{upheld, denied, all_upheld, all_denied, as_number, when}

-- the clauses at t, of the values x, a and b
upheld_met : (x a b t : ℕ) → (x == as_number (nat_le a b)) ≡ true → (nat_lt x 1 || (nat_lt a t || (nat_le t b || false))) ≡ true
upheld_met x a b t h = grind (arith, nat_tests)

denied_met : (x a b t : ℕ) → (x == as_number (nat_le a b)) ≡ true → (nat_le 1 x || (nat_lt b t || (nat_le (t + 1) a || false))) ≡ true
denied_met x a b t h = grind (arith, nat_tests)

by_met : (x a b : ℕ) → x ≤ 1 → (nat_lt x 1 || (nat_lt a a || (nat_le a b || false))) ≡ true → (nat_le 1 x || (nat_lt b b || (nat_le (b + 1) a || false))) ≡ true → (x == as_number (nat_le a b)) ≡ true
by_met x a b l h k = grind (arith, nat_tests)

-- what holds of all that is joined holds of both parts
all_parts : {X : Type 0} (P : X → Type 0) (xs ys : List X) → AllByRecursion P (xs ++ ys) → AllByRecursion P xs × AllByRecursion P ys
all_parts P [] ys h = (tt, h)
all_parts P (x ∷ xs) ys h = let r = all_parts P xs ys h.1 in ((h.0, r.0), r.1)

module _ (items : List Item) (rs : List Range) where
  abbrev x : ℕ
  x = var items 0

  abbrev a : ℕ
  a = var items 1

  abbrev b : ℕ
  b = var items 2

  -- what holds of the clauses of each value
  all_of : (P : List Bound → Type 0) → ((t : ℕ) → AllByRecursion P (upheld x a b t)) → ((t : ℕ) → AllByRecursion P (denied x a b t)) → AllByRecursion P (when.clauses items rs)
  all_of P h k =
      All-append P (all_upheld rs x a b) (all_denied rs x a b)
      (all_between_from (upheld x a b) P (low rs a) (high rs a + 1) (λ t _ _. h t))
      (all_between_from (denied x a b) P (low rs b) (high rs b + 1) (λ t _ _. k t))

  when_complete : (v : ℕ → ℕ) → InRange rs v → when.fits items rs ≡ true → AllByRecursion (Met v) (when.clauses items rs) → when.meets items v ≡ true
  when_complete v within fit all =
      let two = all_parts (Met v) (all_upheld rs x a b) (all_denied rs x a b) all in
      let small : v x ≤ 1 = omega (arith, within.below x, leb-true (high rs x) 1 fit) in
      by_met (v x) (v a) (v b) small
      (between_all (upheld x a b) (Met v) (low rs a) (high rs a + 1) two.0 (v a) (within.above a) (omega (arith, within.below a))).0
      (between_all (denied x a b) (Met v) (low rs b) (high rs b + 1) two.1 (v b) (within.above b) (omega (arith, within.below b))).0

  when_few : length (when.clauses items rs) ≤ 131072
  when_few =
      let p : length (all_upheld rs x a b) ≤ 256 = length_between (upheld x a b) 1 (λ t. lit≤ tt) (low rs a) (high rs a + 1) 256 (omega (arith, range_small rs a)) in
      let q : length (all_denied rs x a b) ≤ 256 = length_between (denied x a b) 1 (λ t. lit≤ tt) (low rs b) (high rs b + 1) 256 (omega (arith, range_small rs b)) in
      omega (arith, length-append (all_upheld rs x a b) (all_denied rs x a b))

  when_own : length items ≡ 3 → AllByRecursion (AllByRecursion (Own items)) (when.clauses items rs)
  when_own n =
      let ox = own_var items 0 (omega arith) in
      let oa = own_var items 1 (omega arith) in
      let ob = own_var items 2 (omega arith) in
      all_of (AllByRecursion (Own items)) (λ t. ((ox, (oa, (ob, tt))), tt)) (λ t. ((ox, (ob, (oa, tt))), tt))

  module _ (rs' : List Range) (n : length items ≡ 3) (same : Agree items rs rs') where
    when_same : when.clauses items rs' ≡ when.clauses items rs
    when_same =
        let la = agree_low items rs rs' 1 same (omega arith) in
        let ha = agree_high items rs rs' 1 same (omega arith) in
        let lb = agree_low items rs rs' 2 same (omega arith) in
        let hb = agree_high items rs rs' 2 same (omega arith) in
        ap₂ (λ p q. p ++ q)
        (between_same (upheld x a b) (upheld x a b) (low rs' a) (high rs' a + 1) (low rs a) (high rs a + 1) (omega arith) (omega arith) (λ t. refl))
        (between_same (denied x a b) (denied x a b) (low rs' b) (high rs' b + 1) (low rs b) (high rs b + 1) (omega arith) (omega arith) (λ t. refl))

    when_fits : when.fits items rs ≡ true → when.fits items rs' ≡ true
    when_fits fit = let e = agree_high items rs rs' 0 same (omega arith) in ap (λ h. leb h 1) (sym e) ∙ fit

pub when_lawful : Lawful when
when_lawful = record {
  sound = λ items rs v apt within m. all_of items rs (Met v) (λ t. (upheld_met (v (var items 0)) (v (var items 1)) (v (var items 2)) t m, tt)) (λ t. (denied_met (v (var items 0)) (v (var items 1)) (v (var items 2)) t m, tt));
  complete = λ items rs v apt within all. when_complete items rs v within apt.1 all;
  paired = λ items rs v apt within m. tt;
  spent = λ items rs v apt within tied kept s. absurd (false≢true s);
  own_clauses = λ items rs apt. when_own items rs (plain_length 3 items apt.0);
  own_pairings = λ items rs apt. tt;
  same_clauses = λ items rs rs' apt same. when_same items rs rs' (plain_length 3 items apt.0) same;
  same_pairings = λ items rs rs' apt same. refl;
  same_fits = λ items rs rs' apt same. when_fits items rs rs' (plain_length 3 items apt.0) same apt.1;
  same_meets = λ items u v formed same. let n = plain_length 3 items formed in let ex = same (var items 0) (own_var items 0 (omega arith)) in let ea = same (var items 1) (own_var items 1 (omega arith)) in let eb = same (var items 2) (own_var items 2 (omega arith)) in cc;
  short = lit≤ tt;
  short_clauses = λ items rs apt. all_of items rs (λ c. length c ≤ 3) (λ t. (lit≤ tt, tt)) (λ t. (lit≤ tt, tt));
  few_clauses = λ items rs apt. when_few items rs;
  few_pairings = λ items rs apt. lit≤ tt;
  short_premises = λ items rs apt. tt;
}
