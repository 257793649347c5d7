-- The laws of variables that all differ. Assumes nothing.
use Rattle.std.specs.Prelude.{◌≡◌, ℕ, ◌+◌, ◌-◌, ◌<◌, ◌≤◌, true, cond, List, [], length, ◌==◌, ◌≢◌, refl}
use Rattle.std.proofs.Common.{ap, ⊎_elim, arith, lit≤}
use Rattle.std.specs.List.{AllByRecursion}
use Rattle.std.proofs.lemmas.Bool.{false≢true, eqb-false, cases_order, cond_both}
use Rattle.std.proofs.lemmas.Bool.Decides.{nat_tests}
use Rattle.order.specs.declared.bound.Bound.{Bound}
use Rattle.order.specs.declared.range.Range.{Range}
use Rattle.order.specs.Bounds.{InRange}
use Rattle.kinds.specs.declared.item.Item.{Item}
use Rattle.kinds.specs.Items.{var, names, Pairing}
use Rattle.kinds.specs.Meaning.{Lawful, Met, Follows, Own, OwnPairing, Agree}
use Rattle.kinds.proofs.Ranging.{all_between_from, between_all, length_between, all_between_at}
use Rattle.kinds.proofs.Rows.{own_var, agree_low, agree_high}
use Rattle.logical.specs.Distinct.{differ, differ_later, all_differ, apart_pair, apart_later, all_apart, excludes_pair, excludes_others, all_exclude, distinct}
use Rattle.logical.specs.Neq.{excludes_each}
use Rattle.logical.specs.NeqLaws.{apart_sound, apart_complete, apart_own, apart_short, apart_few, apart_same, turn_round, each_follows, each_own, each_short, each_few, each_same}
use Rattle.logical.specs.Places.{between_same_in, all_same_in, all_from, length_pairs, pairs_most}

module _ (items : List Item) where
  abbrev many : ℕ
  many = length items

  few : distinct.formed items ≡ true → many ≤ 32
  few formed = grind (arith, nat_tests)

  -- any two places have different values
  module _ (v : ℕ → ℕ) (all : all_differ items v ≡ true) where
    differ_in_order : (p q : ℕ) → p < q → q < many → differ items v p q ≡ true
    differ_in_order p q l u = all_between_at (differ items v p) (p + 1) many (all_between_at (differ_later items v) 0 many all p (omega arith) (omega arith)) q (omega arith) u

    differ_apart : (p q : ℕ) → p < many → q < many → (p ≢ q) → differ items v p q ≡ true
    differ_apart p q l u ne =
        ⊎_elim
        (λ e. absurd (ne e))
        (⊎_elim (λ h. differ_in_order p q h u) (λ h. turn_round (v (var items q)) (v (var items p)) (differ_in_order q p h l)))
        (cases_order p q)

  module _ (rs : List Range) where
    -- what holds of the clauses of each two places, and of the pairings of each two that differ
    all_pairs : (P : List Bound → Type 0) → ((p q : ℕ) → p < many → p < q → q < many → AllByRecursion P (apart_pair items rs p q)) → AllByRecursion P (all_apart items rs)
    all_pairs P h =
        all_between_from (apart_later items rs) P 0 many (λ p _ u. all_between_from (apart_pair items rs p) P (p + 1) many (λ q l k. h p q u (omega arith) k))

    all_others : (P : Pairing → Type 0) → ((p q : ℕ) → p < many → q < many → (p ≢ q) → AllByRecursion P (excludes_each rs (var items p) (var items q))) → AllByRecursion P (all_exclude items rs)
    all_others P h =
        all_between_from (excludes_others items rs) P 0 many (λ p _ u. all_between_from (excludes_pair items rs p) P 0 many (λ q _ k. cond_both (p == q) [] (excludes_each rs (var items p) (var items q)) (AllByRecursion P) (λ _. tt) (λ e. h p q u k (eqb-false p q e))))

    distinct_complete : (v : ℕ → ℕ) → InRange rs v → AllByRecursion (Met v) (all_apart items rs) → all_differ items v ≡ true
    distinct_complete v within all =
        all_from (differ_later items v) 0 many (λ p l u. all_from (differ items v p) (p + 1) many (λ q m k.
        apart_complete rs (var items p) (var items q) v within
        (between_all (apart_pair items rs p) (Met v) (p + 1) many (between_all (apart_later items rs) (Met v) 0 many all p l u) q m k)))

    distinct_few : many ≤ 32 → length (all_apart items rs) ≤ 131072
    distinct_few h =
        let all = length_pairs (apart_later items rs) 256 many (λ p u. length_between (apart_pair items rs p) 256 (λ q. apart_few rs (var items p) (var items q)) (p + 1) many (many - (p + 1)) (omega arith)) 0 (many - 0) (omega arith) in
        omega (arith, all, pairs_most (many - 0) 32 (omega arith))

    distinct_few_pairings : many ≤ 32 → length (all_exclude items rs) ≤ 262144
    distinct_few_pairings h =
        length_between (excludes_others items rs) 8192 (λ p. length_between (excludes_pair items rs p) 256 (λ q. few_of p q) 0 many 32 (omega arith)) 0 many 32 (omega arith)
      where
        few_of : (p q : ℕ) → length (excludes_pair items rs p q) ≤ 256
        few_of p q = cond_both (p == q) [] (excludes_each rs (var items p) (var items q)) (λ ps. length ps ≤ 256) (λ _. lit≤ tt) (λ _. each_few rs (var items p) (var items q))

    module _ (rs' : List Range) (same : Agree items rs rs') where
      distinct_same : all_apart items rs' ≡ all_apart items rs
      distinct_same =
          between_same_in (apart_later items rs') (apart_later items rs) 0 many (λ p _ u. between_same_in (apart_pair items rs' p) (apart_pair items rs p) (p + 1) many (λ q _ k.
          apart_same rs rs' (var items p) (var items q) (agree_low items rs rs' p same u) (agree_high items rs rs' p same u) (agree_low items rs rs' q same k) (agree_high items rs rs' q same k)))

      distinct_same_pairings : all_exclude items rs' ≡ all_exclude items rs
      distinct_same_pairings =
          between_same_in (excludes_others items rs') (excludes_others items rs) 0 many (λ p _ u. between_same_in (excludes_pair items rs' p) (excludes_pair items rs p) 0 many (λ q _ k.
          ap (λ x. cond (p == q) [] x) (each_same rs rs' (var items p) (var items q) (agree_low items rs rs' p same u) (agree_high items rs rs' p same u) (agree_low items rs rs' q same k) (agree_high items rs rs' q same k))))

  distinct_same_meets : (u v : ℕ → ℕ) → ((x : ℕ) → names items x ≡ true → u x ≡ v x) → all_differ items u ≡ all_differ items v
  distinct_same_meets u v same =
      all_same_in (differ_later items u) (differ_later items v) 0 many (λ p _ l. all_same_in (differ items u p) (differ items v p) (p + 1) many (λ q _ k.
      let ep = same (var items p) (own_var items p l) in
      let eq = same (var items q) (own_var items q k) in
      cc))

pub distinct_lawful : Lawful distinct
distinct_lawful = record {
  sound = λ items rs v apt within m. all_pairs items rs (Met v) (λ p q _ l u. apart_sound rs (var items p) (var items q) v (differ_in_order items v m p q l u));
  complete = λ items rs v apt within all. distinct_complete items rs v within all;
  paired = λ items rs v apt within m. all_others items rs (Follows v) (λ p q l u ne. each_follows rs (var items p) (var items q) v within (differ_apart items v m p q l u ne));
  spent = λ items rs v apt within tied kept s. absurd (false≢true s);
  own_clauses = λ items rs apt. all_pairs items rs (AllByRecursion (Own items)) (λ p q l _ u. apart_own rs (var items p) (var items q) items (own_var items p l) (own_var items q u));
  own_pairings = λ items rs apt. all_others items rs (OwnPairing items) (λ p q l u _. each_own rs (var items p) (var items q) items (own_var items p l) (own_var items q u));
  same_clauses = λ items rs rs' apt same. distinct_same items rs rs' same;
  same_pairings = λ items rs rs' apt same. distinct_same_pairings items rs rs' same;
  same_fits = λ items rs rs' apt same. refl;
  same_meets = λ items u v formed same. distinct_same_meets items u v same;
  short = lit≤ tt;
  short_clauses = λ items rs apt. all_pairs items rs (λ c. length c ≤ 4) (λ p q _ _ _. apart_short rs (var items p) (var items q));
  few_clauses = λ items rs apt. distinct_few items rs (few items apt.0);
  few_pairings = λ items rs apt. distinct_few_pairings items rs (few items apt.0);
  short_premises = λ items rs apt. all_others items rs (λ p. length p.premise ≤ 4) (λ p q _ _ _. each_short rs (var items p) (var items q));
}
