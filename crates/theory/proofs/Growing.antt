-- What is closed for a larger job is closed for a smaller one. Assumes nothing.
use Rattle.std.proofs.Common.{◌≡◌, ℕ, zero, suc, ◌+◌, ◌-◌, ◌<◌, ◌≤◌, cond, ltb, leb, List, [], ◌∷◌, ◌++◌, length, sym, refl, ap, ◌∙◌, subst, arith, length-append}
use Rattle.std.specs.List.{AllByRecursion}
use Rattle.std.proofs.lemmas.List.{get_or_append_left}
use Rattle.std.proofs.ByRecursion.{All-append, All-weaker, all-has}
use Rattle.order.specs.declared.bound.Bound.{Bound}
use Rattle.order.specs.declared.literal.Literal.TheVariants.{False, True, Bit}
use Rattle.order.specs.declared.range.Range.{Range}
use Rattle.order.specs.Between.{joined}
use Rattle.order.specs.Bounds.{reach, literal, literals}
use Rattle.order.specs.Literals.{opposite}
use Rattle.order.specs.Orders.{step, order, orders}
use Rattle.order.specs.Ranges.{low, high, first, no_range}
use Rattle.ties.specs.Relations.{Relation}
use Rattle.kinds.specs.declared.item.Tie.{Tie}
use Rattle.kinds.specs.Items.{Pairing}
use Rattle.kinds.proofs.Ranging.{all_between_from, between_all, between_same}
use Rattle.theory.specs.Rows.{Row}
use Rattle.theory.specs.Jobs.{Job}
use Rattle.theory.specs.Closed.{Heeds, Stands, Pairs, Closed}
use Rattle.theory.specs.Larger.{Known, KnownTie, KnownPairing, KnownRow, Stays, Larger, LargerKeeps}
use Rattle.theory.proofs.Stretches.{all_front, all_back, all_joined, joined_all, all_both}

module _ (j k : Job) (g : Larger j k) where
  abbrev n : ℕ
  n = length j.ranges

  -- the literals of the smaller job's bounds are the same in both
  first_same : (x : ℕ) → x ≤ n → first k.ranges x ≡ first j.ranges x
  first_same zero h = refl
  first_same (suc x) h = omega (arith, first_same x (omega arith), g.lows x (omega arith), g.highs x (omega arith))

  reach_same : (x t : ℕ) → x < n → reach k.ranges x t ≡ reach j.ranges x t
  reach_same x t h = placed t (first_same x (omega arith)) (g.lows x h) (g.highs x h)
    where
      placed : (t : ℕ) {a b c d p q : ℕ} → p ≡ q → a ≡ b → c ≡ d → cond (leb t a) True (cond (ltb c t) False (Bit (p + (t - a)))) ≡ cond (leb t b) True (cond (ltb d t) False (Bit (q + (t - b))))
      placed t e l h = cc

  pub literal_same : (b : Bound) → Known n b → literal k.ranges b ≡ literal j.ranges b
  literal_same b h = ap (λ l. cond b.opposed (opposite l) l) (reach_same b.variable b.at h)

  literals_same : (c : List Bound) → AllByRecursion (Known n) c → literals k.ranges c ≡ literals j.ranges c
  literals_same [] h = refl
  literals_same (b ∷ c) h = ap (λ l. l ∷ literals k.ranges c) (literal_same b h.0) ∙ ap (λ ls. literal j.ranges b ∷ ls) (literals_same c h.1)

  order_same : (x : ℕ) → x < n → order k.ranges x ≡ order j.ranges x
  order_same x h = between_same (step x) (step x) _ _ _ _ (ap (λ m. m + 1) (g.lows x h)) (g.highs x h) (λ t. refl)

  -- what holds of the clauses, or of the pairings, of each row of the larger holds of those of each row of the smaller
  clauses_within : (P : List Bound → Type 0) → AllByRecursion (λ w. AllByRecursion P w.clauses) k.rows → AllByRecursion (λ w. AllByRecursion P w.clauses) j.rows
  clauses_within P h = All-weaker (Stays k.rows) (λ w. AllByRecursion P w.clauses) (λ w s. subst (AllByRecursion P) s.clauses (all-has (λ w. AllByRecursion P w.clauses) k.rows s.row h s.among)) j.rows g.rows

  pairings_within : (P : Pairing → Type 0) → AllByRecursion (λ w. AllByRecursion P w.pairings) k.rows → AllByRecursion (λ w. AllByRecursion P w.pairings) j.rows
  pairings_within P h = All-weaker (Stays k.rows) (λ w. AllByRecursion P w.pairings) (λ w s. subst (AllByRecursion P) s.pairings (all-has (λ w. AllByRecursion P w.pairings) k.rows s.row h s.among)) j.rows g.rows

  module _ (S : Relation) where
    abbrev Heeds-in : Job → List Bound → Type 0
    Heeds-in i c = Heeds S (literals i.ranges c)

    heeds_same : (c : List Bound) → AllByRecursion (Known n) c → Heeds-in k c → Heeds-in j c
    heeds_same c h = subst (Heeds S) (literals_same c h)

    tie_same : (t : Tie) → KnownTie n t → S (literal k.ranges t.left) (literal k.ranges t.right) ≡ S (literal j.ranges t.left) (literal j.ranges t.right)
    tie_same t h = ap (λ x. S x (literal k.ranges t.right)) (literal_same t.left h.0) ∙ ap (S (literal j.ranges t.left)) (literal_same t.right h.1)

    pairs_same : (p : Pairing) → KnownPairing n p → Pairs k.ranges S p → Pairs j.ranges S p
    pairs_same p h q premise =
        let stands = all_both (KnownTie n) (Stands j.ranges S) (Stands k.ranges S) (λ t names s. tie_same t names ∙ s) p.premise h.0 premise in
        sym (tie_same p.gives h.1) ∙ q stands

    order_heeds : (x : ℕ) → x < n → AllByRecursion (Heeds-in k) (order k.ranges x) → AllByRecursion (Heeds-in j) (order j.ranges x)
    order_heeds x h all =
        let names = all_between_from (step x) (AllByRecursion (Known n)) (low j.ranges x + 1) (high j.ranges x) (λ t _ _. ((h, (h, tt)), tt)) in
        all_both (AllByRecursion (Known n)) (Heeds-in k) (Heeds-in j) heeds_same (order j.ranges x) names (subst (AllByRecursion (Heeds-in k)) (order_same x h) all)

    orders_heed : AllByRecursion (Heeds-in k) (orders k.ranges) → AllByRecursion (Heeds-in j) (orders j.ranges)
    orders_heed all = all_between_from (order j.ranges) (Heeds-in j) 0 n
        (λ x _ h. order_heeds x h (between_all (order k.ranges) (Heeds-in k) 0 (length k.ranges) all x (omega arith) (omega (arith, g.more))))

    pub closed_within : Closed k S → Closed j S
    closed_within c =
        let rows : List (List Bound) = joined (λ w. w.clauses) k.rows in
        record {
          ties = c.ties;
          apart = c.apart;
          clauses = All-append (Heeds-in j) (orders j.ranges) (joined (λ w. w.clauses) j.rows)
              (orders_heed (all_front (Heeds-in k) (orders k.ranges) rows c.clauses))
              (all_joined (Heeds-in j) (λ w. w.clauses) j.rows
              (all_both (KnownRow n) (λ w. AllByRecursion (Heeds-in k) w.clauses) (λ w. AllByRecursion (Heeds-in j) w.clauses)
              (λ w names. all_both (AllByRecursion (Known n)) (Heeds-in k) (Heeds-in j) heeds_same w.clauses names.clauses) j.rows g.known
              (clauses_within (Heeds-in k) (joined_all (Heeds-in k) (λ w. w.clauses) k.rows (all_back (Heeds-in k) (orders k.ranges) rows c.clauses)))));
          pairings = all_joined (Pairs j.ranges S) (λ w. w.pairings) j.rows
              (all_both (KnownRow n) (λ w. AllByRecursion (Pairs k.ranges S) w.pairings) (λ w. AllByRecursion (Pairs j.ranges S) w.pairings)
              (λ w names. all_both (KnownPairing n) (Pairs k.ranges S) (Pairs j.ranges S) pairs_same w.pairings names.pairings) j.rows g.known
              (pairings_within (Pairs k.ranges S) (joined_all (Pairs k.ranges S) (λ w. w.pairings) k.rows c.pairings)));
        }

-- so ties that are sound for the smaller are sound for the larger, and what is refused of the smaller is refused of the larger
pub larger_keeps : LargerKeeps
larger_keeps j k g = record {
  closed = closed_within j k g;
  sound = λ R h S c. h S (closed_within j k g S c);
  refused = λ none S c. none S (closed_within j k g S c);
}

-- ranges with more behind them
module _ (rs more : List Range) (x : ℕ) (h : x < length rs) where
  pub low_more : low (rs ++ more) x ≡ low rs x
  low_more = ap (λ (r : Range). r.low) (get_or_append_left rs more no_range x h)

  pub high_more : high (rs ++ more) x ≡ high rs x
  high_more = ap (λ (r : Range). r.high) (get_or_append_left rs more no_range x h)

-- a job is within one with more ranges and rows
pub larger_more : (rs more : List Range) (ws ws' : List Row) → AllByRecursion (Stays ws') ws → AllByRecursion (KnownRow (length rs)) ws → Larger (record { ranges = rs; rows = ws }) (record { ranges = rs ++ more; rows = ws' })
larger_more rs more ws ws' stays known = record {
  more = omega (arith, length-append rs more);
  lows = low_more rs more;
  highs = high_more rs more;
  rows = stays;
  known = known;
}
