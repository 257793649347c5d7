-- The parts of a job make up its clauses and its pairings. Assumes nothing.
use Rattle.std.proofs.Common.{◌≡◌, ℕ, ◌+◌, ◌-◌, ◌<◌, ◌≤◌, true, List, [], map, length, get_or, sym, refl, ◌∙◌, subst, inl, inr, arith}
use Rattle.std.specs.List.{ContainsAt, AllByRecursion}
use Rattle.std.proofs.lemmas.List.{get_or-map, length-map}
use Rattle.std.proofs.ByRecursion.{All-append, All-get_or, All-from_get_or, All-map, All-weaker, all_has_itself}
use Rattle.std.proofs.lemmas.Bool.{cases_lt, eq-eqb}
use Rattle.order.specs.declared.bound.Bound.{Bound}
use Rattle.order.specs.declared.literal.Literal.{Literal}
use Rattle.order.specs.declared.range.Range.{Range}
use Rattle.order.specs.Between.{joined}
use Rattle.order.specs.Bounds.{reaches, misses}
use Rattle.order.specs.Orders.{order, orders, step}
use Rattle.order.specs.Ranges.{low, high}
use Rattle.kinds.specs.declared.item.Tie.{Tie}
use Rattle.kinds.specs.Items.{Pairing}
use Rattle.kinds.specs.Meaning.{Meaning, Lawful, Own, OwnTie, OwnPairing}
use Rattle.kinds.proofs.Ranging.{all_between_from, between_all}
use Rattle.rows.specs.Rows.{Posted, posted}
use Rattle.theory.specs.Jobs.{clauses, pairings}
use Rattle.theory.specs.Rows.{Row}
use Rattle.theory.specs.Rounds.{Still, StillTie, StillPairing}
use Rattle.theory.proofs.Stretches.{all_front, all_back, all_joined, joined_all}
use Rattle.calls.specs.Jobs.{posted_row, job_of, Sits, Seated}
use Rattle.settle.specs.Parts.{part_clauses, part_pairings, part_names}
use Rattle.settle.proofs.PartLists.{variable_clauses_are, variable_pairings_are, variable_names_are, row_clauses_are, row_pairings_are, row_names_are}

module _ (m : ℕ → Meaning) (rs : List Range) (ps : List Posted) where
  abbrev no_row : Posted
  no_row = record { code = 0; items = [] }

  -- a list of each row
  module _ {X : Type 0} (P : X → Type 0) (f : Row → List X) where
    row_has : AllByRecursion P (joined f (map (posted_row m rs) ps)) → (i : ℕ) → i < length ps → AllByRecursion P (f (posted_row m rs (posted ps i)))
    row_has h i lt =
        subst (λ w. AllByRecursion P (f w)) (get_or-map (posted_row m rs) ps i no_row (posted_row m rs no_row) lt)
        (All-get_or (λ w. AllByRecursion P (f w)) (map (posted_row m rs) ps) i (posted_row m rs no_row) (omega (arith, length-map ps (posted_row m rs))) (joined_all P f _ h))

    rows_give : ((i : ℕ) → i < length ps → AllByRecursion P (f (posted_row m rs (posted ps i)))) → AllByRecursion P (joined f (map (posted_row m rs) ps))
    rows_give h = all_joined P f _ (All-map (λ w. AllByRecursion P (f w)) (posted_row m rs) ps (All-from_get_or _ ps no_row h))

    -- the place of a row among the parts
    at_row : (i : ℕ) → AllByRecursion P (f (posted_row m rs (posted ps (length rs + i - length rs)))) → AllByRecursion P (f (posted_row m rs (posted ps i)))
    at_row i = let e : length rs + i - length rs ≡ i = omega arith in subst (λ x. AllByRecursion P (f (posted_row m rs (posted ps x)))) e

  module _ (P : List Bound → Type 0) where
    part_has_clauses : AllByRecursion P (clauses (job_of m rs ps)) → (k : ℕ) → k < length rs + length ps → AllByRecursion P (part_clauses m rs ps k)
    part_has_clauses h k lt =
        elim (cases_lt k (length rs)) [
          | inl below ↦ subst (AllByRecursion P) (sym (variable_clauses_are m rs ps k below)) (between_all (order rs) P 0 (length rs) (all_front P (orders rs) _ h) k (omega arith) below)
          | inr past ↦ subst (AllByRecursion P) (sym (row_clauses_are m rs ps k past)) (row_has P (λ w. w.clauses) (all_back P (orders rs) _ h) (k - length rs) (omega arith))
        ]

    pub parts_give_clauses : ((k : ℕ) → k < length rs + length ps → AllByRecursion P (part_clauses m rs ps k)) → AllByRecursion P (clauses (job_of m rs ps))
    parts_give_clauses h =
        All-append P (orders rs) _
        (all_between_from (order rs) P 0 (length rs) (λ i l u. subst (AllByRecursion P) (variable_clauses_are m rs ps i u) (h i (omega arith))))
        (rows_give P (λ w. w.clauses) (λ i u. at_row P (λ w. w.clauses) i (subst (AllByRecursion P) (row_clauses_are m rs ps (length rs + i) (omega arith)) (h (length rs + i) (omega arith)))))

  module _ (P : Pairing → Type 0) where
    part_has_pairings : AllByRecursion P (pairings (job_of m rs ps)) → (k : ℕ) → k < length rs + length ps → AllByRecursion P (part_pairings m rs ps k)
    part_has_pairings h k lt =
        elim (cases_lt k (length rs)) [
          | inl below ↦ subst (AllByRecursion P) (sym (variable_pairings_are m rs ps k below)) tt
          | inr past ↦ subst (AllByRecursion P) (sym (row_pairings_are m rs ps k past)) (row_has P (λ w. w.pairings) h (k - length rs) (omega arith))
        ]

    pub parts_give_pairings : ((k : ℕ) → k < length rs + length ps → AllByRecursion P (part_pairings m rs ps k)) → AllByRecursion P (pairings (job_of m rs ps))
    parts_give_pairings h =
        rows_give P (λ w. w.pairings) (λ i u. at_row P (λ w. w.pairings) i (subst (AllByRecursion P) (row_pairings_are m rs ps (length rs + i) (omega arith)) (h (length rs + i) (omega arith))))

  module _ (k : ℕ) (lt : k < length rs + length ps) where
    -- what stands in a part stands in the job
    pub job_has_clause : (i : ℕ) (d : List Bound) → i < length (part_clauses m rs ps k) → ContainsAt (clauses (job_of m rs ps)) (get_or (part_clauses m rs ps k) i d)
    job_has_clause i d u =
        All-get_or (ContainsAt (clauses (job_of m rs ps))) (part_clauses m rs ps k) i d u
        (part_has_clauses (ContainsAt (clauses (job_of m rs ps))) (all_has_itself (clauses (job_of m rs ps))) k lt)

    pub job_has_pairing : (i : ℕ) (d : Pairing) → i < length (part_pairings m rs ps k) → ContainsAt (pairings (job_of m rs ps)) (get_or (part_pairings m rs ps k) i d)
    job_has_pairing i d u =
        All-get_or (ContainsAt (pairings (job_of m rs ps))) (part_pairings m rs ps k) i d u
        (part_has_pairings (ContainsAt (pairings (job_of m rs ps))) (all_has_itself (pairings (job_of m rs ps))) k lt)

    -- where the bounds that a part names have their roots still, so have its clauses and its pairings
    module _ (law : (code : ℕ) → Lawful (m code)) (seated : Seated m rs ps) (f g : ℕ → Literal) (still : (b : Bound) → part_names rs ps k b.variable ≡ true → Still rs f g b) where
      abbrev row : Posted
      row = posted ps (k - length rs)

      module _ (past : length rs ≤ k) where
        sits : Sits m rs row
        sits = All-get_or (Sits m rs) ps (k - length rs) no_row (omega arith) seated

        own_still : (b : Bound) → Own row.items b → Still rs f g b
        own_still b h = still b (row_names_are rs ps k b.variable past ∙ h)

        tie_still : (t : Tie) → OwnTie row.items t → StillTie rs f g t
        tie_still t h = (own_still t.left h.0, own_still t.right h.1)

        pairing_still : (p : Pairing) → OwnPairing row.items p → StillPairing rs f g p
        pairing_still p h = (All-weaker _ _ tie_still p.premise h.0, tie_still p.gives h.1)

      pub clauses_still : AllByRecursion (AllByRecursion (Still rs f g)) (part_clauses m rs ps k)
      clauses_still =
          elim (cases_lt k (length rs)) [
            | inl below ↦
                let named : part_names rs ps k k ≡ true = variable_names_are rs ps k k below ∙ eq-eqb k k refl in
                subst (AllByRecursion (AllByRecursion (Still rs f g))) (sym (variable_clauses_are m rs ps k below))
                (all_between_from (step k) (AllByRecursion (Still rs f g)) (low rs k + 1) (high rs k) (λ t l u. ((still (misses k (t + 1)) named, (still (reaches k t) named, tt)), tt)))
            | inr past ↦
                subst (AllByRecursion (AllByRecursion (Still rs f g))) (sym (row_clauses_are m rs ps k past))
                (All-weaker _ _ (All-weaker _ _ (own_still past)) _ ((law row.code).own_clauses row.items rs (sits past).apt))
          ]

      pub pairings_still : AllByRecursion (StillPairing rs f g) (part_pairings m rs ps k)
      pairings_still =
          elim (cases_lt k (length rs)) [
            | inl below ↦ subst (AllByRecursion (StillPairing rs f g)) (sym (variable_pairings_are m rs ps k below)) tt
            | inr past ↦
                subst (AllByRecursion (StillPairing rs f g)) (sym (row_pairings_are m rs ps k past))
                (All-weaker _ _ (pairing_still past) _ ((law row.code).own_pairings row.items rs (sits past).apt))
          ]
