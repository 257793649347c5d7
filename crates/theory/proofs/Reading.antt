-- What satisfies the output is what gives values that meet each row. Assumes nothing.
use Rattle.std.proofs.Common.{◌≡◌, ℕ, ◌+◌, Bool, true, List, ◌++◌, length, Decides, sym, refl, ap, ◌∙◌, inl, inr, arith}
use Rattle.std.specs.List.{AllByRecursion}
use Rattle.std.proofs.ByRecursion.{All-append, All-weaker, Decides-by_and}
use Rattle.std.proofs.lemmas.Bool.{cases_Bool, cases_lt}
use Rattle.order.specs.declared.bound.Bound.{Bound}
use Rattle.order.specs.declared.literal.Literal.{Literal}
use Rattle.order.specs.declared.range.Range.{Range}
use Rattle.order.specs.Between.{joined}
use Rattle.order.specs.Bounds.{literal, literals, InRange}
use Rattle.order.specs.Literals.{truth}
use Rattle.order.specs.Orders.{step, order, orders}
use Rattle.order.specs.Ranges.{low, high}
use Rattle.order.proofs.Signs.{equal_from_same}
use Rattle.ties.specs.Roots.{root_by}
use Rattle.kinds.specs.Meaning.{Met, Respects}
use Rattle.kinds.proofs.Ranging.{all_between_from, between_all}
use Rattle.theory.specs.Truth.{some_true, all_true, through}
use Rattle.theory.specs.Values.{value, Shows, TrueBy}
use Rattle.theory.specs.Rows.{Row, LawfulRow}
use Rattle.theory.specs.Jobs.{Job, LawfulRows, tied_bounds, reduced, reduced_row, output, Solves}
use Rattle.theory.specs.Promise.{Satisfies, values, Read}
use Rattle.theory.proofs.Stretches.{all_front, all_back, all_joined, joined_all, all_both}
use Rattle.theory.proofs.Rooting.{truth_through}
use Rattle.theory.proofs.Reducing.{all_written_through}
use Rattle.theory.proofs.Order.{absent, order_says, says_order, value_above, value_below}
use Rattle.theory.proofs.Bits.{truth_literal, some_literals}

-- a clause that is true
abbrev IsTrue : (ℕ → Bool) → List Literal → Type 0
IsTrue α c = some_true α c ≡ true

each_true : (α : ℕ → Bool) (cs : List (List Literal)) → Decides (all_true α cs) (AllByRecursion (IsTrue α) cs)
each_true α cs = Decides-by_and (some_true α) (IsTrue α) (all_true α) (λ c. (λ h. h, λ h. h)) refl (λ _ _. refl) cs

-- the values that bits count are in range
pub value_in_range : (rs : List Range) (β : ℕ → Bool) → InRange rs (value rs β)
value_in_range rs β = record { above = value_above rs β; below = value_below rs β }

-- the order clauses of all variables say that the bits show values
pub orders_show : (rs : List Range) (β : ℕ → Bool) → AllByRecursion (TrueBy rs β) (orders rs) → Shows rs β (value rs β)
orders_show rs β h x = order_says rs β x (elim (cases_lt x (length rs)) [
  | inl l ↦ between_all (order rs) (TrueBy rs β) 0 (length rs) h x (omega arith) l
  | inr g ↦ let e = absent rs x g in all_between_from (step x) (TrueBy rs β) (low rs x + 1) (high rs x) (λ t l u. let n : ⊥ = omega arith in absurd n)
])

pub shows_orders : (rs : List Range) (β : ℕ → Bool) (v : ℕ → ℕ) → Shows rs β v → AllByRecursion (TrueBy rs β) (orders rs)
shows_orders rs β v s = all_between_from (order rs) (TrueBy rs β) 0 (length rs) (λ x _ _. says_order rs β x (v x) (s x))

-- clauses that the bits satisfy, and that the values do
module _ (rs : List Range) (β : ℕ → Bool) (v : ℕ → ℕ) (s : Shows rs β v) where
  pub met_by : (cs : List (List Bound)) → AllByRecursion (TrueBy rs β) cs → AllByRecursion (Met v) cs
  met_by = All-weaker (TrueBy rs β) (Met v) (λ c h. sym (some_literals rs β v s c) ∙ h)

  pub by_met : (cs : List (List Bound)) → AllByRecursion (Met v) cs → AllByRecursion (TrueBy rs β) cs
  by_met = All-weaker (Met v) (TrueBy rs β) (λ c h. some_literals rs β v s c ∙ h)

-- what is written of clauses is true as they are, through the roots
module _ (rs : List Range) (f : ℕ → Literal) (α : ℕ → Bool) where
  written_true : (c : List Bound) → TrueBy rs (through f α) c → AllByRecursion (IsTrue α) (reduced rs f c)
  written_true c h = (each_true α (reduced rs f c)).0 (all_written_through f α (literals rs c) ∙ h)

  true_written : (c : List Bound) → AllByRecursion (IsTrue α) (reduced rs f c) → TrueBy rs (through f α) c
  true_written c h = sym (all_written_through f α (literals rs c)) ∙ (each_true α (reduced rs f c)).1 h

  written_all : (cs : List (List Bound)) → AllByRecursion (TrueBy rs (through f α)) cs → AllByRecursion (IsTrue α) (joined (reduced rs f) cs)
  written_all cs h = all_joined (IsTrue α) (reduced rs f) cs (All-weaker (TrueBy rs (through f α)) (λ c. AllByRecursion (IsTrue α) (reduced rs f c)) written_true cs h)

  all_written : (cs : List (List Bound)) → AllByRecursion (IsTrue α) (joined (reduced rs f) cs) → AllByRecursion (TrueBy rs (through f α)) cs
  all_written cs h = All-weaker (λ c. AllByRecursion (IsTrue α) (reduced rs f c)) (TrueBy rs (through f α)) true_written cs (joined_all (IsTrue α) (reduced rs f) cs h)

  module _ (v : ℕ → ℕ) (s : Shows rs (through f α) v) where
    -- values that are shown through the roots keep the ties
    pub shown_respects : Respects v (tied_bounds rs f)
    shown_respects p q h =
        let roots : root_by f (literal rs p) ≡ root_by f (literal rs q) = equal_from_same _ _ h in
        sym (truth_literal rs (through f α) v s p) ∙ truth_through f α (literal rs p) ∙ ap (truth α) roots ∙ sym (truth_through f α (literal rs q)) ∙ truth_literal rs (through f α) v s q

    row_meets : InRange rs v → (w : Row) → LawfulRow rs w → AllByRecursion (IsTrue α) (reduced_row rs f w) → w.meets v ≡ true
    row_meets i w law h = elim (cases_Bool (w.spent (tied_bounds rs f))) [
      | inl e ↦ law.by_ties v (tied_bounds rs f) i shown_respects e
      | inr e ↦
          let g : AllByRecursion (IsTrue α) (joined (reduced rs f) w.clauses) = rw e at h in
          (law.by_clauses v i).1 (met_by rs (through f α) v s w.clauses (all_written w.clauses g))
    ]

    meets_row : InRange rs v → (w : Row) → LawfulRow rs w → w.meets v ≡ true → AllByRecursion (IsTrue α) (reduced_row rs f w)
    meets_row i w law h = elim (cases_Bool (w.spent (tied_bounds rs f))) [
      | inl e ↦ rw e tt
      | inr e ↦ rw e (written_all w.clauses (by_met rs (through f α) v s w.clauses ((law.by_clauses v i).0 h)))
    ]

module _ (j : Job) (f : ℕ → Literal) (laws : LawfulRows j) (α : ℕ → Bool) where
  -- what satisfies the output gives bits in order, and values that meet each row
  pub reads_from : Satisfies j f α → Read j f α
  unfolding output
  reads_from h =
      let rs : List Range = j.ranges in
      let v : ℕ → ℕ = values j f α in
      let front : List (List Literal) = joined (reduced rs f) (orders rs) in
      let back : List (List Literal) = joined (reduced_row rs f) j.rows in
      let all : AllByRecursion (IsTrue α) (front ++ back) = (each_true α (output j f)).0 h in
      let s : Shows rs (through f α) v = orders_show rs (through f α) (all_written rs f α (orders rs) (all_front (IsTrue α) front back all)) in
      let i : InRange rs v = value_in_range rs (through f α) in
      record {
        in_order = s;
        solves = record {
          in_range = i;
          meets = all_both (LawfulRow rs) (λ w. AllByRecursion (IsTrue α) (reduced_row rs f w)) (λ w. w.meets v ≡ true) (λ w. row_meets rs f α v s i w) j.rows laws (joined_all (IsTrue α) (reduced_row rs f) j.rows (all_back (IsTrue α) front back all));
        };
      }

  -- values that meet each row and are shown through the roots come of a satisfying assignment
  pub shown_satisfies : (v : ℕ → ℕ) → Shows j.ranges (through f α) v → Solves j v → Satisfies j f α
  unfolding output
  shown_satisfies v s sol =
      let rs : List Range = j.ranges in
      let front : List (List Literal) = joined (reduced rs f) (orders rs) in
      let back : List (List Literal) = joined (reduced_row rs f) j.rows in
      (each_true α (output j f)).1 (All-append (IsTrue α) front back
      (written_all rs f α (orders rs) (shows_orders rs (through f α) v s))
      (all_joined (IsTrue α) (reduced_row rs f) j.rows
      (all_both (LawfulRow rs) (λ w. w.meets v ≡ true) (λ w. AllByRecursion (IsTrue α) (reduced_row rs f w)) (λ w. meets_row rs f α v s sol.in_range w) j.rows laws sol.meets)))

  pub reads : Decides (all_true α (output j f)) (Read j f α)
  reads = (reads_from, λ d. shown_satisfies (values j f α) d.in_order d.solves)
