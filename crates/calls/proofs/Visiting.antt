-- A visitor is shown the clauses to be written, row after row. Assumes nothing.
use Rattle.std.proofs.Common.{◌≡◌, ℕ, ◌+◌, ◌<◌, ◌≤◌, Bool, true, false, cond, List, [], length, take, sym, ◌∙◌, subst}
use Rattle.std.proofs.lemmas.List.{take_all}
use Rattle.order.specs.declared.bound.Bound.{Bound}
use Rattle.order.specs.declared.literal.Literal.{Literal}
use Rattle.order.specs.declared.range.Range.{Range}
use Rattle.order.specs.Between.{joined}
use Rattle.order.specs.Orders.{orders}
use Rattle.order.specs.Visits.{After}
use Rattle.order.proofs.Visiting.{after_join}
use Rattle.kinds.specs.declared.item.Item.{Item}
use Rattle.kinds.specs.Meaning.{Meaning}
use Rattle.rows.specs.Rows.{Posted, posted}
use Rattle.theory.specs.Jobs.{tied_bounds}
use Rattle.theory.proofs.Stretches.{joined_more}
use Rattle.calls.specs.Writes.{row_clauses, clauses_of}

module _ {S : Type 0} (step : S → List Bound → S → Type 0) (m : ℕ → Meaning) (rs : List Range) (f : ℕ → Literal) where
  -- one row, by what was read of it: it is spent, or its clauses were shown
  module _ (p : Posted) (code : ℕ) (items : List Item) (is_code : code ≡ p.code) (is-items : items ≡ p.items) where
    spent_same : (b : Bool) (ranges : List Range) → ranges ≡ rs → (m code).spends items ranges (tied_bounds rs f) ≡ b → (m p.code).spends p.items rs (tied_bounds rs f) ≡ b
    spent_same b ranges is e = sym (λ i. (m (is_code i)).spends (is-items i) (is i) (tied_bounds rs f)) ∙ e

    pub row_spent : (ranges : List Range) (s t : S) → ranges ≡ rs → (m code).spends items ranges (tied_bounds rs f) ≡ true → s ≡ t → After step s (row_clauses m rs f p) t
    row_spent ranges s t is e same =
        subst (λ b. After step s (cond b [] ((m p.code).clauses p.items rs)) t) (sym (spent_same true ranges is e)) same

    pub row_shown : (ranges again : List Range) (s t : S) → ranges ≡ rs → again ≡ rs → (m code).spends items ranges (tied_bounds rs f) ≡ false → After step s ((m code).clauses items again) t → After step s (row_clauses m rs f p) t
    row_shown ranges again s t is is-again e shown =
        subst (λ b. After step s (cond b [] ((m p.code).clauses p.items rs)) t) (sym (spent_same false ranges is e))
        (subst (λ cs. After step s cs t) (λ i. (m (is_code i)).clauses (is-items i) (is-again i)) shown)

  -- a loop's turn, and its end
  pub rows_more : (ps : List Posted) (i : ℕ) (s t u : S) → i < length ps → After step s (joined (row_clauses m rs f) (take i ps)) t → After step t (row_clauses m rs f (posted ps i)) u → After step s (joined (row_clauses m rs f) (take (i + 1) ps)) u
  rows_more ps i s t u h k one =
      subst (λ cs. After step s cs u) (sym (joined_more (row_clauses m rs f) ps i (record { code = 0; items = [] }) h))
      (after_join step (joined (row_clauses m rs f) (take i ps)) (row_clauses m rs f (posted ps i)) s t u k one)

  pub rows_all : (ps : List Posted) (i : ℕ) (s t u : S) → length ps ≤ i → After step s (orders rs) t → After step t (joined (row_clauses m rs f) (take i ps)) u → After step s (clauses_of m rs f ps) u
  rows_all ps i s t u h k all =
      after_join step (orders rs) (joined (row_clauses m rs f) ps) s t u k
      (subst (λ qs. After step t (joined (row_clauses m rs f) qs) u) (take_all i ps h) all)
