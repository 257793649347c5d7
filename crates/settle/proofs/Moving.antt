-- Bounds of a variable, of a row or of a part keep their roots where those at its thresholds do. Assumes nothing.
use Rattle.std.proofs.Common.{◌≡◌, ℕ, suc, ◌+◌, ◌-◌, ◌<◌, ◌≤◌, Bool, true, false, not, ltb, leb, List, [], ◌∷◌, length, get_or, sym, ap, ◌∙◌, subst, inl, inr, true≢false, arith}
use Rattle.std.specs.List.{list_any, range_with_len}
use Rattle.std.proofs.lemmas.Bool.{cases_lt, cond-true, cond-false, cond_both, le-leb, lt-leb, lt-ltb, or_cases, eqb-true, cases_Bool, false≢true}
use Rattle.std.proofs.lemmas.List.Folds.{list_any_at}
use Rattle.std.proofs.lemmas.List.FromFn.{get_or-range_with_len, length-range_with_len}
use Rattle.order.specs.declared.bound.Bound.{Bound}
use Rattle.order.specs.declared.literal.Literal.{Literal}
use Rattle.order.specs.declared.literal.Literal.TheVariants.{False, True}
use Rattle.order.specs.declared.range.Range.{Range}
use Rattle.order.specs.Bounds.{literal, reach, reaches}
use Rattle.order.specs.Literals.{opposite, same}
use Rattle.order.specs.Ranges.{low, high}
use Rattle.order.specs.contracts.literal.LiteralPartialEq.TheImpl.{eq-value}
use Rattle.order.proofs.Signs.{eq_same, equal_from_same}
use Rattle.ties.specs.Roots.{root_by}
use Rattle.ties.proofs.Equivalences.{root_by_opposite}
use Rattle.kinds.specs.declared.item.Item.{Item}
use Rattle.kinds.specs.Items.{var, names, variable_of}
use Rattle.kinds.proofs.Rows.{range_ordered}
use Rattle.theory.specs.Rounds.{Still}

module _ (rs : List Range) (f g : ℕ → Literal) where
  -- whether X(t) has two roots
  abbrev pub parts_at : ℕ → ℕ → Bool
  parts_at x t = not (eq-value.it (root_by f (literal rs (reaches x t))) (root_by g (literal rs (reaches x t))))

  -- where no threshold of a stretch has
  pub still_between : (x a n : ℕ) → list_any (parts_at x) (range_with_len a n) ≡ false → (t : ℕ) → a ≤ t → t < a + n → Still rs f g (reaches x t)
  still_between x a n none t le lt =
      elim (cases_Bool (same (root_by f (literal rs (reaches x t))) (root_by g (literal rs (reaches x t))))) [
        | inl e ↦ equal_from_same _ _ e
        | inr e ↦
            let here : get_or (range_with_len a n) (t - a) 0 ≡ t = get_or-range_with_len a n (t - a) 0 (omega arith) ∙ omega arith in
            absurd (true≢false (sym (list_any_at (parts_at x) (range_with_len a n) (t - a) 0 (omega (arith, length-range_with_len a n)) (ap (parts_at x) here ∙ ap not (eq_same (root_by f (literal rs (reaches x t))) (root_by g (literal rs (reaches x t))) ∙ e))) ∙ none))
      ]

  module _ (x : ℕ) (each : (t : ℕ) → t < high rs x + 1 → low rs x ≤ t → Still rs f g (reaches x t)) where
    still_reach : (t : ℕ) → Still rs f g (reaches x t)
    still_reach t =
        elim (cases_lt t (low rs x)) [
          | inl below ↦ let e = cond-true (leb t (low rs x)) True _ (le-leb t (low rs x) (omega arith)) in ap (root_by f) e ∙ ap (root_by g) (sym e)
          | inr above ↦ elim (cases_lt (high rs x) t) [
            | inl past ↦
                let e = cond-false (leb t (low rs x)) True _ (lt-leb t (low rs x) (omega (arith, range_ordered rs x))) ∙ cond-true (ltb (high rs x) t) False _ (lt-ltb (high rs x) t past) in
                ap (root_by f) e ∙ ap (root_by g) (sym e)
            | inr within ↦ each t (omega arith) above
          ]
        ]

    pub still_variable : (b : Bound) → b.variable ≡ x → Still rs f g b
    still_variable b e =
        let here : root_by f (reach rs b.variable b.at) ≡ root_by g (reach rs b.variable b.at) = subst (λ y. root_by f (reach rs y b.at) ≡ root_by g (reach rs y b.at)) (sym e) (still_reach b.at) in
        cond_both b.opposed _ _ (λ l. root_by f l ≡ root_by g l)
        (λ _. root_by_opposite f (reach rs b.variable b.at) ∙ ap opposite here ∙ sym (root_by_opposite g (reach rs b.variable b.at)))
        (λ _. here)

-- a variable that a row names stands at a place of it
pub named_at : (items : List Item) (x : ℕ) → names items x ≡ true → (k : ℕ) × (k < length items) × (x ≡ var items k)
named_at [] x h = absurd (false≢true h)
named_at (i ∷ items) x h =
    elim (or_cases _ (names items x) h) [
      | inl here ↦ (0, omega arith, sym (eqb-true (variable_of i) x here))
      | inr later ↦ let k = named_at items x later in (suc k.0, omega (arith, k.1), k.2)
    ]
