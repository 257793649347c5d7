-- More bits, tied to nothing. Assumes nothing.
use Rattle.std.proofs.Common.{◌≡◌, ℕ, zero, suc, ◌+◌, true, List, [], ◌∷◌, ◌++◌, length, sym, refl, ap, ◌∙◌, subst, inl, inr, add-one, arith}
use Rattle.std.proofs.lemmas.List.{get_or_append_left, get_or_past, get_or_push, length_push}
use Rattle.std.proofs.lemmas.Bool.{cases_order}
use Rattle.order.specs.declared.literal.Literal.{Literal}
use Rattle.order.specs.declared.literal.Literal.TheVariants.{Bit}
use Rattle.ties.specs.Roots.{root_at, own, free, free_to, Grown}
use Rattle.order.proofs.Signs.{same_from_equal}
use Rattle.ties.proofs.Counts.{one_if}

module _ (rs : List Literal) where
  root_at_push : (n : ℕ) → root_at (rs ++ Bit (length rs + 1) ∷ []) n ≡ root_at rs n
  root_at_push zero = refl
  root_at_push (suc n) =
      elim (cases_order n (length rs)) [
        | inl e ↦
            get_or_push rs (Bit (length rs + 1)) (Bit (suc n)) n (sym e)
            ∙ ap Bit (omega arith)
            ∙ sym (get_or_past rs n (Bit (suc n)) (omega arith))
        | inr (inl lt) ↦ get_or_append_left rs _ (Bit (suc n)) n lt
        | inr (inr gt) ↦
            get_or_past (rs ++ Bit (length rs + 1) ∷ []) n (Bit (suc n)) (omega (arith, length_push rs (Bit (length rs + 1))))
            ∙ sym (get_or_past rs n (Bit (suc n)) (omega arith))
      ]

  roots_push : root_at (rs ++ Bit (length rs + 1) ∷ []) ≡ root_at rs
  roots_push = λ i n. root_at_push n i

  own_push : own (root_at rs) (suc (length rs)) ≡ true
  own_push = same_from_equal _ _ (get_or_past rs (length rs) (Bit (suc (length rs))) (omega arith))

  free_push : free (rs ++ Bit (length rs + 1) ∷ []) ≡ free rs + 1
  free_push =
      let longer = ap (free_to (root_at rs)) (length_push rs (Bit (length rs + 1)) ∙ add-one (length rs)) in
      let alike = ap (λ f. free_to f (length (rs ++ Bit (length rs + 1) ∷ []))) roots_push in
      omega (arith, alike, longer, ap one_if own_push)

  pub grown_push : (rs' : List Literal) (m : ℕ) → rs' ≡ rs ++ Bit m ∷ [] → m ≡ length rs + 1 → Grown rs 1 rs'
  grown_push rs' m e k =
      subst (Grown rs 1) (sym (e ∙ ap (λ n. rs ++ Bit n ∷ []) k))
      (record { long = length_push rs _; roots = roots_push; freed = free_push })

pub grown_more : {rs rs' rs'' : List Literal} {n : ℕ} → Grown rs n rs' → Grown rs' 1 rs'' → Grown rs (n + 1) rs''
grown_more g h = record {
  long = omega (arith, g.long, h.long);
  roots = h.roots ∙ g.roots;
  freed = omega (arith, g.freed, h.freed);
}

pub grown_all : {os rs rs' : List Literal} {k n : ℕ} → Grown rs k rs' → rs ≡ os → k ≡ n → Grown os n rs'
grown_all g e h = rw (h, e) at g
