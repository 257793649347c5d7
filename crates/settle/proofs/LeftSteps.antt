-- Steps of a pass over a clause, of which l is left before place i. Assumes nothing.
use Rattle.std.proofs.Common.{◌≡◌, ℕ, zero, suc, ◌+◌, ◌<◌, ◌≤◌, List, [], ◌∷◌, ◌++◌, length, get_or, take, drop, Some, None, sym, refl, ap, ◌∙◌, subst, inl, inr, arith}
use Rattle.std.proofs.lemmas.List.{take_all, take_more}
use Rattle.order.specs.declared.bound.Bound.{Bound}
use Rattle.order.specs.declared.literal.Literal.{Literal}
use Rattle.order.specs.declared.literal.Literal.TheVariants.{False}
use Rattle.order.specs.declared.range.Range.{Range}
use Rattle.order.specs.Bounds.{literal}
use Rattle.order.proofs.Signs.{same_from_equal, same_tells}
use Rattle.ties.specs.Roots.{root_by}
use Rattle.cnf.specs.Numbered.{rooted}
use Rattle.cnf.specs.Reduced.{written}
use Rattle.cnf.proofs.Rooting.{length_rooted, rooted_at}
use Rattle.theory.specs.Jobs.{reduced}
use Rattle.theory.specs.Steps.{Long}
use Rattle.theory.proofs.Leaving.{Leaving, leaving_same, leaving_first, enough_true, enough_two, leaves_nothing, leaves_one}
use Rattle.settle.specs.GoesOn.{GoesOn}

cut : (c : List Literal) (i : ℕ) (d : Literal) → i < length c → c ≡ take i c ++ get_or c i d ∷ drop (suc i) c
cut [] i d h = absurd (omega arith)
cut (l ∷ c) zero d h = refl
cut (l ∷ c) (suc i) d h = ap (λ x. l ∷ x) (cut c i d (omega arith))

module _ (rs : List Range) (f : ℕ → Literal) (c : List Bound) (i : ℕ) (l : Literal) (left : Leaving (take i (rooted rs f c)) l) where
  abbrev roots : List Literal
  roots = rooted rs f c

  -- the root m of the bound at place i
  module _ (b : Bound) (m : Literal) (lt : i < length c) (is : m ≡ root_by f (literal rs (get_or c i b))) where
    inside : i < length roots
    inside = omega (arith, length_rooted rs f c)

    here : m ≡ get_or roots i False
    here = rooted_at rs f c i b False _ m lt refl is

    apart : roots ≡ take i roots ++ m ∷ drop (suc i) roots
    apart = cut roots i False inside ∙ ap (λ x. take i roots ++ x ∷ drop (suc i) roots) (sym here)

    more : take (i + 1) roots ≡ take i roots ++ m ∷ []
    more = take_more roots i False inside ∙ ap (λ x. take i roots ++ x ∷ []) (sym here)

    pub goes_on : (k : Literal) → GoesOn (Some k) l m → Leaving (take (i + 1) roots) k
    goes_on k h = elim h [
      | inl e ↦ rw (more, e.0) (leaving_same (take i roots) l m left e.1)
      | inr e ↦ rw (more, e.0) (leaving_first (take i roots) l m left e.1 e.2)
    ]

    pub is_enough : GoesOn None l m → Long (reduced rs f c)
    is_enough h = elim h [
      | inl e ↦ subst (λ x. Long (written x)) (sym apart) (enough_true (take i roots) (drop (suc i) roots) m e)
      | inr e ↦ subst (λ x. Long (written x)) (sym apart) (enough_two (take i roots) (drop (suc i) roots) l m left e.0 e.1 e.2)
    ]

  -- the pass is over
  module _ (end : length c ≤ i) where
    whole : Leaving roots l
    whole = subst (λ x. Leaving x l) (take_all i roots (omega (arith, length_rooted rs f c))) left

    pub nothing_left : l ≡ False → reduced rs f c ≡ [] ∷ []
    nothing_left e = leaves_nothing roots l whole (same_from_equal l False e)

    pub one_left : (l ≡ False → ⊥) → reduced rs f c ≡ (l ∷ []) ∷ []
    one_left n = elim (same_tells l False) [
      | inl e ↦ absurd (n e.1)
      | inr e ↦ leaves_one roots l whole e.0
    ]
