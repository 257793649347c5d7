-- What is written of a clause is satisfied as the clause is. Assumes nothing.
use Rattle.std.proofs.Common.{◌≡◌, ℕ, Bool, true, false, not, ◌&&◌, ◌||◌, List, [], ◌∷◌, ◌++◌, map, fold, sym, refl, ap, ◌∙◌, inl, inr, arith}
use Rattle.std.proofs.lemmas.Bool.{false≢true, cases_Bool, or_cases, or_left, or_right}
use Rattle.order.specs.declared.literal.Literal.{Literal}
use Rattle.order.specs.declared.literal.Literal.TheVariants.{False, True}
use Rattle.order.specs.Literals.{opposite, same, truth}
use Rattle.order.proofs.Signs.{equal_from_same, truth_opposite}
use Rattle.ties.specs.Roots.{root_by}
use Rattle.cnf.specs.Reduced.{has, add, struck, opposed, written}
use Rattle.theory.specs.Truth.{some_true, all_true, through}
use Rattle.theory.proofs.Rooting.{some_through}

module _ (α : ℕ → Bool) where
  -- a clause with a true literal is true
  pub some_from_has : (c : List Literal) (l : Literal) → has c l ≡ true → truth α l ≡ true → some_true α c ≡ true
  some_from_has (m ∷ c) l h t = elim (or_cases (same m l) (has c l) h) [
    | inl e ↦ or_left (truth α m) (some_true α c) (ap (truth α) (equal_from_same m l e) ∙ t)
    | inr g ↦ or_right (truth α m) (some_true α c) (some_from_has c l g t)
  ]
  some_from_has [] l h t = h

  some_append : (c d : List Literal) → some_true α (c ++ d) ≡ (some_true α c || some_true α d)
  some_append [] d = refl
  some_append (l ∷ c) d = ap (λ b. truth α l || b) (some_append c d) ∙ regroup (truth α l) (some_true α c) (some_true α d)
    where
      regroup : (a b c : Bool) → (a || (b || c)) ≡ ((a || b) || c)
      regroup a b c = grind arith

  some_add : (d : List Literal) (l : Literal) → some_true α (add d l) ≡ (some_true α d || truth α l)
  some_add d l = elim (cases_Bool (same l False || has d l)) [
    | inr k ↦ rw k (some_append d (l ∷ []) ∙ ap (λ b. some_true α d || b) (alone (truth α l)))
    | inl k ↦ rw k (elim (or_cases (same l False) (has d l) k) [
      | inl e ↦ let t : truth α l ≡ false = ap (truth α) (equal_from_same l False e) in rw t (sym (alone (some_true α d)))
      | inr h ↦ covered (truth α l) (some_true α d) (some_from_has d l h)
    ])
  ]
    where
      alone : (b : Bool) → (b || false) ≡ b
      alone b = grind arith

      covered : (t s : Bool) → (t ≡ true → s ≡ true) → s ≡ (s || t)
      covered t s g = grind arith

  some_folded : (d c : List Literal) → some_true α (fold add d c) ≡ (some_true α d || some_true α c)
  some_folded d [] = alone (some_true α d)
    where
      alone : (b : Bool) → b ≡ (b || false)
      alone b = grind arith
  some_folded d (l ∷ c) = some_folded (add d l) c ∙ ap (λ b. b || some_true α c) (some_add d l) ∙ regroup (some_true α d) (truth α l) (some_true α c)
    where
      regroup : (a b c : Bool) → ((a || b) || c) ≡ (a || (b || c))
      regroup a b c = grind arith

  -- nothing is lost where False and repeats are struck out
  pub some_struck : (c : List Literal) → some_true α (struck c) ≡ some_true α c
  some_struck c = some_folded [] c

  -- a clause with a literal and its opposite is true
  pub some_opposed : (c : List Literal) → opposed c ≡ true → some_true α c ≡ true
  some_opposed [] h = absurd (false≢true h)
  some_opposed (l ∷ c) h = elim (or_cases (has c (opposite l)) (opposed c) h) [
    | inr g ↦ or_right (truth α l) (some_true α c) (some_opposed c g)
    | inl g ↦ either (truth α l) (truth α (opposite l)) (some_true α c) (truth_opposite α l) (some_from_has c (opposite l) g)
  ]
    where
      either : (t n s : Bool) → n ≡ not t → (n ≡ true → s ≡ true) → (t || s) ≡ true
      either t n s e g = grind arith

  -- what is written of a clause is true as the clause is
  pub all_written : (c : List Literal) → all_true α (written c) ≡ some_true α c
  all_written c = elim (cases_Bool (has c True || opposed c)) [
    | inl k ↦ rw k (sym (elim (or_cases (has c True) (opposed c) k) [
      | inl h ↦ some_from_has c True h refl
      | inr h ↦ some_opposed c h
    ]))
    | inr k ↦ rw k (alone (some_true α (struck c)) ∙ some_struck c)
  ]
    where
      alone : (b : Bool) → (b && true) ≡ b
      alone b = grind arith

-- through the roots, a clause is true as what is written of its roots
pub all_written_through : (f : ℕ → Literal) (α : ℕ → Bool) (c : List Literal) → all_true α (written (map (root_by f) c)) ≡ some_true (through f α) c
all_written_through f α c = all_written α (map (root_by f) c) ∙ sym (some_through f α c)
