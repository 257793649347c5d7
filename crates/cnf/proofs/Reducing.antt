-- Which literals a clause has once false and repeats are struck out. Assumes nothing.
use Rattle.std.proofs.Common.{◌≡◌, Bool, true, false, not, ◌&&◌, ◌||◌, List, [], ◌∷◌, ◌++◌, fold, sym, refl, ap, ◌∙◌, inl, inr, arith}
use Rattle.std.proofs.lemmas.Bool.{cases_Bool, or_cases, or_left, or_right}
use Rattle.order.specs.declared.literal.Literal.{Literal}
use Rattle.order.specs.declared.literal.Literal.TheVariants.{False}
use Rattle.order.specs.Literals.{opposite, same}
use Rattle.order.proofs.Signs.{same_itself, equal_from_same, opposite_opposite, opposite_apart}
use Rattle.cnf.specs.Reduced.{has, add, struck, opposed}

pub has_append : (c d : List Literal) (l : Literal) → has (c ++ d) l ≡ (has c l || has d l)
has_append [] d l = refl
has_append (m ∷ c) d l = ap (λ b. same m l || b) (has_append c d l) ∙ regroup (same m l) (has c l) (has d l)
  where
    regroup : (a b c : Bool) → (a || (b || c)) ≡ ((a || b) || c)
    regroup a b c = grind arith

has_add : (d : List Literal) (m l : Literal) → has (add d m) l ≡ (has d l || (same m l && not (same l False)))
has_add d m l = elim (cases_Bool (same m False || has d m)) [
  | inl k ↦ rw k (elim (cases_Bool (same m l)) [
    | inr n ↦ rw n (alone (has d l))
    | inl e ↦ rw e (old (has d l) (same l False) (ap (λ x. same x False || has d x) (sym (equal_from_same m l e)) ∙ k))
  ])
  | inr k ↦ rw k (has_append d (m ∷ []) l ∙ elim (cases_Bool (same m l)) [
    | inr n ↦ rw n
    | inl e ↦ rw e (new (has d l) (same l False) (ap (λ x. same x False || has d x) (sym (equal_from_same m l e)) ∙ k))
  ])
]
  where
    alone : (b : Bool) → b ≡ (b || false)
    alone b = grind arith

    old : (a z : Bool) → (z || a) ≡ true → a ≡ (a || (true && not z))
    old a z h = grind arith

    new : (a z : Bool) → (z || a) ≡ false → (a || (true || false)) ≡ (a || (true && not z))
    new a z h = grind arith

has_folded : (d c : List Literal) (l : Literal) → has (fold add d c) l ≡ (has d l || (has c l && not (same l False)))
has_folded d [] l = alone (has d l)
  where
    alone : (b : Bool) → b ≡ (b || false)
    alone b = grind arith
has_folded d (m ∷ c) l = has_folded (add d m) c l ∙ ap (λ b. b || (has c l && not (same l False))) (has_add d m l) ∙ spread (has d l) (same m l) (has c l) (same l False)
  where
    spread : (a b c z : Bool) → ((a || (b && not z)) || (c && not z)) ≡ (a || ((b || c) && not z))
    spread a b c z = grind arith

-- the literals that are left: all but False
pub has_struck : (c : List Literal) (l : Literal) → has (struck c) l ≡ (has c l && not (same l False))
has_struck c l = has_folded [] c l

-- a clause is opposed where it has a literal and its opposite
pub opposed_has : (c : List Literal) → opposed c ≡ true → (l : Literal) × (has c l ≡ true) × (has c (opposite l) ≡ true)
opposed_has [] h = absurd (no h)
  where
    no : false ≡ true → ⊥
    no h = grind arith
opposed_has (m ∷ c) h = elim (or_cases (has c (opposite m)) (opposed c) h) [
  | inl q ↦ (m, or_left (same m m) (has c m) (same_itself m), or_right (same m (opposite m)) (has c (opposite m)) q)
  | inr q ↦ let i = opposed_has c q in (i.0, or_right (same m i.0) (has c i.0) i.1, or_right (same m (opposite i.0)) (has c (opposite i.0)) i.2)
]

pub has_opposed : (c : List Literal) (l : Literal) → has c l ≡ true → has c (opposite l) ≡ true → opposed c ≡ true
has_opposed [] l h k = h
has_opposed (m ∷ c) l h k = elim (or_cases (same m l) (has c l) h) [
  | inl e ↦ elim (or_cases (same m (opposite l)) (has c (opposite l)) k) [
    | inl g ↦ absurd (opposite_apart l (sym (equal_from_same m (opposite l) g) ∙ equal_from_same m l e))
    | inr g ↦ or_left (has c (opposite m)) (opposed c) (ap (λ x. has c (opposite x)) (equal_from_same m l e) ∙ g)
  ]
  | inr e ↦ elim (or_cases (same m (opposite l)) (has c (opposite l)) k) [
    | inl g ↦ or_left (has c (opposite m)) (opposed c) (ap (has c) (ap opposite (equal_from_same m (opposite l) g) ∙ opposite_opposite l) ∙ e)
    | inr g ↦ or_right (has c (opposite m)) (opposed c) (has_opposed c l e g)
  ]
]
