-- One pass over a clause of roots tells what is left of it. Assumes nothing.
use Rattle.std.proofs.Common.{◌≡◌, ◌≤◌, Bool, true, false, not, ◌&&◌, ◌||◌, ◌⊎◌, List, [], ◌∷◌, ◌++◌, length, sym, refl, ap, ◌∙◌, subst, inl, inr, arith}
use mathlib.Core.Bool.{false≢true}
use Rattle.std.proofs.lemmas.Bool.{cases_Bool, or_cases, or_left, or_right, both_ways}
use Rattle.order.specs.declared.literal.Literal.{Literal}
use Rattle.order.specs.declared.literal.Literal.TheVariants.{False, True}
use Rattle.order.specs.Literals.{same}
use Rattle.order.proofs.Signs.{same_tells, same_itself, equal_from_same, same_from_equal}
use Rattle.cnf.specs.Reduced.{has, struck, opposed, written}
use Rattle.cnf.proofs.Keeping.{left_out}
use Rattle.cnf.proofs.Reducing.{has_append, has_struck}
use Rattle.theory.specs.Steps.{Long}
use Rattle.theory.proofs.Settling.{among, among_from, among_struck, among_plain}

-- of the literals d at most l is left, False where none is
pub record Leaving (d : List Literal) (l : Literal) : Type 0 where
  pub each : (m : Literal) → has d m ≡ true → (m ≡ False) ⊎ (m ≡ l)
  pub held : (l ≡ False) ⊎ (has d l ≡ true)
  pub untrue : same l True ≡ false

pub leaving_none : Leaving [] False
leaving_none = record { each = λ m h. absurd (false≢true h); held = inl refl; untrue = refl }

has_last : (d : List Literal) (m l : Literal) → has (d ++ m ∷ []) l ≡ true → (has d l ≡ true) ⊎ (l ≡ m)
has_last d m l h = elim (or_cases (has d l) (has (m ∷ []) l) (sym (has_append d (m ∷ []) l) ∙ h)) [
  | inl e ↦ inl e
  | inr e ↦ inr (sym (equal_from_same m l (alone (same m l) e)))
]
  where
    alone : (b : Bool) → (b || false) ≡ true → b ≡ true
    alone b h = grind arith

has_front : (d e : List Literal) (l : Literal) → has d l ≡ true → has (d ++ e) l ≡ true
has_front d e l h = has_append d e l ∙ or_left (has d l) (has e l) h

has_here : (d e : List Literal) (m : Literal) → has (d ++ m ∷ e) m ≡ true
has_here d e m = has_append d (m ∷ e) m ∙ or_right (has d m) (has (m ∷ e) m) (or_left (same m m) (has e m) (same_itself m))

-- False, or once more what is left
pub leaving_same : (d : List Literal) (l m : Literal) → Leaving d l → (m ≡ False) ⊎ (m ≡ l) → Leaving (d ++ m ∷ []) l
leaving_same d l m h e = record {
  each = λ n q. elim (has_last d m n q) [
    | inl z ↦ h.each n z
    | inr z ↦ elim e [
      | inl y ↦ inl (z ∙ y)
      | inr y ↦ inr (z ∙ y)
    ]
  ];
  held = elim h.held [
    | inl z ↦ inl z
    | inr z ↦ inr (has_front d (m ∷ []) l z)
  ];
  untrue = h.untrue;
}

-- the first that is left
pub leaving_first : (d : List Literal) (l m : Literal) → Leaving d l → l ≡ False → same m True ≡ false → Leaving (d ++ m ∷ []) m
leaving_first d l m h e untrue = record {
  each = λ n q. elim (has_last d m n q) [
    | inl z ↦ elim (h.each n z) [
      | inl y ↦ inl y
      | inr y ↦ inl (y ∙ e)
    ]
    | inr z ↦ inr z
  ];
  held = inr (has_here d [] m);
  untrue = untrue;
}

-- a clause with True leaves enough
pub enough_true : (d e : List Literal) (m : Literal) → m ≡ True → Long (written (d ++ m ∷ e))
enough_true d e m is =
    let c = d ++ m ∷ e in
    subst Long (sym (left_out c (or_left (has c True) (opposed c) (ap (has c) (sym is) ∙ has_here d e m)))) tt

-- two that are left are enough
pub enough_two : (d e : List Literal) (l m : Literal) → Leaving d l → same l False ≡ false → same m False ≡ false → same m l ≡ false → Long (written (d ++ m ∷ e))
enough_two d e l m h l-some m-some differ =
    let c = d ++ m ∷ e in
    let has-l : has c l ≡ true = elim h.held [
      | inl z ↦ absurd (both_ways (same l False) l-some (same_from_equal l False z))
      | inr z ↦ has_front d (m ∷ e) l z
    ] in
    elim (cases_Bool (has c True || opposed c)) [
      | inl k ↦ rw k tt
      | inr k ↦ rw k (two (struck c) l m (has_struck c l ∙ ap (λ b. b && not (same l False)) has-l ∙ ap not l-some) (has_struck c m ∙ ap (λ b. b && not (same m False)) (has_here d e m) ∙ ap not m-some) differ, tt)
    ]
  where
    two : (xs : List Literal) (l m : Literal) → has xs l ≡ true → has xs m ≡ true → same m l ≡ false → 2 ≤ length xs
    two [] l m p q n = absurd (false≢true p)
    two (x ∷ []) l m p q n = absurd (both_ways (same m l) n (one x l m p q))
      where
        one : (x l m : Literal) → (same x l || false) ≡ true → (same x m || false) ≡ true → same m l ≡ true
        one x l m p q = grind (arith, same_tells)
    two (x ∷ y ∷ xs) l m p q n = omega arith

module _ (d : List Literal) (l : Literal) (h : Leaving d l) where
  whole : among l d ≡ true
  whole = among_from l d (λ m q. elim (h.each m q) [
    | inl z ↦ or_left (same m False) (same m l) (same_from_equal m False z)
    | inr z ↦ or_right (same m False) (same m l) (same_from_equal m l z)
  ])

  plain : written d ≡ struck d ∷ []
  plain = rw (among_plain l d h.untrue whole)

  -- nothing is left
  pub leaves_nothing : same l False ≡ true → written d ≡ [] ∷ []
  leaves_nothing e = plain ∙ ap (λ x. x ∷ []) (elim (among_struck l d whole) [
    | inl z ↦ z
    | inr z ↦ absurd (gone z)
  ])
    where
      gone : struck d ≡ l ∷ [] → ⊥
      gone z = no (has d l) (same l False) e (sym (has_struck d l) ∙ ap (λ x. has x l) z ∙ or_left (same l l) false (same_itself l))
        where
          no : (a z : Bool) → z ≡ true → (a && not z) ≡ true → ⊥
          no a z e h = grind arith

  -- one literal is left
  pub leaves_one : same l False ≡ false → written d ≡ (l ∷ []) ∷ []
  leaves_one n = plain ∙ ap (λ x. x ∷ []) (elim (among_struck l d whole) [
    | inl z ↦ absurd (gone z)
    | inr z ↦ z
  ])
    where
      gone : struck d ≡ [] → ⊥
      gone z = elim h.held [
        | inl y ↦ both_ways (same l False) n (same_from_equal l False y)
        | inr y ↦ no (has d l) (same l False) y n (sym (has_struck d l) ∙ ap (λ x. has x l) z)
      ]
        where
          no : (a z : Bool) → a ≡ true → z ≡ false → (a && not z) ≡ false → ⊥
          no a z p q h = grind arith
