-- Ranges by their ends, and the bits before a variable as ranges are added. Assumes nothing.
use Rattle.std.proofs.Common.{◌≡◌, ℕ, zero, suc, ◌+◌, ◌-◌, ◌<◌, ◌≤◌, true, cond, ltb, leb, List, [], ◌∷◌, ◌++◌, length, get_or, Some, None, sym, refl, ap, ◌∙◌, subst, inl, inr, add-one, arith}
use mathlib.Core.HLevel.{is_prop→PathP}
use native.Mathlib.Bridge.{le_prop}
use Rattle.std.proofs.lemmas.List.{get_or_append_left, get_or_default, get_or_past, get_or_push, length_push}
use Rattle.std.proofs.lemmas.Bool.{cases_order}
use Rattle.std.proofs.lemmas.Bool.Decides.{nat_tests}
use Rattle.order.specs.declared.range.Range.{Range}
use Rattle.order.specs.Bounds.{reach}
use Rattle.order.specs.Literals.{Literal, False, True, Bit}
use Rattle.order.specs.Ranges.{is_range, range, no_range, low, high, width, first, Placed}

-- a range is known by its ends
pub same_range : (r s : Range) → r.low ≡ s.low → r.high ≡ s.high → r ≡ s
same_range r s p q = λ i. record {
  low = p i;
  high = q i;
  ordered = is_prop→PathP (λ j. p j ≤ q j) (λ j. le_prop) r.ordered s.ordered i;
  small = is_prop→PathP (λ j. q j ≤ 255) (λ j. le_prop) r.small s.small i;
}

-- ends that pass the test
pub is_range_true : (l h : ℕ) → l ≤ h → h ≤ 255 → is_range l h ≡ true
is_range_true l h p q = grind (arith, nat_tests)

pub the_range : (r : Range) (l h : ℕ) → r.low ≡ l → r.high ≡ h → l ≤ h → h ≤ 255 → r ≡ range l h
the_range r l h p q ord small = same_range r (range l h) (p ∙ omega arith) (q ∙ omega arith)

pub some_range : (r : Range) (l h : ℕ) → r.low ≡ l → r.high ≡ h → l ≤ h → h ≤ 255 → Some r ≡ cond (is_range l h) (Some (range l h)) None
some_range r l h p q ord small =
    ap Some (the_range r l h p q ord small)
    ∙ sym (ap (λ b. cond b (Some (range l h)) None) (is_range_true l h ord small))

-- the bits before x do not change as a range is added behind it
pub first_push : (rs : List Range) (r : Range) (x : ℕ) → x ≤ length rs → first (rs ++ r ∷ []) x ≡ first rs x
first_push rs r zero h = refl
first_push rs r (suc x) h =
    let at : get_or (rs ++ r ∷ []) x no_range ≡ get_or rs x no_range = get_or_append_left rs _ no_range x (omega arith) in
    omega (arith, first_push rs r x (omega arith), ap (λ (s : Range). s.high - s.low) at)

pub first_push_all : (rs : List Range) (r : Range) → first (rs ++ r ∷ []) (length rs + 1) ≡ first rs (length rs) + (r.high - r.low)
first_push_all rs r =
    let at : get_or (rs ++ r ∷ []) (length rs) no_range ≡ r = get_or_push rs r no_range (length rs) refl in
    rw add-one (omega (arith, first_push rs r (length rs) (omega arith), ap (λ (s : Range). s.high - s.low) at))

pub placed_push : (rs : List Range) (r : Range) (bs : List ℕ) (n : ℕ) → Placed rs bs → length bs ≡ length rs → n ≡ first rs (length rs) → Placed (rs ++ r ∷ []) (bs ++ n ∷ [])
placed_push rs r bs n placed same e x lt =
    let long = length_push rs r in
    elim (cases_order x (length rs)) [
      | inl here ↦
          get_or_push bs n 0 x (omega arith) ∙ e ∙ ap (first rs) (sym here) ∙ sym (first_push rs r x (omega arith))
      | inr (inl before) ↦
          get_or_append_left bs _ 0 x (omega arith) ∙ placed x before ∙ sym (first_push rs r x (omega arith))
      | inr (inr after) ↦ absurd (omega arith)
    ]

-- the bits of a variable lie below all bits
pub first_rises : (rs : List Range) (x n : ℕ) → x < n → first rs x + width rs x ≤ first rs n
first_rises rs x zero h = absurd (omega arith)
first_rises rs x (suc n) h =
    elim (cases_order x n) [
      | inl e ↦ omega (arith, ap (first rs) e, ap (width rs) e)
      | inr (inl lt) ↦ omega (arith, first_rises rs x n lt)
      | inr (inr gt) ↦ absurd (omega arith)
    ]

-- what is read at x is the number of bits before x, and the range of x
-- a variable that is not there reaches nothing above 0
pub reach_absent : (rs : List Range) (x t : ℕ) → length rs ≤ x → 0 < t → False ≡ reach rs x t
reach_absent rs x t past some =
    let e : get_or rs x no_range ≡ no_range = get_or_past rs x no_range past in
    let l : low rs x ≡ 0 = ap (λ (r : Range). r.low) e in
    let h : high rs x ≡ 0 = ap (λ (r : Range). r.high) e in
    grind (arith, nat_tests)

pub entry_before : (rs : List Range) (bs : List ℕ) (x n : ℕ) → Placed rs bs → length bs ≡ length rs → x < length rs → n ≡ get_or bs x n → n ≡ first rs x
entry_before rs bs x n placed same lt e = e ∙ get_or_default bs x n 0 (omega arith) ∙ placed x lt

pub reach_bit : (rs : List Range) (x t n l : ℕ) (r : Range) → n ≡ first rs x → r ≡ get_or rs x no_range → l ≡ r.low → l < t → t ≤ r.high → Bit (n + (t - l)) ≡ reach rs x t
reach_bit rs x t n l r before whole e above below =
    let lo : r.low ≡ low rs x = ap (λ (s : Range). s.low) whole in
    let hi : r.high ≡ high rs x = ap (λ (s : Range). s.high) whole in
    let same : n + (t - l) ≡ first rs x + (t - low rs x) = omega arith in
    ap Bit same ∙ reached (low rs x) (high rs x) t _ True False (omega arith) (omega arith)
  where
    reached : (a b t : ℕ) (l m o : Literal) → a < t → t ≤ b → l ≡ cond (leb t a) m (cond (ltb b t) o l)
    reached a b t l m o p q = grind (arith, nat_tests)

-- the same in the lists that a push leaves
pub counted_push : (rs rs' : List Range) (r : Range) (n m k : ℕ) → rs' ≡ rs ++ r ∷ [] → n ≡ first rs (length rs) → k ≡ length rs + 1 → m ≡ n + (r.high - r.low) → m ≡ first rs' k
counted_push rs rs' r n m k e c long more =
    omega (arith, first_push_all rs r) ∙ sym (ap (first (rs ++ r ∷ [])) long) ∙ sym (ap (λ s. first s k) e)

pub placed_pushed : (rs rs' : List Range) (bs bs' : List ℕ) (r : Range) (n : ℕ) → rs' ≡ rs ++ r ∷ [] → bs' ≡ bs ++ n ∷ [] → Placed rs bs → length bs ≡ length rs → n ≡ first rs (length rs) → Placed rs' bs'
placed_pushed rs rs' bs bs' r n e f placed same c =
    subst (λ x. Placed x bs') (sym e) (subst (Placed (rs ++ r ∷ [])) (sym f) (placed_push rs r bs n placed same c))
