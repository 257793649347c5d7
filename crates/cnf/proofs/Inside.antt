-- The literals of a job, and their roots, are constants or bits of the job. Assumes nothing.
use Rattle.std.proofs.Common.{◌≡◌, ℕ, ◌+◌, ◌-◌, ◌<◌, ◌≤◌, true, false, cond, ◌||◌, ltb, leb, List, [], ◌∷◌, ◌++◌, length, fold, sym, refl, ap, ◌∙◌, inl, inr, arith}
use Rattle.std.proofs.lemmas.List.{get_or_past}
use Rattle.std.proofs.lemmas.Bool.{and_from, and_parts, cases_Bool, cases_lt, ltb-false}
use Rattle.std.proofs.lemmas.Bool.Decides.{nat_tests}
use Rattle.order.specs.declared.bound.Bound.{Bound}
use Rattle.order.specs.declared.literal.Literal.{Literal}
use Rattle.order.specs.declared.literal.Literal.TheVariants.{False, True, Bit, Not}
use Rattle.order.specs.declared.range.Range.{Range}
use Rattle.order.specs.Bounds.{reach, literal}
use Rattle.order.specs.Literals.{opposite, same}
use Rattle.order.specs.Ranges.{low, high, first, total_bits, no_range}
use Rattle.order.proofs.Ranging.{first_rises}
use Rattle.ties.specs.Roots.{root_by, there, Named}
use Rattle.cnf.specs.Numbered.{all_there, rooted}
use Rattle.cnf.specs.Reduced.{has, add, struck, opposed, written}

pub there_opposite : (n : ℕ) (l : Literal) → there n (opposite l) ≡ there n l
there_opposite n False = refl
there_opposite n True = refl
there_opposite n (Bit m) = refl
there_opposite n (Not m) = refl

there_bit : (n m : ℕ) → 0 < m → m ≤ n → there n (Bit m) ≡ true
there_bit n m some within = grind (arith, nat_tests)

bit_there : (n m : ℕ) → there n (Bit m) ≡ true → (0 < m) × (m ≤ n)
bit_there n m h = grind (arith, nat_tests)

-- a bit of a variable lies below all bits
bits_below : (rs : List Range) (x t : ℕ) → low rs x < t → t ≤ high rs x → first rs x + (t - low rs x) ≤ total_bits rs
bits_below rs x t above below =
    elim (cases_lt x (length rs)) [
      | inl lt ↦ omega (arith, first_rises rs x (length rs) lt)
      | inr ge ↦
          let e = get_or_past rs x no_range ge in
          let l : low rs x ≡ 0 = ap (λ (r : Range). r.low) e in
          let h : high rs x ≡ 0 = ap (λ (r : Range). r.high) e in
          absurd (omega arith)
    ]

reach_there : (rs : List Range) (x t : ℕ) → there (total_bits rs) (reach rs x t) ≡ true
reach_there rs x t =
    elim (cases_Bool (leb t (low rs x))) [
      | inl below ↦ ap (λ b. there (total_bits rs) (cond b True (cond (ltb (high rs x) t) False (Bit (first rs x + (t - low rs x)))))) below
      | inr above ↦
          ap (λ b. there (total_bits rs) (cond b True (cond (ltb (high rs x) t) False (Bit (first rs x + (t - low rs x)))))) above
          ∙ elim (cases_Bool (ltb (high rs x) t)) [
            | inl past ↦ ap (λ b. there (total_bits rs) (cond b False (Bit (first rs x + (t - low rs x))))) past
            | inr inside ↦
                let over : low rs x < t = not_leb t (low rs x) above in
                ap (λ b. there (total_bits rs) (cond b False (Bit (first rs x + (t - low rs x))))) inside
                ∙ there_bit (total_bits rs) (first rs x + (t - low rs x)) (omega arith) (bits_below rs x t over (ltb-false (high rs x) t inside))
          ]
    ]
  where
    not_leb : (a b : ℕ) → leb a b ≡ false → b < a
    not_leb a b h = grind (arith, nat_tests)

pub literal_there : (rs : List Range) (b : Bound) → there (total_bits rs) (literal rs b) ≡ true
literal_there rs b =
    elim (cases_Bool b.opposed) [
      | inl o ↦ ap (λ s. there (total_bits rs) (cond s (opposite (reach rs b.variable b.at)) (reach rs b.variable b.at))) o ∙ there_opposite (total_bits rs) (reach rs b.variable b.at) ∙ reach_there rs b.variable b.at
      | inr o ↦ ap (λ s. there (total_bits rs) (cond s (opposite (reach rs b.variable b.at)) (reach rs b.variable b.at))) o ∙ reach_there rs b.variable b.at
    ]

there_more : (m n : ℕ) (l : Literal) → m ≤ n → there m l ≡ true → there n l ≡ true
there_more m n False h e = refl
there_more m n True h e = refl
there_more m n (Bit k) h e = let p = bit_there m k e in there_bit n k p.0 (omega arith)
there_more m n (Not k) h e = let p = bit_there m k e in there_bit n k p.0 (omega arith)

-- a root is there with its literal
pub root_there : (f : ℕ → Literal) → Named f → (n : ℕ) (l : Literal) → there n l ≡ true → there n (root_by f l) ≡ true
root_there f named n False h = refl
root_there f named n True h = refl
root_there f named n (Bit m) h = let p = bit_there n m h in there_more m n (f m) p.1 (named m p.0)
root_there f named n (Not m) h = there_opposite n (f m) ∙ (let p = bit_there n m h in there_more m n (f m) p.1 (named m p.0))

pub rooted_there : (rs : List Range) (f : ℕ → Literal) → Named f → (c : List Bound) → all_there (total_bits rs) (rooted rs f c) ≡ true
rooted_there rs f named [] = refl
rooted_there rs f named (b ∷ c) =
    and_from (there (total_bits rs) (root_by f (literal rs b))) (all_there (total_bits rs) (rooted rs f c))
    (root_there f named (total_bits rs) (literal rs b) (literal_there rs b)) (rooted_there rs f named c)

all_there_push : (n : ℕ) (d : List Literal) (l : Literal) → all_there n d ≡ true → there n l ≡ true → all_there n (d ++ l ∷ []) ≡ true
all_there_push n [] l h k = and_from (there n l) true k refl
all_there_push n (m ∷ d) l h k =
    let p = and_parts (there n m) (all_there n d) h in
    and_from (there n m) (all_there n (d ++ l ∷ [])) p.0 (all_there_push n d l p.1 k)

all_there_add : (n : ℕ) (d : List Literal) (l : Literal) → all_there n d ≡ true → there n l ≡ true → all_there n (add d l) ≡ true
all_there_add n d l h k =
    elim (cases_Bool (same l False || has d l)) [
      | inl e ↦ ap (λ b. all_there n (cond b d (d ++ l ∷ []))) e ∙ h
      | inr e ↦ ap (λ b. all_there n (cond b d (d ++ l ∷ []))) e ∙ all_there_push n d l h k
    ]

-- what is left of a clause is there too
pub struck_there : (n : ℕ) (d c : List Literal) → all_there n d ≡ true → all_there n c ≡ true → all_there n (fold add d c) ≡ true
struck_there n d [] h k = h
struck_there n d (l ∷ c) h k =
    let p = and_parts (there n l) (all_there n c) k in
    struck_there n (add d l) c (all_there_add n d l h p.0) p.1

-- a clause that is written is the clause with false and repeats struck out
pub written_is : (c d : List Literal) → written c ≡ d ∷ [] → d ≡ struck c
written_is c d h = elim (cases_Bool (has c True || opposed c)) [
  | inl e ↦ absurd (none (sym (ap (λ b. cond b [] (struck c ∷ [])) e) ∙ h))
  | inr e ↦ sym (head (sym (ap (λ b. cond b [] (struck c ∷ [])) e) ∙ h))
]
  where
    none : {X : Type 0} {x : X} {xs : List X} → [] ≡ x ∷ xs → ⊥
    none {X} {x} {xs} e = let z : ◌≡◌ {A = ℕ} 0 1 = cc in omega arith

    head : {X : Type 0} {x y : X} → x ∷ [] ≡ y ∷ [] → x ≡ y
    head e = cc

-- what is written of a clause of bounds has only bits of the job
pub kept_there : (rs : List Range) (f : ℕ → Literal) → Named f → (c : List Bound) (d : List Literal) (n : ℕ) → n ≡ total_bits rs → written (rooted rs f c) ≡ d ∷ [] → all_there n d ≡ true
kept_there rs f named c d n e h =
    ap (λ m. all_there m d) e ∙ ap (all_there (total_bits rs)) (written_is (rooted rs f c) d h)
    ∙ struck_there (total_bits rs) [] (rooted rs f c) refl (rooted_there rs f named c)
