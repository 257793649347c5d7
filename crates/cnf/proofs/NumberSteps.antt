-- Numbering the free bits, place by place. Assumes nothing.
use Rattle.std.proofs.Common.{◌≡◌, ℕ, zero, suc, ◌+◌, ◌<◌, ◌≤◌, Bool, true, false, cond, List, [], ◌∷◌, ◌++◌, length, get_or, sym, refl, ap, ◌∙◌, inl, inr, arith, lit≤}
use mir.Val.{bool_byte as from_bool}
use Rattle.std.proofs.lemmas.List.{get_or_append_left, get_or_push, length_push}
use Rattle.std.proofs.lemmas.Bool.{and_parts, cases_order}
use Rattle.order.specs.declared.literal.Literal.{Literal}
use Rattle.order.specs.declared.literal.Literal.TheVariants.{Bit}
use Rattle.order.specs.Literals.{same}
use Rattle.ties.specs.Roots.{free_to, own, there}
use Rattle.cnf.specs.Numbered.{Numbers, all_there}

-- the numbers of the first bits, and how many of these are free
pub record Numbered (f : ℕ → Literal) (ns : List ℕ) (n : ℕ) : Type 0 where
  pub numbers : Numbers f ns
  pub free : n ≡ free_to f (length ns)

one_more : (b : Bool) → (from_bool b ≡ cond b 1 0) × (from_bool b ≤ 1)
one_more true = (refl, lit≤ tt)
one_more false = (refl, lit≤ tt)

pub free_few : (f : ℕ → Literal) (n : ℕ) → free_to f n ≤ n
free_few f zero = lit≤ tt
free_few f (suc n) = omega (arith, one_more (own f (suc n)), free_few f n)

numbers_push : (f : ℕ → Literal) (ns : List ℕ) (x : ℕ) → Numbers f ns → x ≡ free_to f (suc (length ns)) → Numbers f (ns ++ x ∷ [])
numbers_push f ns x all e n lt =
    elim (cases_order n (length ns)) [
      | inl here ↦ get_or_push ns x 0 n (sym here) ∙ e ∙ ap (λ k. free_to f (suc k)) (sym here)
      | inr (inl before) ↦ get_or_append_left ns _ 0 n before ∙ all n before
      | inr (inr after) ↦ absurd (omega (arith, length_push ns x))
    ]

-- one bit more
pub numbered_more : (f : ℕ → Literal) (ns : List ℕ) (n m k : ℕ) (t : Bool) (r : Literal) → Numbered f ns n → length ns + 1 ≡ k → r ≡ f k → t ≡ same r (Bit k) → m ≡ from_bool t → (m ≤ 1) × Numbered f (ns ++ (n + m) ∷ []) (n + m)
numbered_more f ns n m k t r old at er et em =
    let place : k ≡ suc (length ns) = omega arith in
    let test : own f (suc (length ns)) ≡ t = ap (own f) (sym place) ∙ ap (λ x. same x (Bit k)) (sym er) ∙ sym et in
    let more : n + m ≡ free_to f (suc (length ns)) = omega (arith, old.free, em, one_more t, ap from_bool test, one_more (own f (suc (length ns)))) in
    let long : suc (length ns) ≡ length (ns ++ (n + m) ∷ []) = omega (arith, length_push ns (n + m)) in (
      omega (arith, em, one_more t),
      record {
        numbers = numbers_push f ns (n + m) old.numbers more;
        free = more ∙ ap (free_to f) long;
      },
    )

pub there_at : (n : ℕ) (c : List Literal) (i : ℕ) (d : Literal) → all_there n c ≡ true → i < length c → there n (get_or c i d) ≡ true
there_at n [] i d h lt = absurd (none i lt)
  where
    none : (i : ℕ) → i < 0 → ⊥
    none i h = omega arith
there_at n (l ∷ c) zero d h lt = (and_parts (there n l) (all_there n c) h).0
there_at n (l ∷ c) (suc i) d h lt = there_at n c i d (and_parts (there n l) (all_there n c) h).1 (omega arith)
