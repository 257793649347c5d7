-- The value of a variable, counted threshold by threshold. Assumes nothing.
use Rattle.std.proofs.Common.{◌≡◌, ℕ, zero, suc, ◌+◌, ◌<◌, Bool, cond, List, count_by, refl, ap, ◌∙◌, arith}
use Rattle.std.specs.List.{range_with_len}
use Rattle.std.proofs.lemmas.List.Sums.{sum_by-cons}
use Rattle.order.specs.declared.range.Range.{Range}
use Rattle.order.specs.Bounds.{reach}
use Rattle.order.specs.Literals.{truth}
use Rattle.order.specs.Ranges.{low, width, first}
use Rattle.ties.specs.Roots.{count_below}
use Rattle.theory.specs.Values.{value}
use Rattle.theory.proofs.Order.{reach_inside}

count_front : (q : ℕ → Bool) (n : ℕ) → count_below q (suc n) ≡ cond (q 0) 1 0 + count_below (λ k. q (suc k)) n
count_front q zero = omega arith
count_front q (suc n) = omega (arith, count_front q n)

-- p counts from a on what q counts from 0 on
count_from : (p q : ℕ → Bool) (a n : ℕ) → ((k : ℕ) → k < n → p (a + k) ≡ q k) → count_by p (range_with_len a n) ≡ count_below q n
count_from p q a zero same = refl
count_from p q a (suc n) same =
    let here : p a ≡ q 0 = ap p (omega arith) ∙ same 0 (omega arith) in
    let rest = count_from p (λ k. q (suc k)) (a + 1) n (λ k l. ap p (omega arith) ∙ same (suc k) (omega arith)) in
    omega (arith, sum_by-cons (λ t. cond (p t) 1 0) a (range_with_len (a + 1) n), rest, ap {B = ℕ} (λ b. cond b 1 0) here, count_front q n)

-- whether X reaches t
abbrev pub reached : List Range → (ℕ → Bool) → ℕ → ℕ → Bool
reached rs β x t = truth β (reach rs x t)

pub value_counts : (rs : List Range) (β : ℕ → Bool) (x : ℕ) → low rs x + count_by (reached rs β x) (range_with_len (low rs x + 1) (width rs x)) ≡ value rs β x
value_counts rs β x =
    let bit : (k : ℕ) → k < width rs x → reached rs β x (low rs x + 1 + k) ≡ β (first rs x + suc k) =
    λ k l. ap (truth β) (reach_inside rs x (low rs x + 1 + k) (omega arith) (omega arith)) ∙ ap (λ n. β (first rs x + n)) (omega arith) in
    omega (arith, count_from (reached rs β x) (λ k. β (first rs x + suc k)) (low rs x + 1) (width rs x) bit)
