-- Lists and tests over a stretch of numbers, by what holds of the numbers of the stretch alone. Assumes nothing.
use Rattle.std.specs.Prelude.{◌≡◌, ℕ, zero, suc, ◌+◌, ◌-◌, ◌*◌, ◌<◌, ◌≤◌, Bool, true, ◌&&◌, List, ◌++◌, length, refl}
use Rattle.std.proofs.Common.{ap, ◌∙◌, zero-le, add-mul, arith, length-append}
use Rattle.std.proofs.lemmas.Bool.{and_from}
use Rattle.order.specs.Between.{run, between}
use Rattle.kinds.specs.Tests.{every, all_between}

module _ {X : Type 0} (f g : ℕ → List X) where
  run_same_in : (a n : ℕ) → ((i : ℕ) → a ≤ i → i < a + n → f i ≡ g i) → run f a n ≡ run g a n
  run_same_in a zero h = refl
  run_same_in a (suc n) h = ap (λ x. x ++ run f (a + 1) n) (h a (omega arith) (omega arith)) ∙ ap (λ x. g a ++ x) (run_same_in (a + 1) n (λ i l u. h i (omega arith) (omega arith)))

  -- lists that are equal at each number of the stretch
  pub between_same_in : (a b : ℕ) → ((i : ℕ) → a ≤ i → i < b → f i ≡ g i) → between f a b ≡ between g a b
  between_same_in a b h = run_same_in a (b - a) (λ i l u. h i l (omega arith))

module _ (p q : ℕ → Bool) where
  every_same_in : (a n : ℕ) → ((i : ℕ) → a ≤ i → i < a + n → p i ≡ q i) → every p a n ≡ every q a n
  every_same_in a zero h = refl
  every_same_in a (suc n) h = ap (λ x. x && every p (a + 1) n) (h a (omega arith) (omega arith)) ∙ ap (λ x. q a && x) (every_same_in (a + 1) n (λ i l u. h i (omega arith) (omega arith)))

  pub all_same_in : (a b : ℕ) → ((i : ℕ) → a ≤ i → i < b → p i ≡ q i) → all_between p a b ≡ all_between q a b
  all_same_in a b h = every_same_in a (b - a) (λ i l u. h i l (omega arith))

module _ (p : ℕ → Bool) where
  every_from : (a n : ℕ) → ((i : ℕ) → a ≤ i → i < a + n → p i ≡ true) → every p a n ≡ true
  every_from a zero h = refl
  every_from a (suc n) h = and_from (p a) (every p (a + 1) n) (h a (omega arith) (omega arith)) (every_from (a + 1) n (λ i l u. h i (omega arith) (omega arith)))

  -- each number of the stretch passes
  pub all_from : (a b : ℕ) → ((i : ℕ) → a ≤ i → i < b → p i ≡ true) → all_between p a b ≡ true
  all_from a b h = every_from a (b - a) (λ i l u. h i l (omega arith))

-- how many pairs n things make
abbrev pub pairs : ℕ → ℕ
pairs zero = 0
pairs (suc n) = n + pairs n

pub pairs_most : (n k : ℕ) → n ≤ k → pairs n ≤ pairs k
pairs_most zero k h = zero-le
pairs_most (suc n) zero h = absurd (omega arith)
pairs_most (suc n) (suc k) h = omega (arith, pairs_most n k (omega arith))

-- m for each pair of a number and a greater one below the end
pub length_pairs : {X : Type 0} (f : ℕ → List X) (m end : ℕ) → ((i : ℕ) → i < end → length (f i) ≤ (end - (i + 1)) * m) → (a n : ℕ) → a + n ≡ end → length (run f a n) ≤ pairs n * m
length_pairs f m end h a zero e = zero-le
length_pairs f m end h a (suc n) e =
    let here : length (f a) ≤ (end - (a + 1)) * m = h a (omega arith) in
    let left : end - (a + 1) ≡ n = omega arith in
    let one : length (f a) ≤ n * m = rw left at here in
    let rest = length_pairs f m end h (a + 1) n (omega arith) in
    omega (arith, length-append (f a) (run f (a + 1) n), add-mul n (pairs n) m)
