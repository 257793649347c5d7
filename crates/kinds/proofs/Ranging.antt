-- Lists and tests over a stretch of numbers: what holds of each number, and of one number more. Assumes nothing.
use Rattle.std.proofs.Common.{◌≡◌, ℕ, zero, suc, ◌+◌, ◌-◌, ◌*◌, ◌<◌, ◌≤◌, Bool, true, false, ◌⊎◌, List, [], ◌∷◌, ◌++◌, length, refl, ap, ◌∙◌, inl, inr, ⊎_elim, zero-le, le_trans, mul-le-mul_right, suc-mul, arith, length-append}
use Rattle.std.specs.List.{AllByRecursion}
use Rattle.std.proofs.ByRecursion.{All-append}
use Rattle.std.proofs.lemmas.Bool.{and_from, and_parts, or_cases, cases_order, cases_Bool, both_ways, false≢true}
use Rattle.order.specs.Between.{run, between}
use Rattle.kinds.specs.Tests.{any, every, some_between, all_between}

-- a number of a stretch is its first, or comes later
pub from_next : (a i : ℕ) → a ≤ i → (a ≡ i) ⊎ (a + 1 ≤ i)
from_next a i l = elim (cases_order a i) [ inl e ↦ inl e | inr (inl p) ↦ inr (omega arith) | inr (inr p) ↦ absurd (omega arith) ]

module _ {X : Type 0} (f : ℕ → List X) where
  all_run : (P : X → Type 0) (a n : ℕ) → ((i : ℕ) → a ≤ i → i < a + n → AllByRecursion P (f i)) → AllByRecursion P (run f a n)
  all_run P a zero h = tt
  all_run P a (suc n) h = All-append P (f a) (run f (a + 1) n) (h a (omega arith) (omega arith)) (all_run P (a + 1) n (λ i l u. h i (omega arith) (omega arith)))

  -- what holds of each number's list holds of all that is joined
  pub all_between_from : (P : X → Type 0) (a b : ℕ) → ((i : ℕ) → a ≤ i → i < b → AllByRecursion P (f i)) → AllByRecursion P (between f a b)
  all_between_from P a b h = all_run P a (b - a) (λ i l u. h i l (omega arith))

  all_front : (P : X → Type 0) (xs ys : List X) → AllByRecursion P (xs ++ ys) → AllByRecursion P xs
  all_front P [] ys h = tt
  all_front P (x ∷ xs) ys h = (h.0, all_front P xs ys h.1)

  all_back : (P : X → Type 0) (xs ys : List X) → AllByRecursion P (xs ++ ys) → AllByRecursion P ys
  all_back P [] ys h = h
  all_back P (x ∷ xs) ys h = all_back P xs ys h.1

  run_all : (P : X → Type 0) (a n : ℕ) → AllByRecursion P (run f a n) → (i : ℕ) → a ≤ i → i < a + n → AllByRecursion P (f i)
  run_all P a zero h i l u = absurd (omega arith)
  run_all P a (suc n) h i l u =
      ⊎_elim
      (λ e. let g : AllByRecursion P (f a) = all_front P (f a) (run f (a + 1) n) h in rw (← e) g)
      (λ q. run_all P (a + 1) n (all_back P (f a) (run f (a + 1) n) h) i q (omega arith))
      (from_next a i l)

  -- and back
  pub between_all : (P : X → Type 0) (a b : ℕ) → AllByRecursion P (between f a b) → (i : ℕ) → a ≤ i → i < b → AllByRecursion P (f i)
  between_all P a b h i l u = run_all P a (b - a) h i l (omega arith)

  length_run : (m : ℕ) → ((i : ℕ) → length (f i) ≤ m) → (a n : ℕ) → length (run f a n) ≤ n * m
  length_run m h a zero = zero-le
  length_run m h a (suc n) = omega (arith, length-append (f a) (run f (a + 1) n), h a, length_run m h (a + 1) n, suc-mul n m)

  -- at most n numbers, each with at most m
  pub length_between : (m : ℕ) → ((i : ℕ) → length (f i) ≤ m) → (a b n : ℕ) → b ≤ a + n → length (between f a b) ≤ n * m
  length_between m h a b n l = le_trans (length_run m h a (b - a)) (mul-le-mul_right m (omega arith))

-- equal lists over equal stretches
module _ {X : Type 0} where
  run_same : (f g : ℕ → List X) → ((i : ℕ) → f i ≡ g i) → (a n : ℕ) → run f a n ≡ run g a n
  run_same f g h a zero = refl
  run_same f g h a (suc n) = ap (λ x. x ++ run f (a + 1) n) (h a) ∙ ap (λ x. g a ++ x) (run_same f g h (a + 1) n)

  pub between_same : (f g : ℕ → List X) (a b c d : ℕ) → a ≡ c → b ≡ d → ((i : ℕ) → f i ≡ g i) → between f a b ≡ between g c d
  between_same f g a b c d p q h = run_same f g h a (b - a) ∙ ap (λ x. run g x (b - a)) p ∙ ap (run g c) (omega arith)

module _ (p : ℕ → Bool) where
  every_at : (a n : ℕ) → every p a n ≡ true → (i : ℕ) → a ≤ i → i < a + n → p i ≡ true
  every_at a zero h i l u = absurd (omega arith)
  every_at a (suc n) h i l u =
      let hs = and_parts (p a) (every p (a + 1) n) h in
      ⊎_elim (λ e. rw (← e) hs.0) (λ q. every_at (a + 1) n hs.1 i q (omega arith)) (from_next a i l)

  -- each number of the stretch passes
  pub all_between_at : (a b : ℕ) → all_between p a b ≡ true → (i : ℕ) → a ≤ i → i < b → p i ≡ true
  all_between_at a b h i l u = every_at a (b - a) h i l (omega arith)

  any_at : (a n : ℕ) → any p a n ≡ true → (k : ℕ) × (a ≤ k) × (k < a + n) × (p k ≡ true)
  any_at a zero h = absurd (false≢true h)
  any_at a (suc n) h =
      ⊎_elim
      (λ e. (a, omega arith, omega arith, e))
      (λ e. let q = any_at (a + 1) n e in (q.0, omega arith, omega arith, q.3))
      (or_cases (p a) (any p (a + 1) n) h)

  -- a number of the stretch passes
  pub some_between_at : (a b : ℕ) → some_between p a b ≡ true → (k : ℕ) × (a ≤ k) × (k < b) × (p k ≡ true)
  some_between_at a b h = let q = any_at a (b - a) h in (q.0, q.1, omega arith, q.3)

  every_by : (a n : ℕ) → ((i : ℕ) → a ≤ i → i < a + n → p i ≡ true) → every p a n ≡ true
  every_by a zero h = refl
  every_by a (suc n) h = and_from (p a) (every p (a + 1) n) (h a (omega arith) (omega arith)) (every_by (a + 1) n (λ i l u. h i (omega arith) (omega arith)))

  -- a loop that tests each number: its turn, and the number at which it stops
  pub all_more : (a i : ℕ) → a ≤ i → all_between p a i ≡ true → p i ≡ true → all_between p a (i + 1) ≡ true
  all_more a i h inv e =
      every_by a (i + 1 - a) (λ k l u. ⊎_elim (λ q. ap p q ∙ e) (λ q. all_between_at a i inv k l (omega arith)) (from_next k i (omega arith)))

  pub all_stops : (a b i : ℕ) → a ≤ i → i < b → p i ≡ false → all_between p a b ≡ false
  all_stops a b i l u e = ⊎_elim (λ h. absurd (both_ways (p i) e (all_between_at a b h i l u))) (λ h. h) (cases_Bool (all_between p a b))
