-- Counting the numbers that pass a test which holds up to some number. Assumes nothing.
use Rattle.std.proofs.Common.{◌≡◌, ℕ, zero, suc, ◌<◌, ◌≤◌, Bool, true, ltb, sym, ◌∙◌, inl, inr, arith}
use Rattle.std.proofs.lemmas.Bool.Decides.{nat_tests}
use Rattle.std.proofs.lemmas.Bool.{cases_Bool, cases_lt, lt-ltb}
use Rattle.ties.specs.Roots.{count_below}

-- where the next passes, so does this one
abbrev pub Falling : (ℕ → Bool) → ℕ → Type 0
Falling p n = (k : ℕ) → suc k < n → p (suc k) ≡ true → p k ≡ true

falling_down : (p : ℕ → Bool) (n : ℕ) → Falling p (suc n) → p n ≡ true → (k : ℕ) → k ≤ n → p k ≡ true
falling_down p zero f h k l = let e : k ≡ 0 = omega arith in rw e h
falling_down p (suc n) f h k l = grind (arith, f n, falling_down p n (λ i l. f i (omega arith)))

pub count_most : (p : ℕ → Bool) (n : ℕ) → count_below p n ≤ n
count_most p zero = omega arith
count_most p (suc n) = let h = count_most p n in grind arith

-- the passing ones are those below some number, and it is their count
pub count_only : (p : ℕ → Bool) (n m : ℕ) → m ≤ n → ((k : ℕ) → k < n → p k ≡ ltb k m) → count_below p n ≡ m
count_only p zero m l h = omega arith
count_only p (suc n) m l h = elim (cases_lt n m) [
  | inl g ↦
      let i : count_below p n ≡ n = count_only p n n (omega arith) (λ k q. grind (arith, nat_tests, h k)) in
      grind (arith, nat_tests, h n)
  | inr g ↦
      let i : count_below p n ≡ m = count_only p n m g (λ k q. h k (omega arith)) in
      grind (arith, nat_tests, h n)
]

pub count_falling : (p : ℕ → Bool) (n : ℕ) → Falling p n → (k : ℕ) → k < n → p k ≡ ltb k (count_below p n)
count_falling p zero f k l = absurd (omega arith)
count_falling p (suc n) f k l = elim (cases_Bool (p n)) [
  | inl t ↦
      let all : (k : ℕ) → k < suc n → p k ≡ true = λ k l. falling_down p n f t k (omega arith) in
      let e : count_below p (suc n) ≡ suc n = count_only p (suc n) (suc n) (omega arith) (λ k l. all k l ∙ sym (lt-ltb k (suc n) l)) in
      rw e (all k l ∙ sym (lt-ltb k (suc n) l))
  | inr t ↦
      let most = count_most p n in
      grind (arith, nat_tests, count_falling p n (λ i l. f i (omega arith)) k)
]
