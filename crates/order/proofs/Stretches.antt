-- Lists over a stretch of numbers, one number more. Assumes nothing.
use Rattle.std.proofs.Common.{◌≡◌, ℕ, zero, suc, ◌+◌, ◌-◌, ◌≤◌, List, ◌++◌, sym, ap, ◌∙◌, append_assoc, arith}
use Rattle.std.proofs.lemmas.List.{append-nil}
use Rattle.order.specs.Between.{run, between}

module _ {X : Type 0} (f : ℕ → List X) where
  run_more : (a n : ℕ) → run f a (suc n) ≡ run f a n ++ f (a + n)
  run_more a zero = append-nil (f a) ∙ ap f (omega arith)
  run_more a (suc n) =
      ap (λ xs. f a ++ xs) (run_more (a + 1) n)
      ∙ sym (append_assoc (f a) (run f (a + 1) n) (f (a + 1 + n)))
      ∙ ap (λ k. (f a ++ run f (a + 1) n) ++ f k) (omega arith)

  pub between_more : (a b : ℕ) → a ≤ b → between f a (b + 1) ≡ between f a b ++ f b
  between_more a b h =
      let n : b + 1 - a ≡ suc (b - a) = omega arith in
      let k : a + (b - a) ≡ b = omega arith in
      ap (run f a) n ∙ run_more a (b - a) ∙ ap (λ k. run f a (b - a) ++ f k) k
