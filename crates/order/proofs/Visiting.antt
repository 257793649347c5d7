-- What a visitor has gone through: one list after another. Assumes nothing.
use Rattle.std.proofs.Common.{ℕ, ◌+◌, ◌≤◌, List, [], ◌∷◌, ◌++◌, sym, refl, subst}
use Rattle.order.specs.Between.{between}
use Rattle.order.specs.Visits.{After}
use Rattle.order.proofs.Stretches.{between_more}

module _ {S C : Type 0} (step : S → C → S → Type 0) where
  pub after_join : (cs ds : List C) (s t u : S) → After step s cs t → After step t ds u → After step s (cs ++ ds) u
  after_join [] ds s t u h k = subst (λ x. After step x ds u) (sym h) k
  after_join (c ∷ cs) ds s t u h k = (h.0, (h.1.0, after_join cs ds h.0 t u h.1.1 k))

  pub after_one : (c : C) (s t : S) → step s c t → After step s (c ∷ []) t
  after_one c s t h = (t, (h, refl))

  -- a loop's turn, and its end
  module _ (f : ℕ → List C) (a b : ℕ) (s : S) where
    pub after_more : (t u : S) → a ≤ b → After step s (between f a b) t → After step t (f b) u → After step s (between f a (b + 1)) u
    after_more t u h k m =
        subst (λ cs. After step s cs u) (sym (between_more f a b h)) (after_join (between f a b) (f b) s t u k m)
