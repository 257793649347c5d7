-- An array made by one pure call for each place. Assumes nothing.
use Rattle.std.proofs.Common.{◌≡◌, ℕ, zero, suc, ◌+◌, ◌<◌, ◌≤◌, List, get_or, map, ⊎_elim, sym, ap, ◌∙◌, subst, arith}
use Rattle.std.specs.Array.{IsFromFnResultFrom, IsFromFnResult}
use Rattle.std.specs.Fn.{Called}
use Rattle.std.specs.List.{range_with_len}
use Rattle.std.proofs.lemmas.List.FromFn.{fill_by_all}
use denote.Param.Members.{Mut}
use Rattle.kinds.proofs.Ranging.{from_next}

module _ {F B : Type 0} (g : Mut F (ℕ × Unit {0}) B) (f : F) (h : ℕ → B) (pure : (i : ℕ) (y : B) (q : F) → Called g f (i, tt) y q → (q ≡ f) × (y ≡ h i)) (ys : List B) where
  each_made : (i n : ℕ) → IsFromFnResultFrom g f ys i n → (k : ℕ) (d : B) → i ≤ k → k < i + n → get_or ys k d ≡ h k
  each_made i zero r k d l u = absurd (omega arith)
  each_made i (suc n) r k d l u =
      let first = pure i r.1 r.0 r.3 in
      ⊎_elim
      (λ e. ap (λ j. get_or ys j d) (sym e) ∙ r.2.1 d ∙ first.1 ∙ ap h e)
      (λ m. each_made (i + 1) n (subst (λ q. IsFromFnResultFrom g q ys (i + 1) n) first.0 r.4) k d m (omega arith))
      (from_next i k l)

  pub all_made : (n : ℕ) (d : B) → IsFromFnResult g f ys n → ys ≡ map h (range_with_len 0 n)
  all_made n d made = fill_by_all h ys n d made.long (λ k u. each_made 0 n made.each k d (omega arith) (omega arith))
