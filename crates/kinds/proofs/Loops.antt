-- Loops that show a list for each number of a stretch, by what is left to show. Assumes nothing.
use Rattle.std.proofs.Common.{◌≡◌, ℕ, suc, ◌+◌, ◌-◌, ◌<◌, List, ◌++◌, get_or, sym, ap, subst, arith}
use Rattle.order.specs.Between.{run, between}
use Rattle.order.specs.Visits.{After}
use Rattle.order.proofs.Visiting.{after_join}

-- what is left, f of each number from a on and below b, leads from t to whatever all of it leads to from s
pub record Leads {S C : Type 0} (step : S → C → S → Type 0) (f : ℕ → List C) (a b : ℕ) (t : S) (all : List C) (s : S) : Type 0 where
  pub leads : (u : S) → After step t (between f a b) u → After step s all u

-- F of the element at a place
abbrev pub at : {X C : Type 0} → (X → List C) → List X → X → ℕ → List C
at F xs d k = F (get_or xs k d)

pub begin : {S C : Type 0} {step : S → C → S → Type 0} {f : ℕ → List C} {a b : ℕ} {all : List C} {s : S} → between f a b ≡ all → Leads step f a b s all s
begin {step = step} {s = s} e = record { leads = λ x after. subst (λ cs. After step s cs x) e after }

between_next : {C : Type 0} (f : ℕ → List C) (a b : ℕ) → a < b → between f a b ≡ f a ++ between f (a + 1) b
between_next f a b l =
    let n : b - a ≡ suc (b - (a + 1)) = omega arith in
    ap (run f a) n

-- a turn of the loop shows the list of a
pub next : {S C : Type 0} {step : S → C → S → Type 0} {f : ℕ → List C} {a b : ℕ} {t : S} {all : List C} {s : S} (u : S) → Leads step f a b t all s → a < b → After step t (f a) u → Leads step f (a + 1) b u all s
next {step = step} {f = f} {a = a} {b = b} {t = t} u rest l shown = record {
  leads = λ x after. rest.leads x (subst (λ cs. After step t cs x) (sym (between_next f a b l)) (after_join step (f a) (between f (a + 1) b) t u x shown after));
}
