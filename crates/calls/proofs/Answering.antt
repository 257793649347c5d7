-- A call that answered a yes had a yes to each question. Assumes nothing.
use Rattle.std.proofs.Common.{◌≡◌, true, List, [], ◌∷◌, Some, None, Ok, Option, arith}
use Rattle.std.specs.List.{AllByRecursion}
use Rattle.calls.specs.declared.refusal.Refusal.{Refusal}
use Rattle.calls.specs.Questions.{Question, first_no, verdict}

pub all_asked : (qs : List Question) → first_no qs ≡ None → AllByRecursion (λ q. q.yes ≡ true) qs
all_asked [] e = tt
all_asked (q ∷ qs) e = grind (arith, all_asked qs)

module _ {X S : Type 0} where
  verdict_yes : (o : Option Refusal) (x y : X) (s s' : S) → verdict o x s ≡ Ok (y, s') → (o ≡ None) × (s ≡ s')
  verdict_yes None x y s s' e = grind arith
  verdict_yes (Some q) x y s s' e = absurd (grind arith)

  -- each question was answered yes, and what is held then is as the call says
  pub answered_yes : (qs : List Question) (x y : X) (s s' : S) → verdict (first_no qs) x s ≡ Ok (y, s') → AllByRecursion (λ q. q.yes ≡ true) qs × (s ≡ s')
  answered_yes qs x y s s' e =
      let yes = verdict_yes (first_no qs) x y s s' e in
      (all_asked qs yes.0, yes.1)
