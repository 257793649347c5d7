-- Looking for a literal. Assumes nothing.
use Rattle.std.proofs.Common.{◌≡◌, ◌||◌, List, [], ◌∷◌, refl, ap, ◌∙◌}
use Rattle.std.specs.List.{list_any}
use Rattle.order.specs.contracts.literal.LiteralPartialEq.TheImpl.{eq-value}
use Rattle.order.specs.declared.literal.Literal.{Literal}
use Rattle.order.specs.Literals.{same}
use Rattle.order.proofs.Signs.{eq_same}
use Rattle.cnf.specs.Reduced.{has}

pub any_has : (c : List Literal) (l : Literal) → list_any (λ m. eq-value.it m l) c ≡ has c l
any_has [] l = refl
any_has (m ∷ c) l = ap (λ b. b || list_any (λ m. eq-value.it m l) c) (eq_same m l) ∙ ap (λ b. same m l || b) (any_has c l)
