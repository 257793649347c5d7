use Rattle.std.proofs.Common.{◌+◌, [], ◌∷◌, ap, ◌∙◌, subst, arith}
use Rattle.order.specs.Bounds.{reaches, turned}
use Rattle.order.specs.Orders.{step}
use Rattle.order.proofs.Visiting.{after_one, after_more}
use Rattle.order.proofs.variables.Variables.visit_order.Goals as goal

pub loop-t-preserved : goal.loop-t-preserved
loop-t-preserved g c =
    let both = c.implies.ensures ∙ ap (λ b. turned b ∷ c.at_least-in-loop-t.result ∷ []) c.at_least.ensures ∙ ap (λ b. turned (reaches c.args.x (c.loop-t.t + 1)) ∷ b ∷ []) c.at_least-in-loop-t.ensures in
    let clause = subst (λ d. g.V.Visitor.step c.loop-t.visitor d c.visit.new.self) both c.visit.ensures in (
      after_more g.V.Visitor.step (step c.args.x) (c.from-t.result + 1) c.loop-t.t _ _ _ c.loop-t.auto.t c.loop-t.invariant.0 (after_one g.V.Visitor.step _ _ _ clause),
      omega arith,
    )
