use Rattle.std.proofs.Common.{subst, inl, inr}
use Rattle.ties.specs.Roots.{Joins}
use Rattle.ties.specs.Views.{roots_of}
use Rattle.settle.proofs.Heeding.{tying_same, tying_made}
use Rattle.settle.proofs.tied.tie.Goals as goal

pub returns-in-Same-clause-tying : goal.returns-in-Same-clause-tying
returns-in-Same-clause-tying c =
    let t = c.args.ties.now in
    let u = c.join.new.self in
    elim c.in-Same.is [
      | inl e ↦ tying_same t u c.args.a c.args.b (subst (λ r. Joins r (roots_of t) c.args.a c.args.b (roots_of u)) e c.join.ensures.joins)
      | inr e ↦ tying_made t u c.args.a c.args.b (subst (λ r. Joins r (roots_of t) c.args.a c.args.b (roots_of u)) e c.join.ensures.joins)
    ]
