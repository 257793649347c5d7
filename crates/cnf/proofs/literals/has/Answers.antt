use Rattle.std.proofs.Common.{rules, tests, ◌∙◌}
use Rattle.std.proofs.lemmas.Iterator.{YieldsList-from_slice}
use Rattle.std.proofs.lemmas.Iterator.Search.{any_from_yields_List}
use Rattle.order.specs.contracts.literal.LiteralPartialEq.TheImpl.{eq-value}
use Rattle.cnf.proofs.Scans.{any_has}
use Rattle.cnf.proofs.literals.has.Goals as goal

pub returns : goal.returns
returns c =
    any_from_yields_List (λ m. eq-value.it m c.args.l) _ _ c.any.result c.any.ensures.ran (YieldsList-from_slice c.args.clause.now cc) (λ x b q k. search (rules, tests))
    ∙ any_has c.args.clause.now c.args.l
