use Rattle.std.proofs.Common.{◌-◌, length, ◌∙◌, rules, refl, tests}
use Rattle.std.proofs.lemmas.Iterator.{YieldsList-from_range}
use Rattle.std.proofs.lemmas.Iterator.Search.{all_from_yields_List}
use Rattle.kinds.specs.Meaning.{valued}
use Rattle.logical.specs.Distinct.{differ_later}
use Rattle.logical.proofs.OverLists.{all_numbers}
use Rattle.logical.proofs.distinct.DistinctKind.met.Goals as goal

pub returns : goal.returns
returns c =
    let items = c.args.items.now in
    let differs = differ_later items (valued c.args.values.now) in
    all_from_yields_List differs _ _ c.all.result c.all.ensures.ran (YieldsList-from_range 0 (length items) (length items - 0) refl refl) (λ x b q k. search (rules, tests))
    ∙ all_numbers differs 0 (length items)
