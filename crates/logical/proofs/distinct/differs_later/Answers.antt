use Rattle.std.proofs.Common.{◌+◌, not, ◌==◌, drop, ◌∙◌, rules, tests}
use Rattle.std.proofs.lemmas.List.{take_rest}
use Rattle.std.proofs.lemmas.Iterator.{YieldsList-from_slice}
use Rattle.std.proofs.lemmas.Iterator.Search.{all_from_yields_List}
use Rattle.kinds.specs.declared.item.Item.{Item}
use Rattle.kinds.specs.declared.item.Item.TheVariants.{Variable}
use Rattle.kinds.specs.Items.{var, variable_of}
use Rattle.kinds.specs.Meaning.{valued}
use Rattle.logical.proofs.OverLists.{all_from}
use Rattle.logical.proofs.distinct.differs_later.Goals as goal

pub returns : goal.returns
returns c =
    let items = c.args.items.now in
    let v = valued c.args.values.now in
    let differs = λ (i : Item). not (v (var items c.args.p) == v (variable_of i)) in
    all_from_yields_List differs _ _ c.all.result c.all.ensures.ran (YieldsList-from_slice (drop (c.args.p + 1) items) (simp take_rest at c.iter.ensures.rest)) (λ x b q k. search (rules, tests))
    ∙ all_from differs items (Variable 0) (c.args.p + 1)
