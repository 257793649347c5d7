use Rattle.std.proofs.Common.{◌||◌, refl, ◌∙◌, rules, tests}
use Rattle.std.specs.List.{list_any}
use Rattle.std.proofs.lemmas.List.Recursion.{same_from_clauses}
use Rattle.std.proofs.lemmas.Iterator.{YieldsList-from_slice}
use Rattle.std.proofs.lemmas.Iterator.Search.{any_from_yields_List}
use Rattle.order.specs.Bounds.{holds}
use Rattle.kinds.specs.declared.item.Item.{Item}
use Rattle.kinds.specs.Meaning.{valued, some_holds}
use Rattle.logical.specs.Any.{bound_of, bounds}
use Rattle.logical.proofs.any.AnyKind.met.Goals as goal

pub returns : goal.returns
returns c =
    let items = c.args.items.now in
    let test = λ (i : Item). holds (valued c.args.values.now) (bound_of i) in
    any_from_yields_List test _ _ c.any.result c.any.ensures.ran (YieldsList-from_slice items cc) (λ x b q k. search (rules, tests))
    ∙ same_from_clauses (list_any test) (λ is. some_holds (valued c.args.values.now) (bounds is)) (λ i b. test i || b) refl (λ _ _. refl) (λ _ _. refl) items
