use Rattle.std.proofs.Common.{◌+◌, refl, sym, ap, ◌∙◌, arith, rules, tests}
use Rattle.std.proofs.lemmas.Iterator.{YieldsList-from_range}
use Rattle.std.proofs.lemmas.Iterator.Search.{any_from_yields_List}
use Rattle.order.specs.Ranges.{low, high}
use Rattle.ties.specs.Roots.{root_at}
use Rattle.ties.specs.Views.{roots_of}
use Rattle.settle.specs.Tied.{ranges_in, roots_in}
use Rattle.settle.proofs.Moving.{parts_at, still_between, still_variable}
use Rattle.settle.proofs.tied.TiedVariables.variable_moved.Goals as goal

pub returns : goal.returns
returns c none =
    let rs = ranges_in c.args.self.now in
    let f = root_at (roots_of c.args.before.now) in
    let g = root_at (roots_in c.args.self.now) in
    let x = c.args.variable in
    let any = any_from_yields_List (parts_at rs f g x) _ _ c.any.result c.any.ensures.ran (YieldsList-from_range c.from.result (c.from-2.result + 1) _ refl refl) (λ t b q k. search (rules, tests)) in
    let low-is = ap (λ r. low r x) c.ranges-2.ensures in
    let high-is = ap (λ r. high r x) c.ranges-2.ensures in
    still_variable rs f g x (λ t lt le. still_between rs f g x c.from.result _ (sym any ∙ none) t (omega (arith, low-is)) (omega (arith, high-is)))
