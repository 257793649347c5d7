use Rattle.std.proofs.Common.{ℕ, ◌+◌, Bool, ◌&&◌, rules, tests}
use Rattle.std.proofs.lemmas.Iterator.Search.{any_from_yields_List}
use Rattle.order.specs.Ranges.{low, high}
use Rattle.kinds.specs.Families.{is_settled, all_stand}
use Rattle.kinds.proofs.Inclusive.{YieldsList-from_inclusive}
use Rattle.linear.specs.Plus.{stepped, linked}
use Rattle.linear.proofs.plus.Link.stands.Goals as goal

pub returns : goal.returns
returns g c =
    let rs = c.args.ranges.now in
    let s = c.args.s in
    let l = c.args.self in
    let tied = g.T.Standing.stands c.args.ties.now in
    let test : ℕ → Bool = λ k. is_settled tied rs s k && all_stand tied (linked l k) (low rs (stepped l)) (high rs (stepped l) + 2) in
    any_from_yields_List test _ _ c.any.result c.any.ensures.ran
    (YieldsList-from_inclusive (low rs s) (high rs s + 1) (search rules) (search rules) c.new.ensures.exhausted) (λ x b q k. search (rules, tests))
