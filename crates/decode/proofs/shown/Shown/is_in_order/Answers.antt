use Rattle.std.proofs.Common.{rules, tests, ◌≡◌, ◌+◌, ◌-◌, sym, ◌∙◌, arith}
use Rattle.std.proofs.lemmas.Iterator.{YieldsList-from_range}
use Rattle.std.proofs.lemmas.Iterator.Search.{all_from_yields_List}
use Rattle.order.specs.Variables.{ranges_of}
use Rattle.order.specs.Ranges.{low, high}
use Rattle.decode.specs.Bits.{bit_at}
use Rattle.decode.proofs.Ordering.{keeps_order, asked_first, every_is_all}
use Rattle.decode.proofs.shown.Shown.is_in_order.Goals as goal

pub returns : goal.returns
returns c =
    let rs = ranges_of c.args.self.now.variables.now in
    let x = c.args.variable in
    let test = keeps_order rs (bit_at c.args.self.now.bits.now) x in
    let a = low rs x + 1 in
    let n = high rs x - a in
    let lo : c.from.result ≡ low rs x = cc in
    let hi : c.from-2.result ≡ high rs x = cc in
    all_from_yields_List test _ _ _ c.all.ensures.ran (YieldsList-from_range a _ n (λ i. record { start = lo i + 1; end = c.from-2.result }) (omega (arith, hi))) (λ t b q k. search (rules, tests, asked_first))
    ∙ sym (every_is_all test a n)
