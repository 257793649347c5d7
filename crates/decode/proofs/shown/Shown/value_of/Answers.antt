use Rattle.std.proofs.Common.{rules, tests, of_calls, ◌≡◌, ◌+◌, ◌^◌, ◌<◌, cond, count_by, arith}
use Rattle.std.specs.List.{range_with_len}
use Rattle.std.proofs.lemmas.Iterator.{YieldsList-from_range, YieldsList-from_map}
use Rattle.std.proofs.lemmas.Iterator.Consumers.{YieldsList-at, sum_by_from_yields_List, fits_by_from_yields_list}
use Rattle.std.proofs.lemmas.List.FromFn.{length-range_with_len}
use Rattle.std.proofs.lemmas.List.Sums.{count_by-le-length}
use Rattle.order.specs.Ranges.{low, high, width}
use Rattle.order.specs.Variables.{ranges_of}
use Rattle.kinds.proofs.Rows.{range_ordered}
use Rattle.decode.specs.Bits.{bit_at}
use Rattle.decode.proofs.Counting.{reached, value_counts}
use Rattle.decode.proofs.Ones.{one_if}
use Rattle.decode.proofs.shown.Shown.value_of.Goals as goal

pub sum-reached-requires : goal.sum-reached-requires
sum-reached-requires c =
    let rs = ranges_of c.args.self.now.variables.now in
    let x = c.args.variable in
    let test = reached rs (bit_at c.args.self.now.bits.now) x in
    let all = range_with_len (low rs x + 1) (width rs x) in
    let lo : c.from.result ≡ low rs x = cc in
    let hi : c.from-2.result ≡ high rs x = cc in
    let span = YieldsList-from_range (low rs x + 1) _ (width rs x) (λ i. record { start = lo i + 1; end = c.from-2.result + 1 }) (omega (arith, hi, range_ordered rs x)) in
    let fits : count_by test all < 2 ^ 8 = omega (arith, hi, count_by-le-length test all, length-range_with_len (low rs x + 1) (width rs x)) in
    record { can = search of_calls; finite = search of_calls; fits = fits_by_from_yields_list _ _ c.map.result _ (YieldsList-from_map _ (λ t. cond (test t) 1 0) (YieldsList-at c.map.ensures.source span) c.map.ensures.closure (λ t r q k. search (rules, tests, one_if))) fits }

pub overflow_add-result : goal.overflow_add-result
overflow_add-result c =
    let rs = ranges_of c.args.self.now.variables.now in
    let x = c.args.variable in
    let test = reached rs (bit_at c.args.self.now.bits.now) x in
    let all = range_with_len (low rs x + 1) (width rs x) in
    let lo : c.from.result ≡ low rs x = cc in
    let hi : c.from-2.result ≡ high rs x = cc in
    let same : c.low-2.result ≡ low rs x = cc in
    let span = YieldsList-from_range (low rs x + 1) _ (width rs x) (λ i. record { start = lo i + 1; end = c.from-2.result + 1 }) (omega (arith, hi, range_ordered rs x)) in
    let counts : c.sum-reached.result ≡ count_by test all = sum_by_from_yields_List _ _ c.map.result _ c.sum-reached.ensures.ran (YieldsList-from_map _ (λ t. cond (test t) 1 0) (YieldsList-at c.map.ensures.source span) c.map.ensures.closure (λ t r q k. search (rules, tests, one_if))) in
    omega (arith, same, counts, hi, range_ordered rs x, count_by-le-length test all, length-range_with_len (low rs x + 1) (width rs x))

pub returns : goal.returns
returns c =
    let rs = ranges_of c.args.self.now.variables.now in
    let x = c.args.variable in
    let test = reached rs (bit_at c.args.self.now.bits.now) x in
    let all = range_with_len (low rs x + 1) (width rs x) in
    let lo : c.from.result ≡ low rs x = cc in
    let hi : c.from-2.result ≡ high rs x = cc in
    let same : c.low-2.result ≡ low rs x = cc in
    let span = YieldsList-from_range (low rs x + 1) _ (width rs x) (λ i. record { start = lo i + 1; end = c.from-2.result + 1 }) (omega (arith, hi, range_ordered rs x)) in
    let counts : c.sum-reached.result ≡ count_by test all = sum_by_from_yields_List _ _ c.map.result _ c.sum-reached.ensures.ran (YieldsList-from_map _ (λ t. cond (test t) 1 0) (YieldsList-at c.map.ensures.source span) c.map.ensures.closure (λ t r q k. search (rules, tests, one_if))) in
    omega (arith, same, counts, value_counts rs (bit_at c.args.self.now.bits.now) x)
