use Rattle.std.proofs.Common.{rules, tests, of_calls, ◌^◌, ◌<◌, cond, count_by, arith}
use Rattle.std.proofs.lemmas.Iterator.{YieldsList-from_slice, YieldsList-from_map}
use Rattle.std.proofs.lemmas.Iterator.Consumers.{YieldsList-at, sum_by_from_yields_List, fits_by_from_yields_list}
use Rattle.std.proofs.lemmas.List.Sums.{count_by-le-length}
use Rattle.decode.proofs.Ones.{one_if}
use Rattle.decode.proofs.values.count_declared.Goals as goal

pub sum-requires : goal.sum-requires
sum-requires c =
    let ds = c.args.declared.now in
    let fits : count_by (λ d. d) ds < 2 ^ 64 = omega (arith, count_by-le-length (λ d. d) ds) in
    record { can = search of_calls; finite = search of_calls; fits = fits_by_from_yields_list _ _ c.map.result _ (YieldsList-from_map _ (λ d. cond d 1 0) (YieldsList-at c.map.ensures.source (YieldsList-from_slice ds cc)) c.map.ensures.closure (λ d r q k. search (rules, tests, one_if))) fits }

pub returns : goal.returns
returns c = sum_by_from_yields_List _ _ c.map.result _ c.sum.ensures.ran (YieldsList-from_map _ (λ d. cond d 1 0) (YieldsList-at c.map.ensures.source (YieldsList-from_slice c.args.declared.now cc)) c.map.ensures.closure (λ d r q k. search (rules, tests, one_if)))
