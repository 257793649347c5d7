use Rattle.std.proofs.Common.{rules, length, refl, arith}
use Rattle.std.proofs.lemmas.Iterator.{YieldsList-from_range, YieldsList-from_map, items_from_collect}
use Rattle.std.proofs.lemmas.Iterator.Consumers.{YieldsList-at}
use Rattle.std.proofs.lemmas.Result.{IfOk-weaker}
use Rattle.order.specs.Variables.{ranges_of}
use Rattle.theory.specs.Values.{value}
use Rattle.decode.specs.Bits.{bit_at}
use Rattle.decode.proofs.ValueSteps.{values_listed}
use Rattle.decode.proofs.shown.Shown.all_values.Goals as goal

pub returns : goal.returns
returns c =
    let rs = ranges_of c.args.self.now.variables.now in
    let β = bit_at c.args.self.now.bits.now in
    IfOk-weaker c.collect.result _ _ (λ vs e. values_listed rs β vs.items e)
    (items_from_collect c.collect.result c.collect.ensures.ran (YieldsList-from_map _ (value rs β)
    (YieldsList-at c.map.ensures.source (YieldsList-from_range 0 _ (length rs) refl (omega (arith, c.len.ensures))))
    c.map.ensures.closure (λ x r q k. search rules)))
