use Rattle.std.proofs.Common.{rules, tests, not, length, sym, refl, ◌∙◌, arith}
use Rattle.std.proofs.lemmas.Iterator.{YieldsList-from_range}
use Rattle.std.proofs.lemmas.Iterator.Adapters.{option_map_id}
use Rattle.std.proofs.lemmas.Iterator.Search.{find_from_yields_List}
use Rattle.order.specs.Variables.{ranges_of}
use Rattle.promise.specs.Readings.{in_order}
use Rattle.decode.specs.Bits.{bit_at}
use Rattle.decode.proofs.Failing.{first_is_find}
use Rattle.decode.proofs.shown.Shown.first_unordered.Goals as goal

pub returns : goal.returns
returns c =
    let rs = ranges_of c.args.self.now.variables.now in
    let test = in_order rs (bit_at c.args.self.now.bits.now) in
    sym (option_map_id _)
    ∙ find_from_yields_List (λ x. not (test x)) _ _ _ c.find.ensures.ran (YieldsList-from_range 0 _ (length rs) refl (omega (arith, c.len.ensures))) (λ x b q k. search (rules, tests))
    ∙ sym (first_is_find test 0 (length rs))
