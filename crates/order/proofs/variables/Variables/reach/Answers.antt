use Rattle.std.proofs.Common.{◌≡◌, ◌<◌, length, get_or, ap, ◌∙◌, arith}
use Rattle.order.specs.Ranges.{no_range}
use Rattle.order.specs.declared.range.Range.{Range}
use Rattle.order.proofs.Ranging.{entry_before, first_rises}
use Rattle.order.proofs.variables.Variables.reach.Goals as goal

pub overflow_add-result : goal.overflow_add-result
overflow_add-result c =
    let self = c.args.self.now in
    let rs = self.ranges.items in
    let x = c.from-x.result in
    let there : x < length rs = omega (arith, c.in-Some.ensures.lookup.3.0, c.deref.ensures.len, self.ranges.ok.0) in
    let same : length self.before.items ≡ length rs = omega (arith, self.ranges.ok.0, self.before.ok.0) in
    let before = entry_before rs self.before.items x c.index.result.now self.placed same there c.index.ensures in
    let whole : c.in-Some.range.now ≡ get_or rs x no_range = c.in-Some.ensures.lookup.3.1 no_range ∙ ap (λ xs. get_or xs x no_range) c.deref.ensures.value in
    let rises = first_rises rs x self.ranges.len (omega (arith, self.ranges.ok.0)) in
    omega (arith, before, rises, ap (λ (r : Range). r.low) whole, ap (λ (r : Range). r.high) whole)
