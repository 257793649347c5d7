use Rattle.std.proofs.Common.{◌+◌, ◌-◌, ◌<◌, ◌≤◌, [], ◌∷◌, ◌++◌, length, sym, ap, ◌∙◌, arith}
use Rattle.std.proofs.lemmas.Bool.{leb-true, not-false}
use Rattle.order.specs.Ranges.{total_bits}
use Rattle.order.specs.Variables.{few_variables, few_bits}
use Rattle.job.proofs.Declaring.{added_bits, declared}
use Rattle.job.proofs.open.OpenJob.declare.Goals as goal

pub invariant_of-self-2 : goal.invariant_of-self-2
invariant_of-self-2 c =
    let self = c.args.self.now in
    let r = c.in_ok-range.range in
    let old = c.in_ok-reserve.ensures.ranges in
    let kept = ap length old in
    let bits = ap total_bits old in
    let few : length c.reserve.new.self.ranges.items < 512 = omega (arith, kept, leb-true (length self.variables.ranges.items + 1) 512 (not-false _ (sym c.if-is_full.ensures))) in
    let small : total_bits c.reserve.new.self.ranges.items + (r.high - r.low) ≤ 4096 = omega (arith, bits) in
    let more = added_bits c.add.result _ _ r c.add.ensures.adds (c.add.ensures.spare c.in_ok-reserve.ensures.room) few small in
    record { level = omega (arith, c.in_ok-grow.ensures.grows.1.long, self.level, bits, more) }

pub returns-clause-answers : goal.returns-clause-answers
returns-clause-answers c =
    let r = c.in_ok-range.range in
    let old = c.in_ok-reserve.ensures.ranges in
    let added = c.in_ok-add.ensures.adds in
    declared _ _ c.args.low c.args.high _ r (sym c.in_ok-range.ensures.ok_part ∙ c.new.ensures)
    (sym (ap (λ rs. few_variables rs 1) old) ∙ added.0)
    (sym (ap (λ rs. few_bits rs (r.high - r.low)) old) ∙ added.1)
    (added.2 ∙ ap length old)
    (added.3 ∙ ap (λ rs. rs ++ r ∷ []) old)
    c.in_ok-grow.ensures.grows.1.roots
