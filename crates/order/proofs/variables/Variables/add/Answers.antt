use Rattle.std.proofs.Common.{◌≡◌, length, ap, ◌∙◌, arith}
use Rattle.order.specs.Ranges.{first}
use Rattle.order.proofs.Ranging.{counted_push, placed_pushed}
use Rattle.order.proofs.variables.Variables.add.Goals as goal

pub invariant_of-self : goal.invariant_of-self
invariant_of-self c =
    let old = c.reserve.new.self in
    let kept = ap length c.reserve.ensures.ranges in
    let long = old.ranges.ok.0 in
    let here = c.args.self.now.ranges.ok.0 in
    let same : length old.before.items ≡ length old.ranges.items = omega (arith, old.before.ok.0) in
    let all : old.bits ≡ first old.ranges.items (length old.ranges.items) = old.counted ∙ ap (first old.ranges.items) (omega arith) in
    record {
      few = omega arith;
      small = omega arith;
      beside = omega arith;
      counted = counted_push old.ranges.items _ c.args.range old.bits _ _ c.push_reserved.ensures.items all (omega arith) (omega (arith, c.reserve.ensures.bits));
      placed = placed_pushed old.ranges.items _ old.before.items _ c.args.range _ c.push_reserved.ensures.items c.push_reserved-2.ensures.items old.placed same all;
    }
