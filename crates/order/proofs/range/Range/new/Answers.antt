use Rattle.std.proofs.Common.{◌≡◌, arith}
use Rattle.order.proofs.Ranging.{some_range}
use Rattle.order.proofs.range.Range.new.Goals as goal

pub returns-then-low-high : goal.returns-then-low-high
returns-then-low-high c =
    let low : c.in_ok-low.low ≡ c.args.low = grind arith in
    let high : c.in_ok-high.high ≡ c.args.high = grind arith in
    some_range _ c.args.low c.args.high low high (omega arith) (grind arith)
