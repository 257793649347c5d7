use Rattle.std.proofs.Common.{arith}
use Rattle.std.proofs.lemmas.Fmt.{decimal_step}
use Rattle.std.proofs.lemmas.Grind.{common_steps}
use Rattle.sink.proofs.Numerals.{decimal_one}
use Rattle.sink.proofs.decimals.+push_decimal.Goals as goal
use Rattle.sink.proofs.decimals.+push_decimal.Goals.{then-n-ge10, else-n-ge10}

pub returns : goal.returns
returns t c =
    elim c.if-n-ge10.branch [
      | then-n-ge10 w ↦ let e = decimal_step c.args.n (omega arith) (omega arith) in grind (arith, common_steps)
      | else-n-ge10 w ↦ let e = decimal_one c.args.n (omega arith) in grind (arith, common_steps)
    ]
