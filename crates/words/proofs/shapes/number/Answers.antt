use Rattle.std.proofs.Common.{◌∙◌, ap, arith}
use Rattle.std.specs.Result.{result_ok}
use Rattle.std.proofs.lemmas.Result.{Ok-from_Ok_iff}
use Rattle.words.proofs.Shaping.{number_fits, value_few}
use Rattle.words.proofs.shapes.number.Goals as goal

pub returns-in_err-decimal : goal.returns-in_err-decimal
returns-in_err-decimal c = c.from_residual.ensures ∙ c.in_err-decimal.ensures ∙ value_few c.args.word.now (omega arith)

pub returns : goal.returns
returns c =
    let is = c.in_ok-decimal.ensures ∙ value_few c.args.word.now (omega arith) in
    let below = number_fits c.args.word.now (omega arith) _ is in
    c.ok.ensures.value ∙ ap result_ok (Ok-from_Ok_iff _ _ _ c.try_from.ensures (omega arith)) ∙ is
