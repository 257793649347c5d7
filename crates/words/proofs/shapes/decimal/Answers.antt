use Rattle.std.proofs.Common.{length, sym, ◌∙◌, arith, ap, Some}
use Rattle.std.proofs.lemmas.List.{at_drop_all}
use Rattle.std.proofs.lemmas.Bool.{eqb-false}
use Rattle.words.specs.Shapes.{all_digits, digits_after}
use Rattle.words.proofs.Places.{found_none}
use Rattle.words.proofs.Shaping.{grown, value_from, value_large}
use Rattle.words.proofs.shapes.decimal.Goals as goal

pub returns-in_err-value : goal.returns-in_err-value
returns-in_err-value c =
    let more = grown c.args.word.now c.loop-b.b-index c.loop-b.value c.loop-b-test.true in
    let large = found_none _ _ (sym c.with_digit.ensures ∙ c.in_err-value.was) in
    c.from_residual.ensures ∙ sym (value_large c.args.word.now (omega (arith, large)))

pub returns : goal.returns
returns c =
    let word = c.args.word.now in
    let some = eqb-false (length word) 0 (sym c.if-is_empty.ensures) in
    let all = c.loop-b.invariant.0 ∙ at_drop_all all_digits _ _ c.loop-b-test.false in
    let is = c.loop-b.invariant.1 ∙ at_drop_all (digits_after c.loop-b.value) _ _ c.loop-b-test.false in
    sym (value_from word all (omega arith) (omega arith) ∙ ap Some is)
