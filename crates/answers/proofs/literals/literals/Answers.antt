use Rattle.std.proofs.Common.{Err, [], vec_items, ap, ◌∙◌}
use Rattle.std.proofs.lemmas.Result.{err_from_is_err_and}
use Rattle.words.specs.Lines.{lines_left}
use Rattle.words.specs.Split.{words}
use Rattle.answers.specs.Literals.{value_words}
use Rattle.answers.proofs.Gathering.{words_of, value_line, line_more, line_stops, gives_fault}
use Rattle.answers.proofs.literals.literals.Goals as goal

pub loop-line-preserved : goal.loop-line-preserved
loop-line-preserved c =
    let values = c.in-Values.values.now in
    let rest = lines_left c.next.new.self in
    let shape = c.in-Values.ensures in
    let first = ap words_of c.in-Some.ensures.steps.first ∙ value_line c.in-Some.line.now values rest shape.0 shape.2 in
    line_more c.args.variables (value_words c.args.text.now) (words_of (lines_left c.loop-line.line-iterator)) (words values) (words_of rest) [] (vec_items c.loop-line.out) c.loop-line.invariant first
    (vec_items c.add_line.new.out) c.in_ok-add_line.ensures

pub returns-in_err-add_line : goal.returns-in_err-add_line
returns-in_err-add_line c =
    let text = c.args.text.now in
    let v = c.args.variables in
    let values = c.in-Values.values.now in
    let rest = lines_left c.next.new.self in
    let shape = c.in-Values.ensures in
    let first = ap words_of c.in-Some.ensures.steps.first ∙ value_line c.in-Some.line.now values rest shape.0 shape.2 in
    let returned = err_from_is_err_and c.from_residual.result c.from_residual.ensures.1 in
    gives_fault text v (words values) c.loop-line.out c.add_line.new.out c.from_residual.result c.in_err-add_line.field-0.0 (returned.1 ∙ ap Err returned.2) c.in_err-add_line.ensures
    (line_stops v (value_words text) (words_of (lines_left c.loop-line.line-iterator)) (words values) (words_of rest) [] (vec_items c.loop-line.out) c.loop-line.invariant first)
