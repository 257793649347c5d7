use Rattle.std.proofs.Common.{sym, ap, ◌∙◌, subst}
use Rattle.sheet.specs.Expects.{words_of}
use Rattle.sheet.specs.Lines.{none_left}
use Rattle.sheet.specs.Reads.{Steps}
use Rattle.sheet.specs.Sheets.{line_step}
use Rattle.sheet.specs.Views.{draft_of}
use Rattle.sheet.proofs.LineSteps.{wordy_line}
use Rattle.sheet.proofs.reader.Reader.take.Goals as goal

pub returns-in-Variables-Some-clause-steps : goal.returns-in-Variables-Some-clause-steps
returns-in-Variables-Some-clause-steps c =
    let d = draft_of c.args.self.now in
    let ws = words_of c.args.self.now.text.now c.args.line in
    let after = draft_of c.variable.new.self in
    subst (λ s. Steps (line_step s d ws) c.variable.result d after) (sym c.in-Variables-Some.is-0)
    (subst (λ v. Steps v c.variable.result d after) (sym (wordy_line d ws (ap none_left (sym c.within.ensures.all ∙ c.in-Variables-Some.ensures.steps.first)))) c.variable.ensures.steps)
