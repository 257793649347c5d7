use Rattle.std.proofs.Common.{sym, ap, ◌∙◌}
use Rattle.sink.specs.Text.{text_costs}
use Rattle.sink.specs.Views.{fresh}
use Rattle.job.specs.Views.{writer_view}
use Rattle.job.specs.Writes.{writing}
use Rattle.sheet.specs.Sheets.{Outcome}
use Rattle.compile.proofs.Refusing.{unwritten}
use Rattle.compile.proofs.compile.Goals as goal

pub returns : goal.returns
returns c =
    let read = c.in_ok-job.ensures in
    let view = sym (c.in_ok-writer.ensures ∙ c.close-closed.ensures ∙ ap (λ (o : Outcome). o.view) read) in (
      sym (ap (λ (o : Outcome). o.stop) read) ∙ c.in_default.is,
      (_, ap (λ v. writing text_costs v (fresh 65536)) view ∙ ap (writing text_costs (writer_view c.in_ok-writer.writer)) (sym c.in_ok-sink.ensures) ∙ c.in_ok-write.ensures),
    )

pub returns-in_err-write : goal.returns-in_err-write
returns-in_err-write c =
    let read = c.in_ok-job.ensures in
    let view = sym (c.in_ok-writer.ensures ∙ c.close-closed.ensures ∙ ap (λ (o : Outcome). o.view) read) in
    unwritten c.args.text.now c.in_err-write.field-0.0 _ c.from_residual-in_err-write.ensures.1 (sym (ap (λ (o : Outcome). o.stop) read) ∙ c.in_default.is) (ap (λ v. writing text_costs v (fresh 65536)) view ∙ ap (writing text_costs (writer_view c.in_ok-writer.writer)) (sym c.in_ok-sink.ensures) ∙ c.in_err-write.ensures.0)
