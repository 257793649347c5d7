use Rattle.std.proofs.Common.{◌≡◌, false, map, is_some, Ok, vec_items, sym, refl, ap, ◌∙◌}
use Rattle.words.specs.Parts.{bytes}
use Rattle.sheet.specs.Expects.{words_of}
use Rattle.sheet.specs.Lines.{word_at}
use Rattle.sheet.specs.Sheets.{Draft, find}
use Rattle.job.specs.Views.{open_view}
use Rattle.sheet.specs.Views.{draft_of}
use Rattle.sheet.proofs.LineSteps.{line_declares, passes_up, lacks, names_push, same_draft}
use Rattle.sheet.proofs.reader.Reader.variable.Goals as goal

pub returns-in_err-reserve-clause-steps : goal.returns-in_err-reserve-clause-steps
returns-in_err-reserve-clause-steps c =
    lacks _ (draft_of c.args.self.now) _ _ _ c.from_residual-in_err-reserve.ensures.1 (same_draft _ _ _ _ c.args.self.now.section refl (ap (map (bytes c.args.self.now.text.now)) c.in_err-reserve.ensures.items))

pub returns-in_err-declare-clause-steps : goal.returns-in_err-declare-clause-steps
returns-in_err-declare-clause-steps c =
    let self = c.args.self.now in
    let text = self.text.now in
    let ws = words_of text c.args.line in
    let found = c.in_ok-name.ensures in
    let new : is_some (find (map (bytes text) (vec_items self.names)) (word_at ws 0)) ≡ false =
    sym (sym c.if-is_some.false ∙ c.is_some.ensures ∙ ap is_some (c.find.ensures ∙ ap (λ ps. find (map (bytes text) ps) c.of.result.now) c.deref.ensures.value ∙ ap (find (map (bytes text) (vec_items self.names))) (c.of.ensures ∙ found.1))) in
    let after : Draft = record { view = open_view c.declare.new.self; names = map (bytes text) (vec_items c.reserve.new.self); section = self.section } in
    passes_up (draft_of self) after ws c.from.result c.from-2.result _ _ c.from_residual-in_err-declare.ensures.1 found.0 new (c.from.ensures ∙ found.2) (c.from-2.ensures ∙ found.3) c.in_err-declare.ensures.answers (ap (map (bytes text)) c.reserve.ensures.items) refl

pub returns-clause-steps : goal.returns-clause-steps
returns-clause-steps c =
    let self = c.args.self.now in
    let text = self.text.now in
    let ws = words_of text c.args.line in
    let found = c.in_ok-name.ensures in
    let new : is_some (find (map (bytes text) (vec_items self.names)) (word_at ws 0)) ≡ false =
    sym (sym c.if-is_some.false ∙ c.is_some.ensures ∙ ap is_some (c.find.ensures ∙ ap (λ ps. find (map (bytes text) ps) c.of.result.now) c.deref.ensures.value ∙ ap (find (map (bytes text) (vec_items self.names))) (c.of.ensures ∙ found.1))) in
    line_declares (draft_of self) ws c.from.result c.from-2.result _ found.0 new (c.from.ensures ∙ found.2) (c.from-2.ensures ∙ found.3) c.in_ok-declare.ensures.answers
    ∙ ap Ok (same_draft _ _ _ _ self.section refl (sym (names_push text (vec_items self.names) (vec_items c.reserve.new.self) _ c.in_ok-name.name _ c.push_reserved.ensures.items c.reserve.ensures.items found.1)))
