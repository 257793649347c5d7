use Rattle.std.proofs.Common.{◌≡◌, length, Ok, Err, sym, refl, ap, ◌∙◌, subst, arith}
use Rattle.std.proofs.lemmas.Bool.{ltb-true, ltb-false}
use Rattle.words.specs.Lines.{lines_left}
use Rattle.words.specs.Parts.{bytes}
use Rattle.words.specs.Split.{words, lines}
use Rattle.sheet.specs.Reads.{Steps}
use Rattle.sheet.specs.Sheets.{reading, read_lines, line_step}
use Rattle.sheet.specs.Views.{draft_of, outcome_of}
use Rattle.sheet.proofs.Rounds.{starts, reading_short, reading_long, goes_on, halts, ends, lines_few, first_by_place}
use Rattle.sheet.proofs.reader.Sheet.read.Goals as goal

pub loop-part-init : goal.loop-part-init
loop-part-init c =
    let text = c.args.text.now in
    let short = ltb-false _ _ (sym c.if-too_long.ensures) in
    let same = c.into_iter-part-iterator.ensures.into_iter_gives in
    let all : lines_left c.into_iter-part-iterator.result ≡ lines text = ap lines_left same ∙ c.of-part-items.ensures.all in
    let few = lines_few text in
    let many = ap length all in (
      reading_short text _ (starts text _ _ c.new.ensures c.new-2.ensures.items) short ∙ ap (read_lines _ 1) (sym all),
      refl,
      ap (λ l. l.text.now) same ∙ c.of-part-items.ensures.text,
      short,
      omega arith,
    )

pub returns-then-too_long : goal.returns-then-too_long
returns-then-too_long c = c.stopped.ensures ∙ sym (reading_long c.args.text.now _ (starts c.args.text.now _ _ c.new.ensures c.new-2.ensures.items) (ltb-true _ _ (sym c.if-too_long.ensures)))

pub returns-in-Err : goal.returns-in-Err
returns-in-Err c =
    let text = c.args.text.now in
    let d = draft_of c.loop-part.reader in
    let inv = c.loop-part.invariant in
    let line = c.in-Some.ensures.steps in
    let steps = subst (λ t. Steps (line_step d.section d (words (bytes t c.in-Some.part))) (Err c.in-Err.fault) d (draft_of c.take.new.self)) inv.1 c.in-Err.ensures.steps in
    halts (reading text) d c.loop-part.line _ _ (bytes text c.in-Some.part) inv.0 (first_by_place text _ c.in-Some.part _ _ _ inv.2 line.by_place line.first) c.in-Err.fault text _ _ c.halted.result (ap (λ t. t.now) c.in-Err.ensures.text ∙ inv.1) steps c.halted.ensures

pub overflow_add-line : goal.overflow_add-line
overflow_add-line c =
    let inv = c.loop-part.invariant in
    let n = ap length c.in-Some.ensures.steps.first in
    omega (arith, inv.3, inv.4)

pub loop-part-preserved : goal.loop-part-preserved
loop-part-preserved c =
    let text = c.args.text.now in
    let d = draft_of c.loop-part.reader in
    let inv = c.loop-part.invariant in
    let line = c.in-Some.ensures.steps in
    let step = subst (λ t. line_step d.section d (words (bytes t c.in-Some.part)) ≡ Ok (draft_of c.take.new.self)) inv.1 c.in_default.ensures.steps in
    let n = ap length line.first in (
      goes_on (reading text) d c.loop-part.line _ _ (bytes text c.in-Some.part) inv.0 (first_by_place text _ c.in-Some.part _ _ _ inv.2 line.by_place line.first) _ step,
      ap (λ t. t.now) c.in_default.ensures.text ∙ inv.1,
      line.text ∙ inv.2,
      inv.3,
      omega (arith, inv.4),
    )

pub returns : goal.returns
returns c =
    let inv = c.loop-part.invariant in
    sym (ap (λ t. outcome_of t c.ended.result) inv.1) ∙ c.ended.ensures
    ∙ sym (ends (reading c.args.text.now) (draft_of c.loop-part.reader) c.loop-part.line _ inv.0 c.in-None.ensures.steps.first.0)
