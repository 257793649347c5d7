use Rattle.std.proofs.Common.{◌+◌, vec_items, sym, ◌∙◌, arith}
use Rattle.answers.proofs.Setting.{mark_read, next_within, truths_more, truths_stop}
use Rattle.answers.proofs.assignment.assignment.Goals as goal

pub returns-in_default : goal.returns-in_default
returns-in_default c =
    let lits = c.args.lits.now in
    let i = c.loop-mark.mark-index in
    let read = mark_read lits c.in_ok-marks.marks.items c.deref.result.now (c.from.result + 1) i c.in_ok-marks.ensures c.deref.ensures.value c.loop-mark-test.true in
    let next = next_within lits c.in_ok-marks.marks.items c.deref.result.now (c.from.result + 1) i c.in_ok-marks.ensures c.deref.ensures.value c.loop-mark-test.true in
    truths_stop lits (i + 1) (vec_items c.loop-mark.truths) c.loop-mark.invariant (omega arith) c.args.variables (omega arith) (λ t e. c.in_default.not-Set t (sym read ∙ e))

pub loop-mark-preserved : goal.loop-mark-preserved
loop-mark-preserved c =
    let lits = c.args.lits.now in
    let i = c.loop-mark.mark-index in
    let read = mark_read lits c.in_ok-marks.marks.items c.deref.result.now (c.from.result + 1) i c.in_ok-marks.ensures c.deref.ensures.value c.loop-mark-test.true in
    truths_more lits (i + 1) (vec_items c.loop-mark.truths) c.loop-mark.invariant (omega arith) c.in-Set.truth (vec_items c.push-in-loop-mark.new.self) (read ∙ c.in-Set.is) c.in_ok-push-2.ensures.items
