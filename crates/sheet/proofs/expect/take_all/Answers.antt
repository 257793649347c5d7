use Rattle.std.proofs.Common.{false, [], sym, refl, ap}
use Rattle.std.proofs.lemmas.Bool.Decides.{Decides-eqb}
use Rattle.std.proofs.lemmas.Slice.Eq.{slice_eq-Decides}
use Rattle.sheet.specs.Lines.{rest}
use Rattle.sheet.proofs.Expecting.{fits_first, fits_none, word_taken, word_wrong}
use Rattle.sheet.proofs.expect.take_all.Goals as goal
use Rattle.sheet.proofs.expect.take_all.Goals.{in_default-via-in-Some+else-eq, in_default-via-in_default}

pub returns-in_default : goal.returns-in_default
returns-in_default c = elim c.in_default.branch [
  | in_default-via-in-Some+else-eq w ↦ (let first = w.in-Some.ensures.steps.first in word_wrong _ c.args.expected.now _ _ c.loop-k.k _ _ (fits_first _ _ _ _ _ first (slice_eq-Decides Decides-eqb _ _ _ w.eq.ensures)) (sym (ap rest first)) c.loop-k-test.true c.loop-k.invariant w.if-eq.false)
  | in_default-via-in_default w ↦ (word_wrong _ c.args.expected.now _ _ c.loop-k.k (record { ref_ptr = (0, 0); now = [] }) false (fits_none _ _ w.in_default.ensures.steps.first.0) refl c.loop-k-test.true c.loop-k.invariant refl)
]

pub loop-k-preserved : goal.loop-k-preserved
loop-k-preserved c = let first = c.in-Some.ensures.steps.first in word_taken _ c.args.expected.now _ _ c.loop-k.k _ _ (fits_first _ _ _ _ _ first (slice_eq-Decides Decides-eqb _ _ _ c.eq.ensures)) (sym (ap rest first)) c.loop-k-test.true c.loop-k.invariant c.if-eq.true
