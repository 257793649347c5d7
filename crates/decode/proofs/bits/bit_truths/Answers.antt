use Rattle.std.proofs.Common.{◌≡◌, ℕ, ◌+◌, Bool, length, vec_items, sym, ap, ◌∙◌, arith}
use Rattle.std.proofs.lemmas.List.{length_push}
use Rattle.order.specs.Literals.{truth}
use Rattle.ties.specs.Roots.{root_at, free_to}
use Rattle.ties.specs.Views.{roots_of}
use Rattle.cnf.specs.Encoded.{bits_in}
use Rattle.theory.specs.Truth.{through}
use Rattle.decode.specs.Bits.{number_at}
use Rattle.decode.proofs.BitSteps.{bits_turn, bits_all, bit_root_there}
use Rattle.decode.proofs.bits.bit_truths.Goals as goal
use Rattle.decode.proofs.bits.bit_truths.Goals.{else-loop-n-test, then-loop-n-test+in_ok-push+else-n-count}

pub loop-n-preserved : goal.loop-n-preserved
loop-n-preserved c =
    let f = root_at (roots_of c.args.ties.now) in
    let α : ℕ → Bool = λ m. number_at c.args.truths.now (free_to f m) in
    let n = c.loop-n.n in
    let numbered = c.in_ok-numbering.ensures in
    let root = c.root-root.ensures.value in
    let inside = bit_root_there f _ n c.root-root.result c.args.ties.now.named (omega arith) (omega (arith, numbered.bits)) root in
    let shown = c.root_truth.ensures inside ∙ ap (λ h. truth (λ m. number_at c.args.truths.now (free_to h m)) c.root-root.result) numbered.roots ∙ ap (truth α) root in
    let turn = bits_turn f α _ _ n c.root_truth.result c.loop-n.invariant.0 c.loop-n.invariant.1 c.in_ok-push.ensures.items shown in
    (omega (arith, turn.0), turn.1, omega arith)

pub returns : goal.returns
returns c = elim c.loop-n-test.branch [
  | else-loop-n-test w ↦ bits_all _ _ _ _ (ap vec_items w.bits-is) (omega (arith, c.loop-n.invariant.0, c.loop-n.invariant.2, c.len-count.ensures)) c.loop-n.invariant.1
  | then-loop-n-test+in_ok-push+else-n-count w ↦
      let f = root_at (roots_of c.args.ties.now) in
      let α : ℕ → Bool = λ m. number_at c.args.truths.now (free_to f m) in
      let n = c.loop-n.n in
      let numbered = c.in_ok-numbering.ensures in
      let root = w.root-root.ensures.value in
      let inside = bit_root_there f _ n w.root-root.result c.args.ties.now.named (omega arith) (omega (arith, numbered.bits)) root in
      let shown = w.root_truth.ensures inside ∙ ap (λ h. truth (λ m. number_at c.args.truths.now (free_to h m)) w.root-root.result) numbered.roots ∙ ap (truth α) root in
      let turn = bits_turn f α _ _ n w.root_truth.result c.loop-n.invariant.0 c.loop-n.invariant.1 w.in_ok-push.ensures.items shown in
      bits_all _ _ _ _ (ap vec_items w.bits-is) (omega (arith, turn.0)) turn.1
]
