use Rattle.std.proofs.Common.{set, get_or, sym, ap, ◌∙◌, arith}
use Rattle.std.proofs.lemmas.List.{get_or_default}
use Rattle.std.proofs.lemmas.List.Edits.{map_over_more}
use Rattle.order.specs.declared.literal.Literal.TheVariants.{False}
use Rattle.order.proofs.Signs.{eq_same}
use Rattle.ties.specs.Moves.{replaced}
use Rattle.ties.proofs.Moves.{replaced_alike, replaced_opposed, replaced_apart}
use Rattle.ties.proofs.joins.replace_all.Goals as goal
use Rattle.ties.proofs.joins.replace_all.Goals.{then-eq, else-eq+then-eq-2, else-eq+else-eq-2}

pub loop-root-preserved : goal.loop-root-preserved
loop-root-preserved c =
    let old = c.args.old in
    let new = c.args.new in
    let items = c.loop-root.root-items in
    let i = c.loop-root.root-index in
    let x = get_or items i False in
    let more = map_over_more (replaced old new) c.args.roots.now items i x c.loop-root-test.true c.loop-root.invariant (get_or_default items i False x (omega (arith, c.loop-root-test.true, c.loop-root.auto.root-items))) in
    let alike = sym (eq_same x old) ∙ sym c.eq.ensures in
    elim c.if-eq.branch [
      | then-eq w ↦ w.root-items-is ∙ ap (set items i) (replaced_alike old new x (alike ∙ w.if-eq.true)) ∙ more
      | else-eq+then-eq-2 w ↦
          let opposed = sym (eq_same x c.opposite-old_opposite.result) ∙ sym w.eq-else-eq.ensures ∙ w.if-eq-2.true in
          w.root-items-is ∙ ap (set items i) (replaced_opposed old new x _ _ (alike ∙ w.if-eq.false) opposed c.opposite-old_opposite.ensures c.opposite-new_opposite.ensures) ∙ more
      | else-eq+else-eq-2 w ↦
          let apart = sym (eq_same x c.opposite-old_opposite.result) ∙ sym w.eq-else-eq.ensures ∙ w.if-eq-2.false in
          w.root-items-is ∙ ap (set items i) (replaced_apart old new x _ (alike ∙ w.if-eq.false) apart c.opposite-old_opposite.ensures) ∙ more
    ]
