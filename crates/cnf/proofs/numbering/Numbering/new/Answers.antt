use Rattle.std.proofs.Common.{◌+◌, length, vec_items, sym, ap, ◌∙◌, subst, arith}
use Rattle.std.proofs.lemmas.List.{length_push}
use Rattle.order.specs.declared.literal.Literal.TheVariants.{Bit}
use Rattle.order.proofs.Signs.{eq_same}
use Rattle.cnf.proofs.NumberSteps.{Numbered, numbered_more, free_few}
use Rattle.cnf.proofs.numbering.Numbering.new.Goals as goal

pub overflow_add-free : goal.overflow_add-free
overflow_add-free g c =
    let f = g.R.Roots.root c.args.roots.now in
    let old = c.loop-n.invariant in
    let more = numbered_more f (vec_items c.loop-n.numbers) c.loop-n.free c.from-free.result c.loop-n.n c.eq.result c.root_of.result old.numbered old.long c.root_of.ensures (c.eq.ensures ∙ eq_same c.root_of.result (Bit c.loop-n.n)) c.from-free.ensures in
    omega (arith, more.0, old.numbered.free, free_few f (length (vec_items c.loop-n.numbers)))

pub loop-n-preserved : goal.loop-n-preserved
loop-n-preserved g c =
    let f = g.R.Roots.root c.args.roots.now in
    let old = c.loop-n.invariant in
    let push = c.push_reserved.ensures.items in
    let more = numbered_more f (vec_items c.loop-n.numbers) c.loop-n.free c.from-free.result c.loop-n.n c.eq.result c.root_of.result old.numbered old.long c.root_of.ensures (c.eq.ensures ∙ eq_same c.root_of.result (Bit c.loop-n.n)) c.from-free.ensures in
    record {
      numbered = subst (λ ns. Numbered f ns (c.loop-n.free + c.from-free.result)) (sym push) more.1;
      long = omega (arith, ap length push, length_push (vec_items c.loop-n.numbers) (c.loop-n.free + c.from-free.result));
      room = c.push_reserved.ensures.capacity ∙ old.room;
    }
