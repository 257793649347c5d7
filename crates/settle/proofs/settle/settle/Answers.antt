use Rattle.std.proofs.Common.{length, sym, ap, ◌∙◌, subst}
use Rattle.calls.specs.Jobs.{job_of}
use Rattle.order.specs.Variables.{ranges_of}
use Rattle.ties.specs.Roots.{tied, root_at, free}
use Rattle.rows.specs.Rows.{rows_of}
use Rattle.theory.specs.Closed.{Sound}
use Rattle.settle.specs.Moves.{Further}
use Rattle.settle.specs.Tied.{roots_in}
use Rattle.settle.proofs.Settled.{ready_more, refused_here, closed_here}
use Rattle.settle.proofs.settle.settle.Goals as goal

pub returns-then-not-branch-clause-settles : goal.returns-then-not-branch-clause-settles
returns-then-not-branch-clause-settles g c seated s =
    let j = job_of g.K.Kinds.meaning (ranges_of c.args.variables.now) (rows_of c.args.rows.now) in
    refused_here c.loop-before.invariant _ c.as_ref.ensures.value c.walk.new.self _ c.in_ok-walk.ensures.walked c.if-not-branch.true seated
    (subst (λ f. Sound j (tied f)) (sym (c.in_ok-tied.ensures.roots ∙ ap root_at c.in_ok-clone.ensures.cases)) s)

pub returns-then-free-clause-grows : goal.returns-then-free-clause-grows
returns-then-free-clause-grows g c level =
    let copied = c.in_ok-clone.ensures.cases in
    let walks = c.in_ok-walk.ensures in
    let ready = ready_more c.loop-before.invariant _ c.as_ref.ensures.value c.walk.new.self _ walks.walked walks.ranges c.if-not-branch.false walks.further c.in_ok-start.start c.in_ok-start.ensures.cases in
    subst (λ os. Further os (roots_in c.walk.new.self)) (c.in_ok-tied.ensures.same (ap length copied ∙ level) ∙ copied) ready.further

pub returns-then-free-clause-settles : goal.returns-then-free-clause-settles
returns-then-free-clause-settles g c seated =
    let j = job_of g.K.Kinds.meaning (ranges_of c.args.variables.now) (rows_of c.args.rows.now) in
    let walks = c.in_ok-walk.ensures in
    let same_free = sym c.free.ensures ∙ c.if-free.true ∙ c.free-in-loop-before.ensures ∙ ap free c.in_ok-start.ensures.cases in
    let ready = ready_more c.loop-before.invariant _ c.as_ref.ensures.value c.walk.new.self _ walks.walked walks.ranges c.if-not-branch.false walks.further c.in_ok-start.start c.in_ok-start.ensures.cases in (
      closed_here c.loop-before.invariant _ c.as_ref.ensures.value c.walk.new.self _ walks.walked walks.ranges c.if-not-branch.false walks.further same_free seated,
      λ s. ready.sound seated (subst (λ f. Sound j (tied f)) (sym (c.in_ok-tied.ensures.roots ∙ ap root_at c.in_ok-clone.ensures.cases)) s),
    )

pub loop-before-preserved : goal.loop-before-preserved
loop-before-preserved g c =
    let walks = c.in_ok-walk.ensures in
    ready_more c.loop-before.invariant _ c.as_ref.ensures.value c.walk.new.self _ walks.walked walks.ranges c.if-not-branch.false walks.further c.in_ok-start.start c.in_ok-start.ensures.cases
