use Rattle.std.proofs.Common.{rules, tests, not, ◌&&◌, nat_eq, sym, ap, ◌∙◌}
use Rattle.std.proofs.lemmas.Bool.{eq-eqb, ne_eqb}
use Rattle.std.proofs.lemmas.Iterator.{YieldsList-from_slice}
use Rattle.std.proofs.lemmas.Iterator.Search.{all_from_yields_List}
use Rattle.answers.specs.Assignments.{zero_ends}
use Rattle.answers.proofs.Ending.{no_zeros, zero_ends_last}
use Rattle.answers.proofs.assignment.ends_with_zero.Goals as goal

pub returns-then-last-eq0 : goal.returns-then-last-eq0
returns-then-last-eq0 c =
    let last = c.in-Some.last.now in
    let others = c.in-Some.others.now in
    all_from_yields_List (λ l. not (nat_eq l.variable 0)) _ _ c.all.result c.all.ensures.ran (YieldsList-from_slice others cc) (λ x b q k. search (rules, tests))
    ∙ sym (ap zero_ends c.in-Some.ensures.cases.0 ∙ zero_ends_last others last ∙ ap (λ b. b && no_zeros others) (eq-eqb last.variable 0 c.if-last-eq0.true))

pub returns-else-last-eq0 : goal.returns-else-last-eq0
returns-else-last-eq0 c =
    let last = c.in-Some.last.now in
    let others = c.in-Some.others.now in
    let none = ne_eqb last.variable 0 c.if-last-eq0.false in
    none ∙ sym (ap zero_ends c.in-Some.ensures.cases.0 ∙ zero_ends_last others last ∙ ap (λ b. b && no_zeros others) none)
