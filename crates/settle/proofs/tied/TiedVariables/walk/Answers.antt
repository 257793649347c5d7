use Rattle.std.proofs.Common.{refl, ap, ◌∙◌, arith}
use Rattle.std.proofs.lemmas.List.{length_push}
use Rattle.kinds.specs.Items.{pairing}
use Rattle.rows.specs.Rows.{rows_of}
use Rattle.settle.specs.Listed.{clause_list, pairing_list}
use Rattle.settle.specs.Parts.{part_clauses, part_pairings}
use Rattle.settle.specs.Tied.{roots_in}
use Rattle.settle.proofs.Going.{going_none, going_clause, refuses_clause, going_pairing, refuses_pairing, going_part, going_over, going_end}
use Rattle.settle.proofs.PartTurns.{item_at_turn, turns_in_items}
use Rattle.settle.proofs.tied.TiedVariables.walk.Goals as goal

pub walk-init : goal.walk-init
walk-init g c = (refl, going_none _ _ _ _ c.args.self.now refl)

pub walk-preserved-then-not-part_moved : goal.walk-preserved-then-not-part_moved
walk-preserved-then-not-part_moved g c = (
  c.walk.invariant.0,
  going_over c.walk.invariant.1 (omega (arith, c.len.ensures, c.len-2.ensures)) g.met.K.Kinds.lawful (c.if-not-part_moved.ensures refl),
)

pub returns-in_err-list-clause-ranges : goal.returns-in_err-list-clause-ranges
returns-in_err-list-clause-ranges g c = c.walk.invariant.1.same

pub loop-clause-init : goal.loop-clause-init
loop-clause-init g c = c.walk.invariant

pub loop-clause-preserved : goal.loop-clause-preserved
loop-clause-preserved g c =
    let clauses-are = ap (λ rs. part_clauses g.K.Kinds.meaning rs (rows_of c.args.rows.now) c.walk.place) c.walk.invariant.1.same in
    let here = item_at_turn clause_list (λ l. l.items) (λ x. refl) _ _ clauses-are _ c.in_ok-list.ensures.clauses _ c.into_iter-clause-iterator.ensures.into_iter_gives c.loop-clause.yielded c.loop-clause.clause-iterator c.loop-clause.yielded_by _ c.next.new.self (c.in-Some.field-0-0, c.in-Some.clause) c.in-Some.is c.next.ensures.steps in
    (c.loop-clause.invariant.0, rw length_push (going_clause c.loop-clause.invariant.1 (omega (arith, c.len.ensures, c.len-2.ensures)) here.0 here.1 c.heed.new.self c.if-not-heed.ensures.heeded c.heed.ensures.ranges))

pub loop-gives-init : goal.loop-gives-init
loop-gives-init g c =
    let clauses-are = ap (λ rs. part_clauses g.K.Kinds.meaning rs (rows_of c.args.rows.now) c.walk.place) c.walk.invariant.1.same in
    let all = turns_in_items clause_list (λ l. l.items) (λ x. refl) _ _ clauses-are _ c.in_ok-list.ensures.clauses _ c.into_iter-clause-iterator.ensures.into_iter_gives c.loop-clause.yielded c.loop-clause.clause-iterator c.loop-clause.yielded_by _ c.next.new.self c.in-None.is c.next.ensures.steps in
    rw (← all) c.loop-clause.invariant

pub loop-gives-preserved : goal.loop-gives-preserved
loop-gives-preserved g c =
    let pairings-are = ap (λ rs. part_pairings g.K.Kinds.meaning rs (rows_of c.args.rows.now) c.walk.place) c.walk.invariant.1.same in
    let here = item_at_turn pairing_list (λ l. pairing l.items l.head) (λ x. refl) _ _ pairings-are _ c.in_ok-list.ensures.pairings _ c.into_iter-gives-iterator.ensures.into_iter_gives c.loop-gives.yielded c.loop-gives.gives-iterator c.loop-gives.yielded_by _ c.next-in-loop-gives.new.self (c.in-Some-2.gives, c.in-Some-2.premise) c.in-Some-2.is c.next-in-loop-gives.ensures.steps in
    (c.loop-gives.invariant.0, rw length_push (going_pairing c.loop-gives.invariant.1 (omega (arith, c.len.ensures, c.len-2.ensures)) here.0 here.1 c.follow.new.self c.if-not-follow.ensures.followed c.follow.ensures.ranges))

pub walk-preserved : goal.walk-preserved
walk-preserved g c =
    let pairings-are = ap (λ rs. part_pairings g.K.Kinds.meaning rs (rows_of c.args.rows.now) c.walk.place) c.walk.invariant.1.same in
    let all = turns_in_items pairing_list (λ l. pairing l.items l.head) (λ x. refl) _ _ pairings-are _ c.in_ok-list.ensures.pairings _ c.into_iter-gives-iterator.ensures.into_iter_gives c.loop-gives.yielded c.loop-gives.gives-iterator c.loop-gives.yielded_by _ c.next-in-loop-gives.new.self c.in-None-2.is c.next-in-loop-gives.ensures.steps in
    (c.loop-gives.invariant.0, going_part c.loop-gives.invariant.1 (omega arith) (omega (arith, all)))

pub returns-after-walk-clause-ranges : goal.returns-after-walk-clause-ranges
returns-after-walk-clause-ranges g c = c.walk.invariant.1.same

pub returns-after-walk-clause-further : goal.returns-after-walk-clause-further
returns-after-walk-clause-further g c = rw c.walk.invariant.0 c.walk.invariant.1.further

pub returns-after-walk-clause-walked : goal.returns-after-walk-clause-walked
returns-after-walk-clause-walked g c seated seen =
    rw c.walk.invariant.0 (going_end c.walk.invariant.1 (omega (arith, c.len.ensures, c.len-2.ensures)) (record { seated = seated; seen = seen }))

pub returns-then-not-heed-clause-ranges : goal.returns-then-not-heed-clause-ranges
returns-then-not-heed-clause-ranges g c = c.heed.ensures.ranges ∙ c.loop-clause.invariant.1.same

pub returns-then-not-heed-clause-walked : goal.returns-then-not-heed-clause-walked
returns-then-not-heed-clause-walked g c seated seen =
    let clauses-are = ap (λ rs. part_clauses g.K.Kinds.meaning rs (rows_of c.args.rows.now) c.walk.place) c.walk.invariant.1.same in
    let here = item_at_turn clause_list (λ l. l.items) (λ x. refl) _ _ clauses-are _ c.in_ok-list.ensures.clauses _ c.into_iter-clause-iterator.ensures.into_iter_gives c.loop-clause.yielded c.loop-clause.clause-iterator c.loop-clause.yielded_by _ c.next.new.self (c.in-Some.field-0-0, c.in-Some.clause) c.in-Some.is c.next.ensures.steps in
    refuses_clause c.loop-clause.invariant.1 (omega (arith, c.len.ensures, c.len-2.ensures)) here.0 here.1 (roots_in c.heed.new.self) c.if-not-heed.ensures.heeded (record { seated = seated; seen = seen })

pub returns-then-not-follow-clause-ranges : goal.returns-then-not-follow-clause-ranges
returns-then-not-follow-clause-ranges g c = c.follow.ensures.ranges ∙ c.loop-gives.invariant.1.same

pub returns-then-not-follow-clause-walked : goal.returns-then-not-follow-clause-walked
returns-then-not-follow-clause-walked g c seated seen =
    let pairings-are = ap (λ rs. part_pairings g.K.Kinds.meaning rs (rows_of c.args.rows.now) c.walk.place) c.walk.invariant.1.same in
    let here = item_at_turn pairing_list (λ l. pairing l.items l.head) (λ x. refl) _ _ pairings-are _ c.in_ok-list.ensures.pairings _ c.into_iter-gives-iterator.ensures.into_iter_gives c.loop-gives.yielded c.loop-gives.gives-iterator c.loop-gives.yielded_by _ c.next-in-loop-gives.new.self (c.in-Some-2.gives, c.in-Some-2.premise) c.in-Some-2.is c.next-in-loop-gives.ensures.steps in
    refuses_pairing c.loop-gives.invariant.1 (omega (arith, c.len.ensures, c.len-2.ensures)) here.0 here.1 (roots_in c.follow.new.self) c.if-not-follow.ensures.followed (record { seated = seated; seen = seen })
