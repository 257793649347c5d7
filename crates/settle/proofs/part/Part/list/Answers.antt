use Rattle.std.proofs.Common.{◌-◌, ◌<◌, ◌≤◌, length, sym, refl, ap, ◌∙◌, arith}
use Rattle.order.specs.Variables.{ranges_of}
use Rattle.rows.specs.Rows.{rows_of, posted}
use Rattle.settle.specs.declared.part.Part.{Part}
use Rattle.settle.specs.Listed.{clause_list, pairing_list}
use Rattle.settle.proofs.PartLists.{lists_all, on_ok, variable_clauses_are, variable_pairings_are, read_clauses_are, read_pairings_are}
use Rattle.settle.proofs.part.Part.list.Goals as goal
use Rattle.settle.proofs.part.Part.list.Goals.{then-place-count, else-place-count}

pub returns-clause-clauses : goal.returns-clause-clauses
returns-clause-clauses g c =
    let m = g.K.Kinds.meaning in
    let rs = ranges_of c.args.variables.now in
    let ps = rows_of c.args.rows.now in
    let place = c.args.place in
    on_ok _
    (λ _. elim c.if-place-count.branch [
      | then-place-count w ↦
          let lt : place < length rs = omega (arith, w.if-place-count.true, c.len-count.ensures) in
          lists_all clause_list _ _ _ _ _ w.visit_order.ensures c.restart.ensures.none (ap (λ (p : Part). p.clauses) w.self-is) (sym (variable_clauses_are m rs ps place lt)) c.in_ok-self.was
      | else-place-count w ↦
          let le : length rs ≤ place = omega (arith, w.if-place-count.false, c.len-count.ensures) in
          let code_is = w.row-row.ensures.code ∙ ap (λ n. (posted ps (place - n)).code) c.len-count.ensures in
          let items-are = w.row-row.ensures.items ∙ ap (λ n. (posted ps (place - n)).items) c.len-count.ensures in
          lists_all clause_list _ _ _ _ _ w.visit_clauses.ensures c.restart.ensures.none (ap (λ (p : Part). p.clauses) w.self-is) (read_clauses_are m rs ps place le _ _ _ code_is items-are w.ranges-else-place-count.ensures) c.in_ok-self.was
    ])

pub returns-clause-pairings : goal.returns-clause-pairings
returns-clause-pairings g c =
    let m = g.K.Kinds.meaning in
    let rs = ranges_of c.args.variables.now in
    let ps = rows_of c.args.rows.now in
    let place = c.args.place in
    on_ok _
    (λ taken. elim c.if-place-count.branch [
      | then-place-count w ↦
          let lt : place < length rs = omega (arith, w.if-place-count.true, c.len-count.ensures) in
          lists_all pairing_list _ _ c.restart-2.new.self c.restart-2.new.self _ refl c.restart-2.ensures.none (ap (λ (p : Part). p.pairings) w.self-is) (sym (variable_pairings_are m rs ps place lt)) taken
      | else-place-count w ↦
          let le : length rs ≤ place = omega (arith, w.if-place-count.false, c.len-count.ensures) in
          let code_is = w.row-row.ensures.code ∙ ap (λ n. (posted ps (place - n)).code) c.len-count.ensures in
          let items-are = w.row-row.ensures.items ∙ ap (λ n. (posted ps (place - n)).items) c.len-count.ensures in
          lists_all pairing_list _ _ _ _ _ w.tell_pairings.ensures c.restart-2.ensures.none (ap (λ (p : Part). p.pairings) w.self-is) (read_pairings_are m rs ps place le _ _ _ code_is items-are w.ranges-else-place-count-2.ensures) taken
    ])
