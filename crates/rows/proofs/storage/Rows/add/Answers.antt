use Rattle.std.proofs.Common.{sym, refl, ap, map, ◌∙◌, arith}
use Rattle.std.proofs.lemmas.List.{map_push}
use Rattle.std.proofs.lemmas.Result.{err_from_is_err_and}
use Rattle.rows.specs.Rows.{row_of}
use Rattle.rows.proofs.Posting.{rows_length, rows_room, items_room, items_full}
use Rattle.rows.proofs.storage.Rows.add.Goals as goal

pub returns-then-items-items_in_all-clause-adds : goal.returns-then-items-items_in_all-clause-adds
returns-then-items-items_in_all-clause-adds c = (rows_room c.args.self.now (omega arith), items_full c.args.self.now _ (omega arith), refl)

pub returns-in_err-push-clause-adds : goal.returns-in_err-push-clause-adds
returns-in_err-push-clause-adds c =
    let p = err_from_is_err_and c.from_residual.result c.from_residual.ensures.1 in
    rw (p.1, p.2)
    (rows_room c.args.self.now (omega arith), items_room c.args.self.now _ (omega arith), ap (map row_of) c.in_err-push.ensures.lists)

pub returns-clause-adds : goal.returns-clause-adds
returns-clause-adds c =
    let r = c.args.self.now in (
      rows_room r (omega arith),
      items_room r _ (omega arith),
      c.len-place.ensures ∙ sym (rows_length r),
      ap (map row_of) c.in_ok-push.ensures.lists ∙ map_push row_of _ _,
    )
