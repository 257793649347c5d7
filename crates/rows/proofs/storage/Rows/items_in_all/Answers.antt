use Rattle.std.proofs.Common.{arith}
use Rattle.rows.proofs.Posting.{rows_items}
use Rattle.rows.proofs.storage.Rows.items_in_all.Goals as goal

pub returns : goal.returns
returns c = omega (arith, rows_items c.args.self.now)
