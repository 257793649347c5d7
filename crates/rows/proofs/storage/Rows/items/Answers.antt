use Rattle.std.proofs.Common.{◌∙◌}
use Rattle.flat.specs.Views.{lists_of}
use Rattle.rows.proofs.Posting.{items_at}
use Rattle.rows.proofs.storage.Rows.items.Goals as goal

pub returns : goal.returns
returns c = c.at.ensures ∙ items_at (lists_of c.args.self.now.lists) c.args.place
