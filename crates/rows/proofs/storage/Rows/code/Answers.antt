use Rattle.std.proofs.Common.{unwrap_or, ap, ◌∙◌}
use Rattle.flat.specs.Views.{lists_of}
use Rattle.rows.proofs.Posting.{code_at}
use Rattle.rows.proofs.storage.Rows.code.Goals as goal

pub returns : goal.returns
returns c = c.unwrap_or.ensures ∙ ap (λ o. unwrap_or o 0) c.head.ensures ∙ code_at (lists_of c.args.self.now.lists) c.args.place
