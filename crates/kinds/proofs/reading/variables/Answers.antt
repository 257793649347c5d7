use Rattle.std.proofs.Common.{rules}
use Rattle.kinds.specs.Items.{var}
use Rattle.kinds.proofs.Making.{all_made}
use Rattle.kinds.proofs.reading.variables.Goals as goal

pub returns : goal.returns
returns g c = all_made _ _ (var c.args.items.now) (λ i y q h. search rules) _ g.row.N 0 c.from_fn.ensures.items
