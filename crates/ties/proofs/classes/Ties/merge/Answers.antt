use Rattle.ties.proofs.Moves.{ordered_merged}
use Rattle.ties.proofs.classes.Ties.merge.Goals as goal

pub returns : goal.returns
returns c = ordered_merged _ _ c.in_order-new.ensures.both c.replace.ensures
