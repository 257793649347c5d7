use Rattle.ties.proofs.Equivalences.{tied_is_ties}
use Rattle.ties.proofs.classes.Ties.tied.Goals as goal

pub returns-clause-ties : goal.returns-clause-ties
returns-clause-ties c = tied_is_ties _
