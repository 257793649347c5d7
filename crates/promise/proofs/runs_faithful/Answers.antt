use Rattle.std.proofs.Common.{refl}
use Rattle.promise.proofs.Agreeing.{runs_faithful}
use Rattle.promise.proofs.runs_faithful.Goals as goal

pub returns : goal.returns
returns c = record { number = refl; faithful = runs_faithful }
