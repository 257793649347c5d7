use Rattle.std.proofs.Common.{refl}
use Rattle.calls.proofs.Keeping.{calls_keep}
use Rattle.calls.proofs.calls_keep.Goals as goal

pub returns : goal.returns
returns c = record { number = refl; keeps = calls_keep }
