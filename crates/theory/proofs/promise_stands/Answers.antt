use Rattle.std.proofs.Common.{refl}
use Rattle.theory.proofs.Growing.{larger_keeps}
use Rattle.theory.proofs.KindRows.{kinds_lawful}
use Rattle.theory.proofs.LayingOut.{lays_out}
use Rattle.theory.proofs.Promising.{promises}
use Rattle.theory.proofs.Rounding.{rounds}
use Rattle.theory.proofs.Settling.{settles}
use Rattle.theory.proofs.promise_stands.Goals as goal

pub returns : goal.returns
returns c = record { number = refl; kinds = kinds_lawful; promise = promises; layouts = lays_out; settling = settles; rounds = rounds; growth = larger_keeps }
