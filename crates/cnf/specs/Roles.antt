-- What a literal comes to in a clause of which some literals are kept. Assumes nothing.
use Rattle.std.specs.Prelude.{◌≡◌, true, false, ◌⊎◌, List, ◌≢◌}
use Rattle.order.specs.declared.literal.Literal.{Literal}
use Rattle.order.specs.declared.literal.Literal.TheVariants.{False, True}
use Rattle.order.specs.Literals.{opposite}
use Rattle.cnf.specs.declared.role.Role.{Role}
use Rattle.cnf.specs.declared.role.Role.TheVariants.{Settles, Idle, New}
use Rattle.cnf.specs.Reduced.{has}

-- true and the opposite of what is kept settle a clause; false and repeats say nothing
abbrev pub Plays : List Literal → Literal → Role → Type 0
Plays d l Settles = (l ≡ True) ⊎ (has d (opposite l) ≡ true)
Plays d l Idle = (l ≡ False) ⊎ ((l ≢ True) × (has d l ≡ true))
Plays d l New = (l ≢ True) × (l ≢ False) × (has d l ≡ false) × (has d (opposite l) ≡ false)
