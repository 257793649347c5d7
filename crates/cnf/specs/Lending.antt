-- What an encoder is once the clause that it lent is given back. Assumes nothing.
use Rattle.std.specs.Prelude.{[]}
use Rattle.std.specs.Borrow.{MutBor, Fml, RattleType}
use Rattle.std.specs.Io.BufRead.{Rests}
use mir.Syntax.{named}
use Rattle.cnf.specs.contracts.encode.Encoder.{the_row}
use Rattle.cnf.specs.declared.encode.Encoder.{Encoder}
use Rattle.cnf.specs.declared.roots.Roots.{Ghosts}
use Rattle.cnf.specs.Encoded.{EncodesSame}

-- it encodes as before
abbrev pub LendsClause : (R : RattleType) (g : Ghosts R.Denot) → MutBor (Encoder R.Denot g) → Fml
LendsClause R g e = Rests (the_row (record { mir = named 0; lft = [] }) R g) e (EncodesSame e.now)
