use Rattle.std.specs.Prelude.{Bool, true, false, cond}
use Rattle.kinds.specs.Meaning.{Meaning, Lawful}

-- of two lawful meanings, either is lawful
pub either : (b : Bool) (m n : Meaning) → Lawful m → Lawful n → Lawful (cond b m n)
either true m n l k = l
either false m n l k = k
