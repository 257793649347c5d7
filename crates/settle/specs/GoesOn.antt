-- What a further root does to what is left of a clause. Assumes nothing.
use Rattle.std.specs.Prelude.{◌≡◌, false, ◌⊎◌, Option, Some, None}
use Rattle.order.specs.declared.literal.Literal.{Literal}
use Rattle.order.specs.declared.literal.Literal.TheVariants.{False, True}
use Rattle.order.specs.Literals.{same}

-- true, or a second literal, is enough; false and repeats change nothing, and a first literal is what is left
abbrev pub GoesOn : Option Literal → Literal → Literal → Type 0
GoesOn None last root = (root ≡ True) ⊎ ((same last False ≡ false) × (same root False ≡ false) × (same root last ≡ false))
GoesOn (Some l) last root = ((l ≡ last) × ((root ≡ False) ⊎ (root ≡ last))) ⊎ ((l ≡ root) × (last ≡ False) × (same root True ≡ false))
