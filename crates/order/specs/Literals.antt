-- The literals: the constants, a bit (numbered from 1) and a bit's opposite. Assumes nothing.
use Rattle.std.specs.Prelude.{◌≡◌, ℕ, zero, suc, Bool, true, false, not, ◌==◌, List, slice_index_or}
pub use Rattle.order.specs.declared.literal.Literal.{Literal}
pub use Rattle.order.specs.declared.literal.Literal.TheVariants.{False, True, Bit, Not}

abbrev pub opposite : Literal → Literal
opposite False = True
opposite True = False
opposite (Bit n) = Not n
opposite (Not n) = Bit n

-- whether two literals are one
abbrev pub same : Literal → Literal → Bool
same False False = true
same False True = false
same False (Bit m) = false
same False (Not m) = false
same True False = false
same True True = true
same True (Bit m) = false
same True (Not m) = false
same (Bit n) False = false
same (Bit n) True = false
same (Bit n) (Bit m) = n == m
same (Bit n) (Not m) = false
same (Not n) False = false
same (Not n) True = false
same (Not n) (Bit m) = false
same (Not n) (Not m) = n == m

-- whether a literal is true under an assignment of the bits
abbrev pub truth : (ℕ → Bool) → Literal → Bool
truth β False = false
truth β True = true
truth β (Bit n) = β n
truth β (Not n) = not (β n)

-- whether a literal may be true, where R says what the truth of a bit may be
abbrev pub TruthBy : (ℕ → Bool → Type 0) → Literal → Bool → Type 0
TruthBy R False t = t ≡ false
TruthBy R True t = t ≡ true
TruthBy R (Bit n) t = R n t
TruthBy R (Not n) t = R n (not t)

-- what a list says of the bit n, in its entry n - 1; d where it has none
abbrev pub entry_or : {T : Type 0} → List T → ℕ → T → T
entry_or xs zero d = d
entry_or xs (suc n) d = slice_index_or xs n d
