-- What a numbering and an encoder stand for. Assumes nothing.
use Rattle.std.specs.Prelude.{◌≡◌, ℕ, List, length, vec_items}
use Rattle.order.specs.declared.bound.Bound.{Bound}
use Rattle.order.specs.declared.literal.Literal.{Literal}
use Rattle.order.specs.declared.range.Range.{Range}
use Rattle.order.specs.Variables.{ranges_of}
use Rattle.sink.specs.declared.lit.Lit.{Lit}
use Rattle.cnf.specs.declared.encode.Encoder.{Encoder}
use Rattle.cnf.specs.declared.numbering.Numbering.{Numbering}
use Rattle.cnf.specs.declared.roots.Roots.{Ghosts}
use Rattle.cnf.specs.Numbered.{written_clause, written_all}

module _ {R : Type 0} {g : Ghosts R} where
  -- the root of each bit
  abbrev pub root_in : Numbering R g → ℕ → Literal
  root_in n = g.root n.roots.now

  -- how many bits have their number
  abbrev pub bits_in : Numbering R g → ℕ
  bits_in n = length (vec_items n.numbers)

  -- the range of each variable
  abbrev pub encoder_ranges : Encoder R g → List Range
  encoder_ranges e = ranges_of e.variables.now

  -- the root of each bit of the variables
  abbrev pub encoder_root : Encoder R g → ℕ → Literal
  encoder_root e = root_in e.numbering

  -- what is written of a clause of bounds: one clause or none
  abbrev pub encoded : Encoder R g → List Bound → List (List Lit)
  encoded e c = written_clause (encoder_ranges e) (encoder_root e) c

  -- what is written of a list of clauses
  abbrev pub encoded_all : Encoder R g → List (List Bound) → List (List Lit)
  encoded_all e cs = written_all (encoder_ranges e) (encoder_root e) cs

  -- the same variables, and the same numbers of their bits
  pub record EncodesSame (old new : Encoder R g) : Type 0 where
    pub variables : new.variables ≡ old.variables
    pub numbering : new.numbering ≡ old.numbering
