-- What tied variables stand for. Assumes nothing.
use Rattle.std.specs.Prelude.{List}
use Rattle.order.specs.declared.literal.Literal.{Literal}
use Rattle.order.specs.declared.range.Range.{Range}
use Rattle.order.specs.Variables.{ranges_of}
use Rattle.ties.specs.Views.{roots_of}
use Rattle.settle.specs.declared.tied.TiedVariables.{TiedVariables}

-- the ranges of the variables
abbrev pub ranges_in : TiedVariables → List Range
ranges_in t = ranges_of t.variables.now

-- the roots of the bits
abbrev pub roots_in : TiedVariables → List Literal
roots_in t = roots_of t.ties
