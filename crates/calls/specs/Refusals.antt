-- The number of each refusal, and what the layers below refuse. Assumes nothing.
use Rattle.std.specs.Prelude.{ℕ}
use Rattle.order.specs.declared.variables.adding.AddError.{AddError}
use Rattle.order.specs.declared.variables.adding.AddError.TheVariants.{TooManyVariables as MoreVariables, TooManyBits as MoreBits, NoMemory as Lack}
use Rattle.ties.specs.declared.classes.growing.GrowError.{GrowError}
use Rattle.ties.specs.declared.classes.growing.GrowError.TheVariants.{TooManyBits as GrownBits, NoMemory as GrownLack}
use Rattle.calls.specs.declared.refusal.Fault.{Fault}
use Rattle.calls.specs.declared.refusal.Fault.TheVariants.{Refused, NoMemory}
use Rattle.calls.specs.declared.refusal.Refusal.{Refusal}
use Rattle.calls.specs.declared.refusal.Refusal.TheVariants.{BadRange, TooManyVariables, TooManyBits, UnknownCode, BadItems, NotDeclared, BadThreshold, RangesUnfit, TooManyRows, TooManyItems, UnknownRelation, SumTooLarge, HeaderPresent, NoSpace}

-- the number that users see
abbrev pub number : Refusal → ℕ
number BadRange = 1
number TooManyVariables = 2
number TooManyBits = 3
number UnknownCode = 4
number BadItems = 5
number NotDeclared = 6
number BadThreshold = 7
number RangesUnfit = 8
number TooManyRows = 9
number TooManyItems = 10
number UnknownRelation = 11
number SumTooLarge = 12
number HeaderPresent = 13
number NoSpace = 14

-- a list of variables that did not take one more
abbrev pub of_add : AddError → Fault
of_add MoreVariables = Refused TooManyVariables
of_add MoreBits = Refused TooManyBits
of_add Lack = NoMemory

-- ties that did not take more bits
abbrev pub of_grow : GrowError → Fault
of_grow GrownBits = Refused TooManyBits
of_grow GrownLack = NoMemory
