-- The number and the layer of each refusal. Assumes nothing.
use Rattle.std.specs.Prelude.{ℕ}
use Rattle.calls.specs.Refusals.{number as job_number}
use Rattle.sheet.specs.declared.refusal.Reason.{Reason}
use Rattle.sheet.specs.declared.refusal.Reason.TheVariants.{TooLong, BadVariable, NameTaken, BadRuleHeading, UnknownRule, BadHeading, Job}

abbrev pub number : Reason → ℕ
number TooLong = 25
number BadVariable = 26
number NameTaken = 27
number BadRuleHeading = 28
number UnknownRule = 29
number BadHeading = 32
number (Job q) = job_number q

-- 1 for the sheet, 2 for its job
abbrev pub layer : Reason → ℕ
layer TooLong = 1
layer BadVariable = 1
layer NameTaken = 1
layer BadRuleHeading = 1
layer UnknownRule = 1
layer BadHeading = 1
layer (Job q) = 2
