-- What reading comes to at a line that was not read. Assumes nothing.
use Rattle.std.specs.Prelude.{◌≡◌, ℕ, false, List, is_ok, IfOk, Some, Result}
use Rattle.std.specs.declared.alloc.AllocError.{AllocError}
use Rattle.sheet.specs.declared.reader.Sheet.{Sheet}
use Rattle.sheet.specs.declared.reader.reading.LineFault.{LineFault}
use Rattle.sheet.specs.declared.reader.reading.LineFault.TheVariants.{Refused, NoMemory}
use Rattle.sheet.specs.Sheets.{Draft, outcome}
use Rattle.sheet.specs.Views.{outcome_of}

-- a refused line stops the sheet there; for want of memory there is no sheet
abbrev pub Halts : LineFault → List ℕ → Draft → ℕ → Result Sheet AllocError → Type 0
Halts (Refused q w) text d n r = IfOk r (λ s. outcome_of text s ≡ outcome d (Some (record { reason = q; line = n; word = w })))
Halts (NoMemory e) text d n r = is_ok r ≡ false
