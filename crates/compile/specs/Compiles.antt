-- What a sheet comes to. Assumes nothing.
use Rattle.std.specs.Prelude.{◌≡◌, ℕ, List, Some, None, Ok, Err, Result}
use Rattle.sink.specs.Text.{text_costs}
use Rattle.sink.specs.Views.{TextSink, text_state, fresh}
use Rattle.job.specs.Writes.{writing}
use Rattle.sink.specs.declared.header.Header.{Header}
use Rattle.sheet.specs.Sheets.{reading}
use Rattle.compile.specs.declared.refused.CompileError.{CompileError}
use Rattle.compile.specs.declared.refused.CompileError.TheVariants.{Refused, NoMemory}
use Rattle.compile.specs.declared.refused.Refused.TheVariants.{Sheet, Writing}

-- a sheet that is refused stops there; any other is written to 65,536 bytes of text, or that is refused
abbrev pub Compiles : List ℕ → Result TextSink CompileError → Type 0
Compiles text (Ok sink) = ((reading text).stop ≡ None) × ((h : Header) × (writing text_costs (reading text).view (fresh 65536) ≡ Ok (h, text_state sink)))
Compiles text (Err (Refused (Sheet stop))) = (reading text).stop ≡ Some stop
Compiles text (Err (Refused (Writing q))) = ((reading text).stop ≡ None) × (writing text_costs (reading text).view (fresh 65536) ≡ Err q)
Compiles text (Err NoMemory) = Unit {0}
