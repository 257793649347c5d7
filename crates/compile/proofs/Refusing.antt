-- A writing that is refused. Assumes nothing.
use Rattle.std.proofs.Common.{◌≡◌, ℕ, List, None, Ok, Err, Result, sym, subst}
use Rattle.std.specs.Result.{IsErrAnd}
use Rattle.calls.specs.declared.refusal.Refusal.{Refusal}
use Rattle.job.specs.Writes.{writing}
use Rattle.sheet.specs.Sheets.{reading}
use Rattle.sink.specs.Text.{text_costs}
use Rattle.sink.specs.Views.{TextSink, fresh}
use Rattle.compile.specs.Compiles.{Compiles}
use Rattle.compile.specs.declared.refused.CompileError.{CompileError}
use Rattle.compile.specs.declared.refused.CompileError.TheVariants.{Refused}
use Rattle.compile.specs.declared.refused.Refused.TheVariants.{Writing}

pub unwritten : (text : List ℕ) (q : Refusal) (r : Result TextSink CompileError) → IsErrAnd r (λ e. e ≡ Refused (Writing q)) → (reading text).stop ≡ None → writing text_costs (reading text).view (fresh 65536) ≡ Err q → Compiles text r
unwritten text q (Err e) h s w = subst (λ x. Compiles text (Err x)) (sym h) (s, w)
unwritten text q (Ok _) h s w = elim h [ ]
