use Rattle.std.proofs.Common.{Ok, sym, subst}
use Rattle.sheet.specs.Halting.{Halts}
use Rattle.sheet.specs.Views.{draft_of}
use Rattle.sheet.proofs.reader.Reader.halted.Goals as goal

pub returns-in-Refused : goal.returns-in-Refused
returns-in-Refused c = subst (λ f. Halts f c.args.self.text.now (draft_of c.args.self) c.args.line (Ok c.stopped.result)) (sym c.in-Refused.is) c.stopped.ensures
