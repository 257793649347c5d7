-- What the sinks hold. Assumes nothing.
use Rattle.std.specs.Prelude.{ℕ, ℤ, [], None, vec_items}
use Rattle.sink.specs.Sinks.{State}
use Rattle.sink.specs.declared.format.Format.{Ghosts}
use Rattle.sink.specs.declared.buffered.Buffered.{Buffered}
use Rattle.sink.specs.declared.text.Text.{Text}
use Rattle.sink.specs.declared.wordwise.Words.{Words}
use Rattle.sink.specs.contracts.text.TextFormat.TheImpl as text
use Rattle.sink.specs.contracts.wordwise.WordsFormat.TheImpl as words

-- no header, no clauses, and all units left
abbrev pub fresh : ℕ → State
fresh units = record { header = None; clauses = []; left = units }

-- its header, the clauses that its units hold, and the units left
abbrev pub state_of : {F Unit : Type 0} {format : Ghosts F Unit} → Buffered F Unit format → State
state_of {format = format} s = record { header = s.header; clauses = format.clauses_in (vec_items s.units); left = s.left }

-- the sinks of text and of words, since antt has no names for aliases
abbrev pub TextSink : Type 0
TextSink = Buffered Text ℕ text.ghosts

abbrev pub WordSink : Type 0
WordSink = Buffered Words ℤ words.ghosts

abbrev pub text_state : TextSink → State
text_state = state_of

abbrev pub word_state : WordSink → State
word_state = state_of
