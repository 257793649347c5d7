-- What a sink keeps of its header. Assumes nothing.
use Rattle.std.specs.Prelude.{Bool, true, Some, None, Option}
use Rattle.sink.specs.declared.header.Header.{Header}
use Rattle.sink.specs.Sinks.{proper_header}

-- the header, where there is one, is proper
abbrev pub proper_if_any : Option Header → Bool
proper_if_any None = true
proper_if_any (Some h) = proper_header h
