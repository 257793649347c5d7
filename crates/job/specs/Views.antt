-- What an open job, a closed one and a writer hold. Assumes nothing.
use Rattle.std.specs.Prelude.{ℕ, ◌+◌, ◌≤◌, vec_len, vec_capacity}
use Rattle.order.specs.Variables.{ranges_of, Spare}
use Rattle.order.specs.declared.literal.Literal.{Literal}
use Rattle.ties.specs.declared.classes.Ties.{Ties}
use Rattle.ties.specs.Roots.{root_at}
use Rattle.ties.specs.Views.{roots_of}
use Rattle.order.specs.declared.variables.Variables.{Variables}
use Rattle.cnf.specs.declared.encode.Encoder.{Encoder}
use Rattle.cnf.specs.declared.roots.Roots.{Ghosts}
use Rattle.cnf.specs.Encoded.{encoder_ranges, encoder_root}
use Rattle.job.specs.declared.open.OpenJob.{OpenJob}
use Rattle.job.specs.declared.closed.ClosedJob.{ClosedJob}
use Rattle.job.specs.declared.closed.writer.Writer.{Writer}
use Rattle.job.specs.View.{View}

-- the root of each bit, by ties
abbrev pub root_of : Ties → ℕ → Literal
root_of t = root_at (roots_of t)

-- the view of variables and ties
abbrev pub parts_view : Variables → Ties → View
parts_view v t = record { ranges = ranges_of v; root = root_of t }

abbrev pub open_view : OpenJob → View
open_view j = parts_view j.variables j.ties

abbrev pub closed_view : ClosedJob → View
closed_view j = parts_view j.variables j.ties

-- the view of what an encoder was made for
abbrev pub encoder_view : {g : Ghosts Ties} → Encoder Ties g → View
encoder_view e = record { ranges = encoder_ranges e; root = encoder_root e }

abbrev pub writer_view : Writer → View
writer_view w = encoder_view w.encoder

-- there is memory for one variable of n bits more
abbrev pub SpareBits : OpenJob → ℕ → Type 0
SpareBits j n = Spare j.variables 1 × (vec_len j.ties.roots + n ≤ vec_capacity j.ties.roots)
