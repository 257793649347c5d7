-- What a reader and a sheet that was read hold. Assumes nothing.
use Rattle.std.specs.Prelude.{ℕ, List, map, vec_items}
use Rattle.words.specs.Parts.{bytes}
use Rattle.job.specs.Views.{open_view}
use Rattle.sheet.specs.declared.reader.Reader.{Reader}
use Rattle.sheet.specs.declared.reader.Sheet.{Sheet}
use Rattle.sheet.specs.Sheets.{Draft, Outcome}

-- the draft that a reader of the text has
abbrev pub draft_of : Reader → Draft
draft_of r = record {
  view = open_view r.job;
  names = map (bytes r.text.now) (vec_items r.names);
  section = r.section;
}

-- what a sheet that was read from the text says
abbrev pub outcome_of : List ℕ → Sheet → Outcome
outcome_of text s = record {
  view = open_view s.job;
  names = map (bytes text) (vec_items s.names);
  stop = s.stop;
}
