use Rattle.std.proofs.Common.{◌≡◌, ◌+◌, ◌≤◌, length}
use Rattle.words.specs.Lines.{lines_left}
use Rattle.sheet.specs.Sheets.{reading, read_lines}
use Rattle.sheet.specs.Views.{draft_of}
use Rattle.sheet.proofs.reader.Sheet.read.Given as goal

abbrev pub invariant-loop-part : goal.invariant-loop-part
invariant-loop-part l =
    (reading l.text ≡ read_lines (draft_of l.reader) l.line (lines_left l.part-iterator))
    × (l.reader.text.now ≡ l.text)
    × (l.part-iterator.text.now ≡ l.text)
    × (length l.text ≤ 65535)
    × (l.line + length (lines_left l.part-iterator) ≤ length l.text + 2)
