use Rattle.std.proofs.Common.{ap, ◌∙◌, arith}
use Rattle.std.proofs.lemmas.List.{take_rest}
use Rattle.words.proofs.Places.{first_line}
use Rattle.words.proofs.Splitting.{before}
use Rattle.words.proofs.lines.next_line.Goals as goal

pub returns : goal.returns
returns c =
    first_line _ _ _ (omega arith) (c.length_to.ensures.value ∙ ap (before 10) (take_rest c.args.text.now c.args.from))
