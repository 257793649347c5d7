use Rattle.std.proofs.Common.{rules, ◌≡◌, ◌+◌, length, fold, ◌∙◌}
use Rattle.sink.specs.Sinks.{capped}
use Rattle.sink.specs.PartLengths.{piece, capped_sum}
use Rattle.sink.proofs.text.TextFormat.clause_len.Goals as goal

pub returns : goal.returns
returns c =
    let counted : c.fold.result ≡ fold (λ n l. capped (n + length (piece l))) 2 c.args.clause.now = search rules in
    counted ∙ capped_sum c.args.clause.now
