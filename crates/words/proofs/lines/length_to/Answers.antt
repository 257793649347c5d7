use Rattle.std.proofs.Common.{rules, tests, ◌≡◌, nat_eq, ◌∙◌, arith}
use Rattle.std.proofs.lemmas.Iterator.{YieldsList-from_slice}
use Rattle.std.proofs.lemmas.Iterator.Search.{position_from_yields_List}
use Rattle.words.proofs.Places.{before_within, found_or_end}
use Rattle.words.proofs.Splitting.{before}
use Rattle.words.proofs.lines.length_to.Goals as goal

pub returns : goal.returns
returns c =
    let within = before_within c.args.end c.args.bytes.now in
    let value : c.unwrap_or.result ≡ before c.args.end c.args.bytes.now =
    c.unwrap_or.ensures
    ∙ found_or_end _ _ _ within (position_from_yields_List (λ b. nat_eq b c.args.end) _ _ c.position.result c.position.ensures.ran (YieldsList-from_slice c.args.bytes.now cc) (λ x b q k. search (rules, tests))) in
    record { value = value; within = omega arith }
