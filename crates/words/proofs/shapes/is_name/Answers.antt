use Rattle.std.proofs.Common.{rules, tests, sym, ◌∙◌}
use Rattle.std.proofs.lemmas.Iterator.{YieldsList-from_slice}
use Rattle.std.proofs.lemmas.Iterator.Search.{all_from_yields_List}
use Rattle.words.specs.Shapes.{in_name}
use Rattle.words.proofs.Shaping.{is_name_from}
use Rattle.words.proofs.shapes.is_name.Goals as goal

pub returns-then-word-le16 : goal.returns-then-word-le16
returns-then-word-le16 c =
    let test = c.if-word-le16.true in
    all_from_yields_List in_name _ _ c.all.result c.all.ensures.ran (YieldsList-from_slice c.args.word.now cc) (λ x b q k. search (rules, tests))
    ∙ sym (is_name_from c.args.word.now (sym c.is_ascii_alphabetic.ensures.value ∙ test.0) test.1)
