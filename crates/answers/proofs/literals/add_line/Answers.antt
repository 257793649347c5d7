use Rattle.std.proofs.Common.{vec_items, sym, ◌∙◌}
use Rattle.words.specs.Split.{words}
use Rattle.words.specs.Words.{words_left}
use Rattle.answers.proofs.Gathering.{word_more}
use Rattle.answers.proofs.literals.add_line.Goals as goal

pub loop-word-preserved : goal.loop-word-preserved
loop-word-preserved c =
    word_more c.args.variables (words c.args.values.now) (words_left c.loop-word.word-iterator) (words_left c.next.new.self) c.in-Some.word.now (vec_items c.args.out.now) (vec_items c.loop-word.out) c.loop-word.invariant
    c.in-Some.ensures.steps.first c.in_ok-lit.lit (vec_items c.push.new.self) (sym c.literal.ensures ∙ c.in_ok-lit.ensures.ok_part) c.in_ok-push.ensures.items
