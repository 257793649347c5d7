use Rattle.std.proofs.Common.{ℕ, Bool, rules, tests, not, length, sym, refl, ◌∙◌, arith}
use Rattle.std.proofs.lemmas.Iterator.{YieldsList-from_range}
use Rattle.std.proofs.lemmas.Iterator.Adapters.{option_map_id}
use Rattle.std.proofs.lemmas.Iterator.Search.{find_from_yields_List}
use Rattle.kinds.specs.Meaning.{valued}
use Rattle.rows.specs.Rows.{rows_of, posted}
use Rattle.decode.proofs.Failing.{first_is_find}
use Rattle.decode.proofs.judging.first_unmet.Goals as goal

pub returns : goal.returns
returns g c =
    let rows = rows_of c.args.rows.now in
    let test : ℕ → Bool = λ p. (g.K.Kinds.meaning (posted rows p).code).meets (posted rows p).items (valued c.args.values.now) in
    sym (option_map_id _)
    ∙ find_from_yields_List (λ x. not (test x)) _ _ _ c.find.ensures.ran (YieldsList-from_range 0 _ (length rows) refl (omega (arith, c.len.ensures))) (λ x b q k. search (rules, tests))
    ∙ sym (first_is_find test 0 (length rows))
