use Rattle.std.proofs.Common.{rules, ◌∙◌}
use Rattle.std.specs.Str.{bytes_eq}
use Rattle.std.proofs.lemmas.Iterator.{YieldsList-from_slice}
use Rattle.std.proofs.lemmas.Iterator.Adapters.{position_from-zero}
use Rattle.std.proofs.lemmas.Iterator.Search.{position_from_yields_List}
use Rattle.std.proofs.lemmas.Bool.Decides.{Decides-eqb}
use Rattle.std.proofs.lemmas.Slice.Eq.{slice_eq-Decides}
use Rattle.words.specs.Parts.{bytes}
use Rattle.sheet.proofs.Expecting.{find_by_place, same_test_forward}
use Rattle.sheet.proofs.directory.find.Goals as goal

pub returns : goal.returns
returns c =
    position_from_yields_List (λ p. bytes_eq (bytes c.args.text.now p) c.args.name.now) _ _ c.position.result c.position.ensures.ran (YieldsList-from_slice c.args.names.now cc) (λ x b q k. (search rules, same_test_forward b (bytes c.args.text.now x.now) c.args.name.now (slice_eq-Decides Decides-eqb _ _ _ (search rules))))
    ∙ position_from-zero _ c.args.names.now ∙ find_by_place c.args.text.now c.args.name.now c.args.names.now 0
