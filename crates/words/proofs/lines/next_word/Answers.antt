use Rattle.std.proofs.Common.{rules, tests, ◌≡◌, ◌+◌, ◌-◌, ◌<◌, length, min, nat_eq, not, arith, drop, sym, ap, ◌∙◌}
use Rattle.std.proofs.lemmas.Iterator.{YieldsList-from_slice}
use Rattle.std.proofs.lemmas.Iterator.Search.{position_from_yields_List}
use Rattle.std.proofs.lemmas.List.{take_rest}
use Rattle.words.specs.Parts.{bytes}
use Rattle.words.proofs.Splitting.{before}
use Rattle.words.proofs.Places.{part_size, first_word, no_word, found_none, found_at}
use Rattle.words.proofs.lines.next_word.Goals as goal

pub returns-in_err-blanks : goal.returns-in_err-blanks
returns-in_err-blanks c =
    let line = bytes c.args.text.now c.args.rest in
    let found = position_from_yields_List (λ b. not (nat_eq b 32)) _ _ c.position.result c.position.ensures.ran (YieldsList-from_slice line cc) (λ x b q k. search (rules, tests)) in
    rw c.from_residual.ensures (no_word c.args.text.now c.args.rest (found_none _ _ (sym found ∙ c.in_err-blanks.was)))

pub returns : goal.returns
returns c =
    let line = bytes c.args.text.now c.args.rest in
    let found = position_from_yields_List (λ b. not (nat_eq b 32)) _ _ c.position.result c.position.ensures.ran (YieldsList-from_slice line cc) (λ x b q k. search (rules, tests)) in
    let skips = found_at _ _ _ (sym found ∙ c.in_ok-blanks.was) in
    let same : length c.of-line.result.now ≡ length line = ap length c.of-line.ensures in
    let size : length line ≡ min (c.args.rest.end - c.args.rest.start) (length c.args.text.now - c.args.rest.start) = part_size c.args.text.now c.args.rest in
    let e : c.min.result - (length c.of-line.result.now - c.in_ok-blanks.blanks) ≡ c.args.rest.start + c.in_ok-blanks.blanks = omega (arith, skips.1, c.min.ensures) in
    let some : c.in_ok-blanks.blanks < length line = omega (arith, skips.0, skips.1) in
    rw e (first_word c.args.text.now c.args.rest c.in_ok-blanks.blanks c.length_to.result skips.0 some (c.length_to.ensures.value ∙ ap (before 32) (take_rest c.of-line.result.now c.in_ok-blanks.blanks ∙ ap (drop c.in_ok-blanks.blanks) c.of-line.ensures)))
