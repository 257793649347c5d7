use Rattle.std.proofs.Common.{◌+◌, length, refl, ◌∙◌, arith, rules}
use Rattle.std.specs.List.{range_with_len, zip}
use Rattle.std.proofs.lemmas.Iterator.{YieldsList-from_slice, YieldsList-from_range, YieldsList-from_zip, YieldsList-from_map}
use Rattle.std.proofs.lemmas.Iterator.Consumers.{YieldsList-at, sum_by_from_yields_List, fits_by_from_yields_list}
use Rattle.std.proofs.lemmas.List.Sums.{count_by-le-length}
use Rattle.std.proofs.lemmas.List.FromFn.{length-range_with_len}
use Rattle.std.proofs.lemmas.Slice.Zip.{length-zip}
use Rattle.order.proofs.Signs.{eq_same}
use Rattle.ties.proofs.Counts.{one_if, is_bit, free_counted}
use Rattle.ties.proofs.classes.Ties.free.Goals as goal

pub sum-requires-clause-fits : goal.sum-requires-clause-fits
sum-requires-clause-fits c =
    let roots = c.args.self.now.roots in
    let numbers = range_with_len 1 (length roots.items) in
    fits_by_from_yields_list (λ p. one_if (is_bit p)) (zip numbers roots.items) _ _
    (YieldsList-from_map _ (λ p. one_if (is_bit p))
    (YieldsList-at c.map.ensures.source (YieldsList-from_zip
    (YieldsList-at c.zip.ensures.first (YieldsList-from_range 1 (c.len.result + 1) (length roots.items) refl (omega (arith, roots.ok.0, c.len.ensures))))
    (YieldsList-from_slice roots.items (cc))))
    c.map.ensures.closure (λ x r q k. search (rules, eq_same)))
    (omega (arith, count_by-le-length is_bit (zip numbers roots.items), length-zip numbers roots.items, length-range_with_len 1 (length roots.items), c.args.self.now.short, roots.ok.0))

pub returns : goal.returns
returns c =
    let roots = c.args.self.now.roots in
    let numbers = range_with_len 1 (length roots.items) in
    sum_by_from_yields_List (λ p. one_if (is_bit p)) (zip numbers roots.items) _ c.sum.result c.sum.ensures.ran
    (YieldsList-from_map _ (λ p. one_if (is_bit p))
    (YieldsList-at c.map.ensures.source (YieldsList-from_zip
    (YieldsList-at c.zip.ensures.first (YieldsList-from_range 1 (c.len.result + 1) (length roots.items) refl (omega (arith, roots.ok.0, c.len.ensures))))
    (YieldsList-from_slice roots.items (cc))))
    c.map.ensures.closure (λ x r q k. search (rules, eq_same)))
    ∙ free_counted roots.items
