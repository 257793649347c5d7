use Rattle.std.proofs.Common.{◌≡◌, min, length, take, refl, ap, ◌∙◌, subst, arith}
use Rattle.std.proofs.lemmas.List.{take_all, take_min}
use Rattle.logical.specs.Any.{bounds}
use Rattle.logical.proofs.any.AnyKind.visit_clauses.Goals as goal

pub returns : goal.returns
returns g c =
    let items = c.args.items.now in
    let first = take c.min.result items in
    let all : length first ≡ c.loop-k.k = omega arith in
    let most : c.min.result ≡ min 64 (length items) = omega arith in
    let same =
    ap (λ n. take n c.loop-k.clause) all
    ∙ c.loop-k.invariant.1
    ∙ ap bounds (take_all c.loop-k.k first c.loop-k-test.false ∙ ap (λ n. take n items) most ∙ take_min 64 items) in
    (c.visit.new.self, (subst (λ d. g.V.Visitor.step c.args.visitor.now d c.visit.new.self) same c.visit.ensures, refl))
