use Rattle.std.proofs.Common.{◌≡◌, true, length, sym, subst}
use Rattle.ties.specs.Roots.{root_at, root_by, there}
use Rattle.ties.proofs.Equivalences.{root_by_twice}
use Rattle.ties.proofs.Moves.{root_there, merged_joins}
use Rattle.ties.proofs.classes.Ties.join.Goals as goal

pub merge-requires : goal.merge-requires
merge-requires c =
    let self = c.args.self.now in
    let f = root_at self.roots.items in
    let m = length self.roots.items in
    let x = sym c.root-x.ensures.value in
    let y = sym c.root-y.ensures.value in
    record {
      x_there = subst (λ l. there m l ≡ true) x (root_there f self.named m c.args.a (sym c.if-not-has.ensures));
      y_there = subst (λ l. there m l ≡ true) y (root_there f self.named m c.args.b (sym c.if-not-has-2.ensures));
      x_root = subst (λ l. root_by f l ≡ l) x (root_by_twice f self.fixed c.args.a);
      y_root = subst (λ l. root_by f l ≡ l) y (root_by_twice f self.fixed c.args.b);
      differ = c.in-Made.ensures.0;
      apart = c.in-Made.ensures.1;
    }

pub returns-in-Made-clause-joins : goal.returns-in-Made-clause-joins
returns-in-Made-clause-joins c =
    merged_joins c.meet-joined.result c.in-Made.is c.merge.ensures c.args.self.now.fixed c.args.a c.args.b c.root-x.ensures.value c.root-y.ensures.value
