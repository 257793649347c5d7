use Rattle.std.proofs.Common.{◌≡◌, arith, rules}
use Rattle.std.proofs.lemmas.Iterator.{YieldsList-from_slice, cases_from_any}
use Rattle.order.specs.declared.bound.Bound.{Bound}
use Rattle.ties.specs.Roots.{root_at}
use Rattle.ties.specs.Views.{roots_of}
use Rattle.kinds.specs.declared.item.Item.TheVariants.{Variable}
use Rattle.kinds.specs.Items.{variable_of}
use Rattle.theory.specs.Rounds.{Still}
use Rattle.settle.specs.Tied.{ranges_in, roots_in}
use Rattle.settle.proofs.Moving.{named_at}
use Rattle.settle.proofs.tied.TiedVariables.row_moved.Goals as goal

pub returns : goal.returns
returns c none b h =
    let rs = ranges_in c.args.self.now in
    let f = root_at (roots_of c.args.before.now) in
    let g = root_at (roots_in c.args.self.now) in
    let still = rw none at (cases_from_any _ _ c.any.result (λ _. Unit {0}) (λ i. (x : Bound) → x.variable ≡ variable_of i → Still rs f g x) c.any.ensures.ran (YieldsList-from_slice c.args.items.now cc) (λ i q k. tt) (λ i q k. search rules)) in
    let k = named_at c.args.items.now b.variable h in
    still k.0 (Variable 0) (omega arith) k.1 b k.2
