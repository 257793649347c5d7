use Rattle.std.proofs.Common.{vec_items}
use Rattle.flat.proofs.Standing.{list_found}
use Rattle.flat.proofs.lists.Lists.at.Goals as goal

pub returns-in-Some : goal.returns-in-Some
returns-in-Some g c =
    let found = rw c.deref.ensures.value at c.in-Some.ensures.lookup in
    let is = list_found (vec_items c.args.self.now.items) (vec_items c.args.self.now.spans) c.args.place c.in-Some.span.now found.3.0 found.1 in
    cc
