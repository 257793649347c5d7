use Rattle.std.proofs.Common.{◌≡◌, option_map, rules}
use Rattle.flat.proofs.Standing.{head_found}
use Rattle.flat.proofs.lists.Lists.head.Goals as goal

pub returns : goal.returns
returns g c =
    let is : c.map.result ≡ option_map (λ s. s.now.head) c.get.result = search rules in
    head_found _ _ _ _ _ (rw c.deref.ensures.value at c.get.ensures.lookup) is
