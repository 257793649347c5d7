use Rattle.flat.proofs.Standing.{first_within, others_within}
use Rattle.flat.proofs.lists.walking.IterIterator.next.Goals as goal

pub list-list-requires : goal.list-list-requires
list-list-requires g c = first_within _ _ _ _ c.in_ok-span.ensures.cases.0 c.args.self.now.within

pub invariant_of-self : goal.invariant_of-self
invariant_of-self g c = record { within = others_within _ _ _ _ c.in_ok-span.ensures.cases.0 c.args.self.now.within }
