-- What listings hold of clauses and of pairings. Assumes nothing.
use Rattle.std.specs.Prelude.{◌≡◌, List, [], ◌∷◌, ◌++◌, Ok}
use Rattle.order.specs.declared.bound.Bound.{Bound}
use Rattle.kinds.specs.declared.item.Tie.{Tie}
use Rattle.kinds.specs.Items.{Pairing}
use Rattle.flat.specs.Spans.{Headed, headed}
use Rattle.flat.specs.Views.{lists_of}
use Rattle.settle.specs.declared.listing.Listing.{Listing}

-- one list more, unless memory is lacking
abbrev pub Takes : {H T : Type 0} → Listing H T → H → List T → Listing H T → Type 0
Takes s h xs t = t.taken ≡ Ok tt → (s.taken ≡ Ok tt) × (lists_of t.lists ≡ lists_of s.lists ++ headed h xs ∷ [])

-- one clause more
abbrev pub Listed : Listing (Unit {0}) Bound → List Bound → Listing (Unit {0}) Bound → Type 0
Listed s c t = Takes s tt c t

-- one pairing more
abbrev pub Told : Listing Tie Tie → Pairing → Listing Tie Tie → Type 0
Told s p t = Takes s p.gives p.premise t

-- a clause and a pairing as they are listed
abbrev pub clause_list : List Bound → Headed (Unit {0}) Bound
clause_list c = headed tt c

abbrev pub pairing_list : Pairing → Headed Tie Tie
pairing_list p = headed p.gives p.premise
