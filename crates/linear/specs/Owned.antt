-- The variables of a row of n variables: they are its own, and ranges that agree give them the same ends. Assumes nothing.
use Rattle.std.specs.Prelude.{◌≡◌, ℕ, ◌<◌, true, List}
use Rattle.std.proofs.Common.{arith}
use Rattle.order.specs.declared.range.Range.{Range}
use Rattle.order.specs.Ranges.{low, high}
use Rattle.kinds.specs.declared.item.Item.{Item}
use Rattle.kinds.specs.Items.{var, names, plain}
use Rattle.kinds.specs.Meaning.{Agree}
use Rattle.kinds.proofs.Rows.{own_var, plain_length}

module _ (n : ℕ) (items : List Item) (formed : plain n items ≡ true) where
  pub owned : (k : ℕ) → k < n → names items (var items k) ≡ true
  owned k h = own_var items k (omega (arith, plain_length n items formed))

  pub same_ends : (rs rs' : List Range) → Agree items rs rs' → (k : ℕ) → k < n → (low rs (var items k) ≡ low rs' (var items k)) × (high rs (var items k) ≡ high rs' (var items k))
  same_ends rs rs' agree k h = agree (var items k) (owned k h)
