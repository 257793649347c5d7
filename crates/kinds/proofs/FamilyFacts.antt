-- What a family of pairings gives: laws, own variables, and how many. Assumes nothing.
use Rattle.std.proofs.Common.{◌≡◌, ℕ, ◌+◌, ◌<◌, ◌≤◌, Bool, true, ◌&&◌, leb, List, length, arith, lit≤}
use Rattle.std.specs.List.{AllByRecursion}
use Rattle.std.proofs.lemmas.Bool.{and_parts}
use Rattle.std.proofs.lemmas.Bool.Decides.{nat_tests}
use Rattle.order.specs.declared.bound.Bound.{Bound}
use Rattle.order.specs.declared.range.Range.{Range}
use Rattle.order.specs.Bounds.{reaches, InRange}
use Rattle.order.specs.Ranges.{low, high}
use Rattle.kinds.specs.declared.item.Item.{Item}
use Rattle.kinds.specs.declared.item.Tie.{Tie}
use Rattle.kinds.specs.Families.{given, given_all, family, stands, is_settled, all_stand, spent_by}
use Rattle.kinds.specs.Items.{names, Pairing}
use Rattle.kinds.specs.Meaning.{Kept, Follows, Respects, OwnTie, OwnPairing}
use Rattle.kinds.proofs.Ranging.{all_between_from, length_between, between_same, all_between_at, some_between_at}

-- a value from l to h that is settled at k is k
settled_is : (l h x k : ℕ) → l ≤ x → x ≤ h → leb k x ≡ leb l x → leb (k + 1) x ≡ leb (h + 1) x → x ≡ k
settled_is l h x k a b p q = grind (arith, nat_tests)

module _ (rs : List Range) (s : ℕ) (f : ℕ → ℕ → Tie) (sl su pl pu : ℕ) where
  -- what holds of each pairing
  family_all : (P : Pairing → Type 0) → ((k i : ℕ) → AllByRecursion P (given rs s f k i)) → AllByRecursion P (family rs s f sl su pl pu)
  family_all P h = all_between_from (given_all rs s f pl pu) P sl su (λ k _ _. all_between_from (given rs s f k) P pl pu (λ i _ _. h k i))

  module _ (v : ℕ → ℕ) (in_range : InRange rs v) where
    has_value : (k : ℕ) → leb k (v s) ≡ leb (low rs s) (v s) → leb (k + 1) (v s) ≡ leb (high rs s + 1) (v s) → v s ≡ k
    has_value k = settled_is (low rs s) (high rs s) (v s) k (in_range.above s) (in_range.below s)

    -- each tie follows where s has the value
    pub family_paired : ((k i : ℕ) → v s ≡ k → Kept v (f k i)) → AllByRecursion (Follows v) (family rs s f sl su pl pu)
    family_paired h = family_all (Follows v) (λ k i. (λ p. h k i (has_value k p.0 p.1.0), tt))

    -- s has a value, and each tie of that value is kept
    pub family_spent : (tied : Bound → Bound → Bool) → Respects v tied → spent_by tied rs s f sl su pl pu ≡ true → (k : ℕ) × (v s ≡ k) × ((i : ℕ) → pl ≤ i → i < pu → Kept v (f k i))
    family_spent tied kept h =
        let q = some_between_at (λ k. is_settled tied rs s k && all_stand tied (f k) pl pu) sl su h in
        let k = q.0 in
        let both = and_parts (is_settled tied rs s k) (all_stand tied (f k) pl pu) q.3 in
        let two = and_parts (tied (reaches s k) (reaches s (low rs s))) (tied (reaches s (k + 1)) (reaches s (high rs s + 1))) both.0 in (
          k,
          has_value k (kept (reaches s k) (reaches s (low rs s)) two.0) (kept (reaches s (k + 1)) (reaches s (high rs s + 1)) two.1),
          λ i l u. kept (f k i).left (f k i).right (all_between_at (λ i. stands tied (f k i)) pl pu both.1 i l u),
        )

  pub family_own : (items : List Item) → names items s ≡ true → ((k i : ℕ) → OwnTie items (f k i)) → AllByRecursion (OwnPairing items) (family rs s f sl su pl pu)
  family_own items o h = family_all (OwnPairing items) (λ k i. ((((o, o), ((o, o), tt)), h k i), tt))

  pub family_short : AllByRecursion (λ p. length p.premise ≤ 4) (family rs s f sl su pl pu)
  family_short = family_all (λ p. length p.premise ≤ 4) (λ k i. (lit≤ tt, tt))

  pub family_few : su ≤ sl + 256 → pu ≤ pl + 257 → length (family rs s f sl su pl pu) ≤ 65792
  family_few h g = length_between (given_all rs s f pl pu) 257 (λ k. length_between (given rs s f k) 1 (λ i. lit≤ tt) pl pu 257 g) sl su 256 h

-- a family depends on the ends of s alone, and on what it is made of
module _ (rs rs' : List Range) (s : ℕ) (f g : ℕ → ℕ → Tie) (lows : low rs s ≡ low rs' s) (highs : high rs s ≡ high rs' s) (ties : (k i : ℕ) → f k i ≡ g k i) where
  given_same : (k i : ℕ) → given rs s f k i ≡ given rs' s g k i
  given_same k i = let e = ties k i in cc

  pub family_same : (sl su pl pu sl' su' pl' pu' : ℕ) → sl ≡ sl' → su ≡ su' → pl ≡ pl' → pu ≡ pu' → family rs s f sl su pl pu ≡ family rs' s g sl' su' pl' pu'
  family_same sl su pl pu sl' su' pl' pu' a b c d =
      between_same (given_all rs s f pl pu) (given_all rs' s g pl' pu') sl su sl' su' a b (λ k. between_same (given rs s f k) (given rs' s g k) pl pu pl' pu' c d (given_same k))
