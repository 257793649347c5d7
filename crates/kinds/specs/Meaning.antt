-- What a kind of row means, and the laws that it must keep. Assumes nothing.
use Rattle.std.specs.Prelude.{◌≡◌, ℕ, ◌≤◌, Bool, true, false, ◌||◌, List, [], ◌∷◌, length, slice_index}
use Rattle.std.specs.List.{AllByRecursion}
use Rattle.order.specs.declared.bound.Bound.{Bound}
use Rattle.order.specs.declared.range.Range.{Range}
use Rattle.order.specs.Bounds.{holds, InRange}
use Rattle.order.specs.Ranges.{low, high}
use Rattle.kinds.specs.declared.item.Item.{Item}
use Rattle.kinds.specs.declared.item.Tie.{Tie}
use Rattle.kinds.specs.Items.{names, Pairing}

-- the values that a list gives
abbrev pub valued : List ℕ → ℕ → ℕ
valued vs x = slice_index vs x

-- whether a clause has a bound that is true under values
abbrev pub some_holds : (ℕ → ℕ) → List Bound → Bool
some_holds v [] = false
some_holds v (b ∷ c) = holds v b || some_holds v c

-- the values satisfy a clause
abbrev pub Met : (ℕ → ℕ) → List Bound → Type 0
Met v c = some_holds v c ≡ true

-- the values satisfy a tie: both of its bounds are true, or neither
abbrev pub Kept : (ℕ → ℕ) → Tie → Type 0
Kept v t = holds v t.left ≡ holds v t.right

-- where the values satisfy a pairing's premise, they satisfy its tie
abbrev pub Follows : (ℕ → ℕ) → Pairing → Type 0
Follows v p = AllByRecursion (Kept v) p.premise → Kept v p.gives

-- the values respect ties
abbrev pub Respects : (ℕ → ℕ) → (Bound → Bound → Bool) → Type 0
Respects v tied = (p q : Bound) → tied p q ≡ true → holds v p ≡ holds v q

-- what a kind of row means
pub record Meaning : Type 0 where
  -- which lists of items are formed right
  pub formed : List Item → Bool
  -- which ranges fit
  pub fits : List Item → List Range → Bool
  -- which values meet a row
  pub meets : List Item → (ℕ → ℕ) → Bool
  -- its clauses, and the length of the longest
  pub clauses : List Item → List Range → List (List Bound)
  pub longest : ℕ
  -- its pairings
  pub pairings : List Item → List Range → List Pairing
  -- under which ties it is spent
  pub spends : List Item → List Range → (Bound → Bound → Bool) → Bool

-- a row that the kind takes
abbrev pub Apt : Meaning → List Item → List Range → Type 0
Apt m items rs = (m.formed items ≡ true) × (m.fits items rs ≡ true)

-- a bound, or a tie, of the row's own variables
abbrev pub Own : List Item → Bound → Type 0
Own items b = names items b.variable ≡ true

abbrev pub OwnTie : List Item → Tie → Type 0
OwnTie items t = Own items t.left × Own items t.right

abbrev pub OwnPairing : List Item → Pairing → Type 0
OwnPairing items p = AllByRecursion (OwnTie items) p.premise × OwnTie items p.gives

-- the variables of a row have the same ranges
abbrev pub Agree : List Item → List Range → List Range → Type 0
Agree items rs rs' = (x : ℕ) → names items x ≡ true → (low rs x ≡ low rs' x) × (high rs x ≡ high rs' x)

-- what each kind must show
pub record Lawful (m : Meaning) : Type 0 where
  -- values in range meet a row exactly when they satisfy its clauses
  pub sound : (items : List Item) (rs : List Range) (v : ℕ → ℕ) → Apt m items rs → InRange rs v → m.meets items v ≡ true → AllByRecursion (Met v) (m.clauses items rs)
  pub complete : (items : List Item) (rs : List Range) (v : ℕ → ℕ) → Apt m items rs → InRange rs v → AllByRecursion (Met v) (m.clauses items rs) → m.meets items v ≡ true
  -- values that meet a row and a pairing's premise satisfy its tie
  pub paired : (items : List Item) (rs : List Range) (v : ℕ → ℕ) → Apt m items rs → InRange rs v → m.meets items v ≡ true → AllByRecursion (Follows v) (m.pairings items rs)
  -- values that respect ties under which a row is spent meet it
  pub spent : (items : List Item) (rs : List Range) (v : ℕ → ℕ) → Apt m items rs → InRange rs v → (tied : Bound → Bound → Bool) → Respects v tied → m.spends items rs tied ≡ true → m.meets items v ≡ true
  -- clauses and ties use bounds of the row's own variables, and depend on their ranges alone
  pub own_clauses : (items : List Item) (rs : List Range) → Apt m items rs → AllByRecursion (AllByRecursion (Own items)) (m.clauses items rs)
  pub own_pairings : (items : List Item) (rs : List Range) → Apt m items rs → AllByRecursion (OwnPairing items) (m.pairings items rs)
  pub same_clauses : (items : List Item) (rs rs' : List Range) → Apt m items rs → Agree items rs rs' → m.clauses items rs' ≡ m.clauses items rs
  pub same_pairings : (items : List Item) (rs rs' : List Range) → Apt m items rs → Agree items rs rs' → m.pairings items rs' ≡ m.pairings items rs
  pub same_fits : (items : List Item) (rs rs' : List Range) → Apt m items rs → Agree items rs rs' → m.fits items rs' ≡ true
  -- a row is met by its own variables' values alone
  pub same_meets : (items : List Item) (u v : ℕ → ℕ) → m.formed items ≡ true → ((x : ℕ) → names items x ≡ true → u x ≡ v x) → m.meets items u ≡ m.meets items v
  -- the limits
  pub short : m.longest ≤ 64
  pub short_clauses : (items : List Item) (rs : List Range) → Apt m items rs → AllByRecursion (λ c. length c ≤ m.longest) (m.clauses items rs)
  pub few_clauses : (items : List Item) (rs : List Range) → Apt m items rs → length (m.clauses items rs) ≤ 131072
  pub few_pairings : (items : List Item) (rs : List Range) → Apt m items rs → length (m.pairings items rs) ≤ 262144
  pub short_premises : (items : List Item) (rs : List Range) → Apt m items rs → AllByRecursion (λ p. length p.premise ≤ 4) (m.pairings items rs)

-- a kind that takes no row
abbrev pub no_kind : Meaning
no_kind = record {
  formed = λ items. false;
  fits = λ items rs. false;
  meets = λ items v. true;
  clauses = λ items rs. [];
  longest = 0;
  pairings = λ items rs. [];
  spends = λ items rs tied. false;
}
