-- Rows: what a row asks for, and what it must show. Assumes nothing.
use Rattle.std.specs.Prelude.{◌≡◌, ℕ, Bool, true, List, Decides}
use Rattle.std.specs.List.{AllByRecursion}
use Rattle.order.specs.declared.bound.Bound.{Bound}
use Rattle.order.specs.declared.range.Range.{Range}
use Rattle.order.specs.Bounds.{InRange}
use Rattle.kinds.specs.declared.item.Item.{Item}
use Rattle.kinds.specs.Items.{Pairing}
use Rattle.kinds.specs.Meaning.{Met, Follows, Respects, Meaning, Lawful, Apt}

-- a row: which values meet it, its clauses and pairings, and under which ties it is spent
pub record Row : Type 0 where
  pub meets : (ℕ → ℕ) → Bool
  pub clauses : List (List Bound)
  pub pairings : List Pairing
  pub spent : (Bound → Bound → Bool) → Bool

-- the row of a kind with these items
abbrev pub row_of : Meaning → List Item → List Range → Row
row_of m items rs = record {
  meets = m.meets items;
  clauses = m.clauses items rs;
  pairings = m.pairings items rs;
  spent = m.spends items rs;
}

-- what a row must show: its clauses say what it asks for, and its pairings and spent ties say no more
pub record LawfulRow (rs : List Range) (w : Row) : Type 0 where
  pub by_clauses : (v : ℕ → ℕ) → InRange rs v → Decides (w.meets v) (AllByRecursion (Met v) w.clauses)
  pub by_pairings : (v : ℕ → ℕ) → InRange rs v → w.meets v ≡ true → AllByRecursion (Follows v) w.pairings
  pub by_ties : (v : ℕ → ℕ) (tied : Bound → Bound → Bool) → InRange rs v → Respects v tied → w.spent tied ≡ true → w.meets v ≡ true

-- each row that a lawful kind takes is lawful
abbrev pub KindsLawful : Type 0
KindsLawful = (m : Meaning) → Lawful m → (items : List Item) (rs : List Range) → Apt m items rs → LawfulRow rs (row_of m items rs)
