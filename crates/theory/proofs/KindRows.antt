-- The rows of lawful kinds: lawful, of known variables, and the same as variables are added. Assumes nothing.
use Rattle.std.proofs.Common.{◌≡◌, ℕ, ◌<◌, true, false, List, ◌++◌, length, sym}
use Rattle.std.specs.List.{ContainsAt, AllByRecursion}
use Rattle.std.proofs.ByRecursion.{All-weaker}
use Rattle.order.specs.declared.bound.Bound.{Bound}
use Rattle.order.specs.declared.range.Range.{Range}
use Rattle.kinds.specs.declared.item.Item.{Item}
use Rattle.kinds.specs.declared.item.Tie.{Tie}
use Rattle.kinds.specs.Items.{names, Pairing}
use Rattle.kinds.specs.Meaning.{Meaning, Lawful, Apt, Own, OwnTie, OwnPairing, Agree}
use Rattle.theory.specs.Rows.{Row, row_of, KindsLawful}
use Rattle.theory.specs.Hidden.{Sums, full}
use Rattle.theory.specs.Larger.{Known, KnownTie, KnownPairing, KnownRow, Stays}
use Rattle.theory.proofs.Growing.{low_more, high_more}
use Rattle.theory.proofs.Summing.{full_plain}

pub kinds_lawful : KindsLawful
kinds_lawful m law items rs apt = record {
  by_clauses = λ v i. (law.sound items rs v apt i, law.complete items rs v apt i);
  by_pairings = λ v i h. law.paired items rs v apt i h;
  by_ties = λ v tied i k h. law.spent items rs v apt i tied k h;
}

-- a row's bounds are on variables that its items name
module _ (items : List Item) (n : ℕ) (below : (x : ℕ) → names items x ≡ true → x < n) where
  own_names : (b : Bound) → Own items b → Known n b
  own_names b h = below b.variable h

  own_tie_names : (t : Tie) → OwnTie items t → KnownTie n t
  own_tie_names t h = (own_names t.left h.0, own_names t.right h.1)

  own_pairing_names : (p : Pairing) → OwnPairing items p → KnownPairing n p
  own_pairing_names p h = (All-weaker (OwnTie items) (KnownTie n) own_tie_names p.premise h.0, own_tie_names p.gives h.1)

  pub row_known : (m : Meaning) → Lawful m → (rs : List Range) → Apt m items rs → KnownRow n (row_of m items rs)
  row_known m law rs apt = record {
    clauses = All-weaker (AllByRecursion (Own items)) (AllByRecursion (Known n)) (All-weaker (Own items) (Known n) own_names) (m.clauses items rs) (law.own_clauses items rs apt);
    pairings = All-weaker (OwnPairing items) (KnownPairing n) own_pairing_names (m.pairings items rs) (law.own_pairings items rs apt);
  }

-- ranges with more behind them agree on the variables that were there
pub agree_more : (items : List Item) (rs more : List Range) → ((x : ℕ) → names items x ≡ true → x < length rs) → Agree items rs (rs ++ more)
agree_more items rs more below x h = (sym (low_more rs more x (below x h)), sym (high_more rs more x (below x h)))

-- where the ranges of its variables stay, a row stays, and its kind takes it still
module _ (m : Meaning) (law : Lawful m) (items : List Item) (rs rs' : List Range) (apt : Apt m items rs) (agree : Agree items rs rs') where
  pub apt_stays : Apt m items rs'
  apt_stays = (apt.0, law.same_fits items rs rs' apt agree)

  pub row_stays : (ws : List Row) → ContainsAt ws (row_of m items rs') → Stays ws (row_of m items rs)
  row_stays ws h = record {
    row = row_of m items rs';
    among = h;
    clauses = law.same_clauses items rs rs' apt agree;
    pairings = law.same_pairings items rs rs' apt agree;
  }

-- a row that names no hidden variable is met with the sums as it is met without
pub row_plain : (s : Sums) (m : Meaning) → Lawful m → (items : List Item) → m.formed items ≡ true → ((x : ℕ) → names items x ≡ true → s.hidden x ≡ false) → (v : ℕ → ℕ) → m.meets items (full s v) ≡ m.meets items v
row_plain s m law items formed seen v = law.same_meets items (full s v) v formed (λ x h. full_plain s v x (seen x h))
