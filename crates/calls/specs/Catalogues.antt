-- The kinds of row that a job knows. Assumes nothing.
use Rattle.std.specs.Prelude.{ℕ, Bool, true, cond, ◌==◌}
use Rattle.kinds.specs.Meaning.{Meaning, Lawful}
use Rattle.linear.specs.Plus.{plus}
use Rattle.linear.specs.Leq.{leq}
use Rattle.linear.specs.Same.{same}

-- which codes are known, and what each means
pub record Catalogue : Type 0 where
  pub known : ℕ → Bool
  pub meaning : ℕ → Meaning

-- one kind before others: rows of its code are its own
abbrev pub with_kind : ℕ → Meaning → Catalogue → Catalogue
with_kind k m c = record {
  known = λ code. cond (code == k) true (c.known code);
  meaning = λ code. cond (code == k) m (c.meaning code);
}

-- each job knows plus (1), leq (2) and same (3), and any others
abbrev pub based : Catalogue → Catalogue
based c = with_kind 1 plus (with_kind 2 leq (with_kind 3 same c))

-- each meaning keeps the laws
abbrev pub LawfulAll : Catalogue → Type 0
LawfulAll c = (code : ℕ) → Lawful (c.meaning code)
