-- The rules of a job: its ranges, and its rows by the meaning of their codes. Assumes nothing.
use Rattle.std.specs.Prelude.{◌≡◌, ℕ, ◌<◌, true, List, map, length}
use Rattle.std.specs.List.{AllByRecursion}
use Rattle.order.specs.declared.range.Range.{Range}
use Rattle.kinds.specs.Items.{names}
use Rattle.kinds.specs.Meaning.{Meaning, Apt}
use Rattle.rows.specs.Rows.{Posted}
use Rattle.theory.specs.Rows.{Row, row_of}
use Rattle.theory.specs.Jobs.{Job}

-- the row that was posted
abbrev pub posted_row : (ℕ → Meaning) → List Range → Posted → Row
posted_row m rs p = row_of (m p.code) p.items rs

abbrev pub job_of : (ℕ → Meaning) → List Range → List Posted → Job
job_of m rs ps = record { ranges = rs; rows = map (posted_row m rs) ps }

-- its kind takes the row, and its variables are there
pub record Sits (m : ℕ → Meaning) (rs : List Range) (p : Posted) : Type 0 where
  pub apt : Apt (m p.code) p.items rs
  pub there : (x : ℕ) → names p.items x ≡ true → x < length rs

-- each row sits
abbrev pub Seated : (ℕ → Meaning) → List Range → List Posted → Type 0
Seated m rs ps = AllByRecursion (Sits m rs) ps
