-- Hidden variables: each is the sum of two that come before it. Assumes nothing.
use Rattle.std.specs.Prelude.{◌≡◌, ℕ, zero, suc, ◌+◌, ◌<◌, ◌≤◌, Bool, true, false, cond, ◌⊎◌, List, [], ◌∷◌, ◌++◌, length, sum_by, ◌==◌, slice_index}
use Rattle.std.specs.List.{ContainsAt, AllByRecursion}
use Rattle.order.specs.Ranges.{low, high}
use Rattle.theory.specs.Rows.{Row}
use Rattle.theory.specs.Jobs.{Job, Solves}

-- which variables are hidden, and the two that each of these is the sum of
pub record Sums : Type 0 where
  pub hidden : ℕ → Bool
  pub left : ℕ → ℕ
  pub right : ℕ → ℕ
  pub left_before : (x : ℕ) → hidden x ≡ true → left x < x
  pub right_before : (x : ℕ) → hidden x ≡ true → right x < x

-- the variables that x sums up, by n sums at most
abbrev pub terms_by : Sums → ℕ → ℕ → List ℕ
terms_by s zero x = x ∷ []
terms_by s (suc n) x = cond (s.hidden x) (terms_by s n (s.left x) ++ terms_by s n (s.right x)) (x ∷ [])

-- the variables that x sums up: itself where it is not hidden
abbrev pub terms : Sums → ℕ → List ℕ
terms s x = terms_by s x x

-- the values, with the sums for the hidden variables
abbrev pub full : Sums → (ℕ → ℕ) → ℕ → ℕ
full s v x = sum_by v (terms s x)

-- two layouts are one: they have the same values but for hidden variables
abbrev pub SameLayout : Sums → (ℕ → ℕ) → (ℕ → ℕ) → Type 0
SameLayout s u v = (x : ℕ) → s.hidden x ≡ false → u x ≡ v x

-- the job's rows are one for each hidden variable, with the sum of the ranges, and the others, in any order
pub record SumsUp (s : Sums) (others : List Row) (plus : ℕ → Row) (j : Job) : Type 0 where
  pub has_others : AllByRecursion (ContainsAt j.rows) others
  pub has_sums : (x : ℕ) → s.hidden x ≡ true → ContainsAt j.rows (plus x)
  pub no_more : AllByRecursion (λ w. ContainsAt others w ⊎ ((x : ℕ) × (s.hidden x ≡ true) × (plus x ≡ w))) j.rows
  pub sums : (x : ℕ) (v : ℕ → ℕ) → s.hidden x ≡ true → (plus x).meets v ≡ (v (s.left x) + v (s.right x) == v x)
  pub lows : (x : ℕ) → s.hidden x ≡ true → low j.ranges x ≡ low j.ranges (s.left x) + low j.ranges (s.right x)
  pub highs : (x : ℕ) → s.hidden x ≡ true → high j.ranges x ≡ high j.ranges (s.left x) + high j.ranges (s.right x)

-- values of the variables that are not hidden, in range, and the other rows are met by them and their sums
pub record Layout (s : Sums) (others : List Row) (j : Job) (v : ℕ → ℕ) : Type 0 where
  pub above : (x : ℕ) → s.hidden x ≡ false → low j.ranges x ≤ v x
  pub below : (x : ℕ) → s.hidden x ≡ false → v x ≤ high j.ranges x
  pub meets : AllByRecursion (λ w. w.meets (full s v) ≡ true) others

-- each layout is that of one solution
pub record ExtendOnce (s : Sums) (others : List Row) (j : Job) : Type 0 where
  pub extends : (v : ℕ → ℕ) → Layout s others j v → Solves j (full s v)
  pub keeps : (v : ℕ → ℕ) → SameLayout s (full s v) v
  pub layout : (v : ℕ → ℕ) → Solves j v → Layout s others j v
  pub only : (u v : ℕ → ℕ) → Solves j u → SameLayout s u v → (x : ℕ) → u x ≡ full s v x

-- from the hidden variable h on, the variables xs are added up one after another
pub record Chain (s : Sums) (h : ℕ) (xs : List ℕ) : Type 0 where
  pub plain : AllByRecursion (λ x. s.hidden x ≡ false) xs
  pub sums : (k : ℕ) → k + 1 < length xs → s.hidden (h + k) ≡ true
  pub start : 1 < length xs → s.left h ≡ slice_index xs 0
  pub next : (k : ℕ) → k + 2 < length xs → s.left (h + k + 1) ≡ h + k
  pub each : (k : ℕ) → k + 1 < length xs → s.right (h + k) ≡ slice_index xs (k + 1)
