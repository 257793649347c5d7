-- Values put at the start of a buffer, one by one. Assumes nothing.
use Rattle.std.proofs.Common.{◌≡◌, ℕ, ◌+◌, Bool, List, ◌++◌, take, drop}
use Rattle.promise.specs.Readings.{count_declared, picked}

-- the values of the first x places are put before the place at, those of the others are still to come, and the rest of the buffer stays
pub record Placed (ds : List Bool) (u : ℕ → ℕ) (old : List ℕ) (x at : ℕ) (new : List ℕ) : Type 0 where
  pub counted : at + count_declared (drop x ds) ≡ count_declared ds
  pub started : take at new ++ picked (drop x ds) x u ≡ picked ds 0 u
  pub rests : drop at new ≡ drop at old
