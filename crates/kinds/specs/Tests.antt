-- Tests of the numbers of a stretch. Assumes nothing.
use Rattle.std.specs.Prelude.{ℕ, ◌-◌, Bool}
use Rattle.std.specs.List.{list_any, list_all, range_with_len}

-- whether p holds of one, or of each, of n numbers from a on
abbrev pub any : (ℕ → Bool) → ℕ → ℕ → Bool
any p a n = list_any p (range_with_len a n)

abbrev pub every : (ℕ → Bool) → ℕ → ℕ → Bool
every p a n = list_all p (range_with_len a n)

-- whether p holds of one, or of each, of the numbers from a on and below b
abbrev pub some_between : (ℕ → Bool) → ℕ → ℕ → Bool
some_between p a b = any p a (b - a)

abbrev pub all_between : (ℕ → Bool) → ℕ → ℕ → Bool
all_between p a b = every p a (b - a)
