-- The shapes of a word: a name, a number. Assumes nothing.
use Rattle.std.specs.Prelude.{ℕ, ◌+◌, ◌-◌, ◌*◌, Bool, false, ◌&&◌, ◌||◌, List, [], ◌∷◌, length, ◌==◌, nat_le, nat_lt}
use Rattle.std.specs.List.{list_all}

-- whether b is one of the bytes from low to high
abbrev pub among : ℕ → ℕ → ℕ → Bool
among low high b = nat_le low b && nat_le b high

-- A to Z or a to z
abbrev pub is_letter : ℕ → Bool
is_letter b = among 65 90 b || among 97 122 b

-- 0 to 9
abbrev pub is_digit : ℕ → Bool
is_digit b = among 48 57 b

-- a letter, a digit or an underscore
abbrev pub in_name : ℕ → Bool
in_name b = is_letter b || (is_digit b || b == 95)

abbrev pub all_in_name : List ℕ → Bool
all_in_name w = list_all in_name w

abbrev pub starts_with_letter : List ℕ → Bool
starts_with_letter [] = false
starts_with_letter (b ∷ bs) = is_letter b

-- a name: 1 to 16 letters, digits or underscores, first a letter
abbrev pub is_name : List ℕ → Bool
is_name w = starts_with_letter w && (all_in_name w && nat_le (length w) 16)

abbrev pub all_digits : List ℕ → Bool
all_digits w = list_all is_digit w

-- 1 digit or more
abbrev pub is_decimal : List ℕ → Bool
is_decimal w = all_digits w && nat_lt 0 (length w)

-- a number: 1 to 3 digits
abbrev pub is_number : List ℕ → Bool
is_number w = all_digits w && (nat_lt 0 (length w) && nat_le (length w) 3)

-- the number that digits stand for, after those that gave n
abbrev pub digits_after : ℕ → List ℕ → ℕ
digits_after n [] = n
digits_after n (b ∷ bs) = digits_after (n * 10 + (b - 48)) bs

abbrev pub number : List ℕ → ℕ
number w = digits_after 0 w
