-- Decimal numerals by their last digit, and what they read back as.
use Rattle.std.proofs.Common.{◌≡◌, ℕ, ◌+◌, ◌/◌, ◌%◌, ◌^◌, ◌<◌, ◌≤◌, [], ◌∷◌, length, decimal, ap, ◌∙◌, arith}
use Rattle.std.proofs.lemmas.Fmt.{decimal_digit, decimal_step, length-decimal-le}
use Rattle.std.proofs.lemmas.List.{length_push}

pub length_one : (n : ℕ) → n < 10 → length (decimal n) ≡ 1
length_one n h = ap length (decimal_digit n h)

pub length_step : (n : ℕ) → 10 ≤ n → n < 2 ^ 64 → length (decimal n) ≡ length (decimal (n / 10)) + 1
length_step n h f = ap length (decimal_step n h f) ∙ length_push (decimal (n / 10)) (48 + n % 10)

-- four digits off
pub length_more : (n : ℕ) → 10000 ≤ n → n < 2 ^ 64 → length (decimal n) ≡ 4 + length (decimal (n / 10000))
length_more n h f =
    let q : n / 10 / 10 / 10 / 10 ≡ n / 10000 = omega arith in
    let a = length_step n (omega arith) f in
    let b = length_step (n / 10) (omega arith) (omega arith) in
    let d = length_step (n / 10 / 10) (omega arith) (omega arith) in
    let e = length_step (n / 10 / 10 / 10) (omega arith) (omega arith) in
    omega (arith, a, b, d, e, ap (λ k. length (decimal k)) q)

-- one digit
pub decimal_one : (n : ℕ) → n < 10 → decimal n ≡ (48 + n % 10) ∷ []
decimal_one n h = decimal_digit n h ∙ ap (λ k. (48 + k) ∷ []) (omega arith)

pub length_small : (n : ℕ) → n < 2 ^ 32 → length (decimal n) ≤ 10
length_small n h = length-decimal-le 10 n (omega arith) (omega arith) (omega arith)

pub ruleset lengths = (length_small, length_one, length_step, length_more)
