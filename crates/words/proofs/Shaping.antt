-- Names and numbers, read byte by byte. Assumes nothing.
use Rattle.std.proofs.Common.{◌≡◌, ℕ, suc, ◌+◌, ◌-◌, ◌*◌, ◌^◌, ◌<◌, ◌≤◌, Bool, true, false, cond, leb, ltb, ◌&&◌, List, [], ◌∷◌, length, get_or, drop, Some, None, Option, refl, arith, pow-add, lit<, mul-le-mul_right}
use Rattle.std.proofs.Math.Bool.{and-true}
use Rattle.std.proofs.Math.Nat.{pow-le-pow_right, pow-suc}
use Rattle.std.proofs.lemmas.List.{at_drop_more}
use Rattle.std.proofs.lemmas.Bool.{and_right, and_parts, and_from, cond-true, cond-false, false≢true, le-leb, le-ltb, lt-ltb, leb-true}
use Rattle.words.specs.Shapes.{is_letter, is_digit, all_in_name, is_name, all_digits, is_decimal, is_number, digits_after, number}

-- whether a short word that begins with a letter is a name is left to its bytes
pub is_name_from : (w : List ℕ) → is_letter (get_or w 0 0) ≡ true → length w ≤ 16 → is_name w ≡ all_in_name w
is_name_from [] first short = absurd (false≢true first)
is_name_from (b ∷ bs) first short = rw (first, le-leb (length (b ∷ bs)) 16 short) (and-true _)

-- a number only grows by more digits
grows : (n : ℕ) (w : List ℕ) → n ≤ digits_after n w
grows n [] = omega arith
grows n (b ∷ bs) = omega (arith, grows (n * 10 + (b - 48)) bs)

-- digits after n stand for at least n with as many zeros
pub digits_after_least : (n : ℕ) (bs : List ℕ) → n * 10 ^ length bs ≤ digits_after n bs
digits_after_least n [] = omega arith
digits_after_least n (b ∷ bs) =
    rw (pow-suc 10 (length bs)) (shifted (10 ^ length bs) (b - 48) _ (digits_after_least (n * 10 + (b - 48)) bs))
  where
    shifted : (x d r : ℕ) → (n * 10 + d) * x ≤ r → n * (x * 10) ≤ r
    shifted x d r h = let least : n * 10 ≤ n * 10 + d = omega arith in omega (arith, mul-le-mul_right x least)

pub grown : (w : List ℕ) (i n : ℕ) → i < length w → n * 10 + (get_or w i 0 - 48) ≤ digits_after n (drop i w)
grown w i n within = rw (at_drop_more (digits_after n) w i 0 within) (grows _ (drop (i + 1) w))

digit_below : (b : ℕ) → is_digit b ≡ true → b - 48 < 10
digit_below b e = omega (arith, leb-true b 57 (and_parts (leb 48 b) (leb b 57) e).1)

digits_below : (w : List ℕ) (n k : ℕ) → n < 10 ^ k → all_digits w ≡ true → digits_after n w < 10 ^ (k + length w)
digits_below [] n k lt all = let e : k + 0 ≡ k = omega arith in rw e lt
digits_below (b ∷ bs) n k lt all =
    let p = and_parts (is_digit b) (all_digits bs) all in
    let e : k + suc (length bs) ≡ k + 1 + length bs = omega arith in
    let digit = digit_below b p.0 in
    let more : n * 10 + (b - 48) < 10 ^ (k + 1) = omega (arith, pow-add 10 k 1) in
    rw e (digits_below bs (n * 10 + (b - 48)) (k + 1) more p.1)

-- what a word of digits stands for
abbrev pub value : List ℕ → Option ℕ
value w = cond (is_decimal w && ltb (number w) 4294967296) (Some (number w)) None

pub value_large : (w : List ℕ) → 4294967296 ≤ number w → value w ≡ None
value_large w large = cond-false _ _ _ (and_right _ _ (le-ltb _ _ large))

pub value_from : (w : List ℕ) → all_digits w ≡ true → 0 < length w → number w < 4294967296 → value w ≡ Some (number w)
value_from w e some fits = cond-true _ _ _ (and_from _ _ (and_from _ _ e (lt-ltb _ _ some)) (lt-ltb _ _ fits))

-- digits so few stand for a number that fits
module _ (w : List ℕ) (few : length w ≤ 3) where
  number_below : all_digits w ≡ true → number w < 1000
  number_below all =
      let short : 0 + length w ≤ 3 = omega arith in
      let most : 10 ^ (0 + length w) ≤ 10 ^ 3 = pow-le-pow_right (lit< tt) short in
      omega (arith, digits_below w 0 0 (omega arith) all)

  pub value_few : value w ≡ cond (is_number w) (Some (number w)) None
  value_few = go (all_digits w) refl
    where
      go : (t : Bool) → all_digits w ≡ t → cond {A = Option ℕ} ((t && ltb 0 (length w)) && ltb (number w) 4294967296) (Some (number w)) None ≡ cond (t && (ltb 0 (length w) && leb (length w) 3)) (Some (number w)) None
      go true e =
          let below = number_below e in
          rw (lt-ltb (number w) 4294967296 (omega arith), le-leb (length w) 3 few) refl
      go false e = refl

  pub number_fits : (v : ℕ) → Some v ≡ cond (is_number w) (Some (number w)) None → v < 1000
  number_fits v e = go (all_digits w) refl e
    where
      go : (t : Bool) → all_digits w ≡ t → Some v ≡ cond (t && (ltb 0 (length w) && leb (length w) 3)) (Some (number w)) None → v < 1000
      go true is e = some (ltb 0 (length w) && leb (length w) 3) e
        where
          some : (t : Bool) → Some v ≡ cond t (Some (number w)) None → v < 1000
          some true e = let same : v ≡ number w = cc in omega (arith, number_below is)
          some false e = absurd (cc)
      go false is e = absurd (cc)
