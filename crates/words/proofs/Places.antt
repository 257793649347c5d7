-- The first line and the first word of a list by their places. Assumes nothing.
use Rattle.std.proofs.Common.{◌≡◌, ℕ, ◌+◌, ◌-◌, ◌<◌, ◌≤◌, min, not, false, cond, eqb, ltb, Some, None, Option, List, [], ◌∷◌, length, get_or, take, drop, sym, refl, ap, ◌∙◌, arith}
use Rattle.std.specs.Option.{unwrap_or}
use Rattle.std.proofs.lemmas.List.{take-take, drop-take, drop-drop, drop_all, get_or-drop, length-drop, length-take}
use Rattle.std.proofs.lemmas.List.Sums.{prefix_len-le-length, passes_at_first}
use Rattle.std.proofs.lemmas.Bool.Decides.{nat_tests}
use Rattle.std.proofs.lemmas.Bool.{not-true}
use Rattle.words.specs.Parts.{bytes, part, FirstLine, FirstWord}
use Rattle.words.specs.Split.{lines, words}
use Rattle.words.specs.declared.parts.Part.{Part}
use Rattle.words.proofs.Splitting.{before, blanks, lines_first, words_after_blanks, words_first}

-- what a search by a test finds
module _ (n m : ℕ) where
  pub found_at : (k : ℕ) → cond (ltb n m) (Some n) None ≡ Some k → (k ≡ n) × (n < m)
  found_at k e = (grind (arith, nat_tests), grind (arith, nat_tests))

  pub found_none : cond {A = Option ℕ} (ltb n m) (Some n) None ≡ None → m ≤ n
  found_none e = grind (arith, nat_tests)

  pub found_or_end : (r : Option ℕ) → n ≤ m → r ≡ cond (ltb n m) (Some n) None → unwrap_or r m ≡ n
  found_or_end r le e = grind (arith, nat_tests)

pub before_within : (x : ℕ) (l : List ℕ) → before x l ≤ length l
before_within x l = prefix_len-le-length (λ b. not (eqb b x)) l

-- the line from a on ends at the first LF
pub first_line : (text : List ℕ) (a n : ℕ) → a < length text → n ≡ before 10 (drop a text) → FirstLine text a (part a (a + n))
first_line text a n some is = record {
  starts = refl;
  forward = omega arith;
  within = omega (arith, before_within 10 (drop a text), length-drop a text);
  some = some;
  first =
      let m : a + n - a ≡ before 10 (drop a text) = omega arith in
      lines_first (drop a text) (omega (arith, length-drop a text))
      ∙ ap (λ k. take k (drop a text) ∷ lines (drop 1 (drop (before 10 (drop a text)) (drop a text)))) (sym m)
      ∙ ap (λ l. take (a + n - a) (drop a text) ∷ lines l) (
      drop-drop 1 (before 10 (drop a text)) (drop a text)
      ∙ drop-drop (before 10 (drop a text) + 1) a text
      ∙ ap (λ k. drop k text) (omega arith)
      );
}

drop_take : (m k : ℕ) (l : List ℕ) → k ≤ m → drop k (take m l) ≡ take (m - k) (drop k l)
drop_take m k l le = let e : k + (m - k) ≡ m = omega arith in ap (λ j. drop k (take j l)) (sym e) ∙ drop-take k (m - k) l

pub no_word : (text : List ℕ) (rest : Part) → length (bytes text rest) ≤ blanks (bytes text rest) → words (bytes text rest) ≡ []
no_word text rest all = words_after_blanks (bytes text rest) ∙ ap words (drop_all _ _ all)

pub part_size : (text : List ℕ) (rest : Part) → length (bytes text rest) ≡ min (rest.end - rest.start) (length text - rest.start)
part_size text rest = length-take (rest.end - rest.start) (drop rest.start text) ∙ ap (min (rest.end - rest.start)) (length-drop rest.start text)

-- the word after k blanks ends at the first blank from there on
module _ (text : List ℕ) (rest : Part) (k n : ℕ) (skips : k ≡ blanks (bytes text rest)) (some : k < length (bytes text rest)) (ends : n ≡ before 32 (drop k (bytes text rest))) where
  size : length (bytes text rest) ≡ min (rest.end - rest.start) (length text - rest.start)
  size = part_size text rest

  within : k + n ≤ length (bytes text rest)
  within = omega (arith, before_within 32 (drop k (bytes text rest)), length-drop k (bytes text rest))

  first_byte : eqb (get_or (bytes text rest) k 32) 32 ≡ false
  first_byte =
      not-true _ (ap (λ j. not (eqb (get_or (bytes text rest) j 32) 32)) skips ∙ passes_at_first (λ b. not (eqb b 32)) (bytes text rest) 32 (omega arith))

  word_bytes : take n (drop k (bytes text rest)) ≡ bytes text (part (rest.start + k) (rest.start + k + n))
  word_bytes =
      let m : rest.start + k + n - (rest.start + k) ≡ n = omega arith in
      ap (take n) (drop_take (rest.end - rest.start) k (drop rest.start text) (omega (arith, size)))
      ∙ take-take n _ (drop k (drop rest.start text)) (omega (arith, size, within))
      ∙ ap (take n) (drop-drop k rest.start text)
      ∙ ap (λ j. take j (drop (rest.start + k) text)) (sym m)

  rest_bytes : drop n (drop k (bytes text rest)) ≡ bytes text (part (rest.start + k + n) rest.end)
  rest_bytes =
      drop-drop n k (bytes text rest)
      ∙ drop_take (rest.end - rest.start) (k + n) (drop rest.start text) (omega (arith, size, within))
      ∙ ap (take (rest.end - rest.start - (k + n))) (drop-drop (k + n) rest.start text)
      ∙ ap (λ j. take j (drop (rest.start + (k + n)) text)) (omega arith)
      ∙ ap (λ j. take (rest.end - (rest.start + k + n)) (drop j text)) (omega arith)

  the_first : (0 < n) × (words (drop k (bytes text rest)) ≡ take n (drop k (bytes text rest)) ∷ words (drop n (drop k (bytes text rest))))
  the_first = let e : k + 0 ≡ k = omega arith in rw ends (words_first (drop k (bytes text rest)) (rw (get_or-drop k (bytes text rest) 0 32, e) first_byte))

  pub first_word : FirstWord text rest (part (rest.start + k) (rest.start + k + n))
  first_word = record {
    after = omega arith;
    forward = omega (arith, the_first.0);
    before = omega (arith, size, within);
    within = omega (arith, size, within);
    first =
        words_after_blanks (bytes text rest)
        ∙ ap (λ j. words (drop j (bytes text rest))) (sym skips)
        ∙ the_first.1
        ∙ ap (λ w. w ∷ words (drop n (drop k (bytes text rest)))) word_bytes
        ∙ ap (λ l. bytes text (part (rest.start + k) (rest.start + k + n)) ∷ words l) rest_bytes;
  }
