-- The first line and the first word of a list. Assumes nothing.
use Rattle.std.proofs.Common.{◌≡◌, ℕ, suc, ◌+◌, ◌<◌, Bool, true, false, not, cond, eqb, List, [], ◌∷◌, ◌++◌, length, get_or, take, drop, sym, refl, ap, ◌∙◌, append-nil, arith, take-append-drop}
use Rattle.std.specs.List.{position_or_len}
use Rattle.std.proofs.lemmas.Bool.{false≢true}
use Rattle.words.specs.Split.{onto, split, closed_last, filled, lines, words}

-- how many bytes stand before the first x
abbrev pub before : ℕ → List ℕ → ℕ
before x l = position_or_len (λ b. eqb b x) l

-- the pieces that follow a list's first byte, which is x; none where there is no byte
abbrev pub others : ℕ → List ℕ → List (List ℕ)
others x [] = []
others x (b ∷ bs) = split x bs

-- the first piece ends at the first x
pub split_first : (x : ℕ) (l : List ℕ) → split x l ≡ take (before x l) l ∷ others x (drop (before x l) l)
split_first x [] = refl
split_first x (b ∷ bs) = go (eqb b x) (before x bs) (split_first x bs)
  where
    go : (t : Bool) (n : ℕ) → split x bs ≡ take n bs ∷ others x (drop n bs) → cond t ([] ∷ split x bs) (onto b (split x bs)) ≡ take (cond (not t) (1 + n) 0) (b ∷ bs) ∷ others x (drop (cond (not t) (1 + n) 0) (b ∷ bs))
    go true n e = refl
    go false n e =
        let s : 1 + n ≡ suc n = omega arith in
        rw (e, s) refl

closed_last_more : (p q : List ℕ) (qs : List (List ℕ)) → closed_last (p ∷ q ∷ qs) ≡ p ∷ closed_last (q ∷ qs)
closed_last_more [] q qs = refl
closed_last_more (b ∷ p) q qs = refl

closed_last_one : (p : List ℕ) → 0 < length p → closed_last (p ∷ []) ≡ p ∷ []
closed_last_one [] some = absurd (omega arith)
closed_last_one (b ∷ p) some = refl

filled_more : (p : List ℕ) (ps : List (List ℕ)) → 0 < length p → filled (p ∷ ps) ≡ p ∷ filled ps
filled_more [] ps some = absurd (omega arith)
filled_more (b ∷ p) ps some = refl

-- a line before what follows it
closed_last_others : (p rest : List ℕ) → 0 < length (p ++ rest) → closed_last (p ∷ others 10 rest) ≡ p ∷ lines (drop 1 rest)
closed_last_others p [] some = closed_last_one p (rw append-nil at some)
closed_last_others p (b ∷ bs) some = rw (split_first 10 bs, closed_last_more) refl

-- the first line of a list that is not empty
pub lines_first : (l : List ℕ) → 0 < length l → lines l ≡ take (before 10 l) l ∷ lines (drop 1 (drop (before 10 l) l))
lines_first l some =
    ap closed_last (split_first 10 l)
    ∙ closed_last_others (take (before 10 l) l) (drop (before 10 l) l) (rw take-append-drop some)

-- what follows the first piece begins with x, and an empty piece before it is left out
filled_others : (x : ℕ) (l : List ℕ) → filled (others x (drop (before x l) l)) ≡ filled (split x (drop (before x l) l))
filled_others x [] = refl
filled_others x (b ∷ bs) = go (eqb b x) (before x bs) refl (filled_others x bs)
  where
    go : (t : Bool) (n : ℕ) → eqb b x ≡ t → filled (others x (drop n bs)) ≡ filled (split x (drop n bs)) → filled (others x (drop (cond (not t) (1 + n) 0) (b ∷ bs))) ≡ filled (split x (drop (cond (not t) (1 + n) 0) (b ∷ bs)))
    go true n is e = rw is refl
    go false n is e = let s : 1 + n ≡ suc n = omega arith in rw s e

-- how many blanks stand before a list's first word
abbrev pub blanks : List ℕ → ℕ
blanks l = position_or_len (λ b. not (eqb b 32)) l

pub words_after_blanks : (l : List ℕ) → words l ≡ words (drop (blanks l) l)
words_after_blanks [] = refl
words_after_blanks (b ∷ bs) = go (eqb b 32) (blanks bs) refl (words_after_blanks bs)
  where
    go : (t : Bool) (n : ℕ) → eqb b 32 ≡ t → words bs ≡ words (drop n bs) → words (b ∷ bs) ≡ words (drop (cond (not (not t)) (1 + n) 0) (b ∷ bs))
    go true n is e = let s : 1 + n ≡ suc n = omega arith in rw (is, s) e
    go false n is e = refl

before_some : (b : ℕ) (bs : List ℕ) → eqb b 32 ≡ false → before 32 (b ∷ bs) ≡ suc (before 32 bs)
before_some b bs is = let s : 1 + before 32 bs ≡ suc (before 32 bs) = omega arith in rw (is, s) refl

-- the first word of a list that begins with one
pub words_first : (l : List ℕ) → eqb (get_or l 0 32) 32 ≡ false → (0 < before 32 l) × (words l ≡ take (before 32 l) l ∷ words (drop (before 32 l) l))
words_first [] is = absurd (false≢true (sym is))
words_first (b ∷ bs) is = (
  omega (arith, before_some b bs is),
  ap filled (split_first 32 (b ∷ bs))
      ∙ filled_more _ _ (rw (before_some b bs is) (omega arith))
      ∙ ap (λ ps. take (before 32 (b ∷ bs)) (b ∷ bs) ∷ ps) (filled_others 32 (b ∷ bs)),
)
