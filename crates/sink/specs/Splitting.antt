-- How a text that is put together falls into lines and words again.
use Rattle.std.specs.Prelude.{◌≡◌, ℕ, ◌<◌, ◌≤◌, Bool, true, false, cond, List, [], ◌∷◌, ◌++◌, length, ◌==◌, refl}
use Rattle.std.proofs.Common.{ap, ◌∙◌, arith}
use Rattle.std.proofs.lemmas.List.{append-nil}
use Rattle.std.proofs.lemmas.Bool.{eq-eqb}
use Rattle.words.specs.Split.{onto, split, closed_last, filled, lines, words}

-- x stands nowhere in the text
abbrev pub Without : ℕ → List ℕ → Type 0
Without x [] = Unit {0}
Without x (b ∷ bs) = ((b == x) ≡ false) × Without x bs

pub without_append : (x : ℕ) (a b : List ℕ) → Without x a → Without x b → Without x (a ++ b)
without_append x [] b p q = q
without_append x (c ∷ a) b p q = (p.0, without_append x a b p.1 q)

onto_some : (b : ℕ) (ps : List (List ℕ)) → 1 ≤ length (onto b ps)
onto_some b [] = omega arith
onto_some b (p ∷ ps) = omega arith

-- there is a first piece
pub split_some : (x : ℕ) (t : List ℕ) → 1 ≤ length (split x t)
split_some x [] = omega arith
split_some x (b ∷ t) = grind (arith, onto_some b, split_some x t)

-- a piece without x stands alone
pub split_one : (x : ℕ) (p : List ℕ) → Without x p → split x p ≡ p ∷ []
split_one x [] h = refl
split_one x (b ∷ p) h = ap (λ e. cond e ([] ∷ split x p) (onto b (split x p))) h.0 ∙ ap (onto b) (split_one x p h.1)

-- what stands before x and what stands after it fall apart
pub split_append : (x : ℕ) (p q : List ℕ) → split x (p ++ x ∷ q) ≡ split x p ++ split x q
split_append x [] q = ap (λ e. cond e ([] ∷ split x q) (onto x (split x q))) (eq-eqb x x refl)
split_append x (b ∷ p) q = ap (λ ps. cond (b == x) ([] ∷ ps) (onto b ps)) (split_append x p q) ∙ go (b == x) (split x p) (split_some x p)
  where
    go : (e : Bool) (ps : List (List ℕ)) → 1 ≤ length ps → cond e ([] ∷ (ps ++ split x q)) (onto b (ps ++ split x q)) ≡ cond e ([] ∷ ps) (onto b ps) ++ split x q
    go true ps h = refl
    go false [] h = absurd (omega arith)
    go false (r ∷ ps) h = refl

pub closed_append : (ps qs : List (List ℕ)) → 1 ≤ length qs → closed_last (ps ++ qs) ≡ ps ++ closed_last qs
closed_append [] qs h = refl
closed_append (p ∷ []) [] h = absurd (omega arith)
closed_append ([] ∷ []) (q ∷ qs) h = refl
closed_append ((b ∷ p) ∷ []) (q ∷ qs) h = refl
closed_append ([] ∷ (r ∷ ps)) qs h = ap (λ s. [] ∷ s) (closed_append (r ∷ ps) qs h)
closed_append ((b ∷ p) ∷ (r ∷ ps)) qs h = ap (λ s. (b ∷ p) ∷ s) (closed_append (r ∷ ps) qs h)

-- the lines up to an LF, and those after it
pub lines_append : (p q : List ℕ) → lines (p ++ 10 ∷ q) ≡ split 10 p ++ lines q
lines_append p q = ap closed_last (split_append 10 p q) ∙ closed_append (split 10 p) (split 10 q) (split_some 10 q)

pub lines_line : (p : List ℕ) → lines (p ++ 10 ∷ []) ≡ split 10 p
lines_line p = lines_append p [] ∙ append-nil (split 10 p)

pub filled_append : (ps qs : List (List ℕ)) → filled (ps ++ qs) ≡ filled ps ++ filled qs
filled_append [] qs = refl
filled_append ([] ∷ ps) qs = filled_append ps qs
filled_append ((b ∷ p) ∷ ps) qs = ap (λ s. (b ∷ p) ∷ s) (filled_append ps qs)

pub words_append : (p q : List ℕ) → words (p ++ 32 ∷ q) ≡ words p ++ words q
words_append p q = ap filled (split_append 32 p q) ∙ filled_append (split 32 p) (split 32 q)

-- a first word
pub words_word : (w rest : List ℕ) → Without 32 w → 0 < length w → words (w ++ 32 ∷ rest) ≡ w ∷ words rest
words_word [] rest h some = absurd (omega arith)
words_word (b ∷ w) rest h some = words_append (b ∷ w) rest ∙ ap (λ ps. filled ps ++ words rest) (split_one 32 (b ∷ w) h)
