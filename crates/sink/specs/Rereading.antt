-- A clause that is written is read again, and a header's line holds no clause.
use Rattle.std.specs.Prelude.{◌≡◌, ℕ, ◌^◌, ◌<◌, ◌≤◌, Bool, true, false, cond, List, [], ◌∷◌, ◌++◌, map, length, drop, Some, codes, decimal, ◌==◌, refl}
use Rattle.std.proofs.Common.{sym, ap, subst, ◌∙◌, arith, rules}
use Rattle.std.proofs.lemmas.Fmt.{decimal_nonempty, digits_decimal, digits_value-decimal}
use Rattle.std.proofs.lemmas.List.{append-nil, append_assoc, drop-append-le, map-append, flat_map_more}
use Rattle.std.proofs.lemmas.Str.Parse.{IsNumeralModel, numerals_by_fold}
use Rattle.std.proofs.lemmas.Bool.{and_parts}
use Rattle.std.proofs.lemmas.Bool.Decides.{nat_tests}
use Rattle.words.specs.Split.{split, lines, words}
use Rattle.words.specs.Shapes.{is_digit, all_digits, digits_after, number}
use Rattle.sink.specs.Sinks.{proper_lits}
use Rattle.sink.specs.Text.{header_line, lit_text, lits_text, clause_line, clause_lines, file, lit_of, line_lits, clauses_in}
use Rattle.sink.specs.declared.header.Header.{Header}
use Rattle.sink.specs.declared.lit.Lit.{Lit}
use Rattle.sink.specs.PartLengths.{piece, clause_ends}
use Rattle.sink.specs.Splitting.{Without, without_append, split_one, split_some, lines_append, lines_line, words_word}

pub own : IsNumeralModel (λ ds. all_digits ds ≡ true) (digits_after 0)
own = numerals_by_fold _ (search rules) digits_after (search rules)

pub digits_without : (x : ℕ) (ds : List ℕ) → is_digit x ≡ false → all_digits ds ≡ true → Without x ds
digits_without x [] h p = tt
digits_without x (b ∷ ds) h p = (first b (and_parts (is_digit b) (all_digits ds) p).0, digits_without x ds h (and_parts (is_digit b) (all_digits ds) p).1)
  where
    first : (b : ℕ) → is_digit b ≡ true → (b == x) ≡ false
    first b e = grind (arith, nat_tests)

decimal_without : (x n : ℕ) → is_digit x ≡ false → n < 2 ^ 64 → Without x (decimal n)
decimal_without x n h f = digits_without x (decimal n) h (digits_decimal own n f)

lit_without : (x : ℕ) (l : Lit) → is_digit x ≡ false → (45 == x) ≡ false → l.variable < 2 ^ 64 → Without x (lit_text l)
lit_without x l h m f = go l.negated
  where
    go : (b : Bool) → Without x (cond b (codes "-") [] ++ decimal l.variable)
    go true = (m, decimal_without x l.variable h f)
    go false = decimal_without x l.variable h f

lit_some : (l : Lit) → l.variable < 2 ^ 64 → 0 < length (lit_text l)
lit_some l f = go l.negated
  where
    go : (b : Bool) → 0 < length (cond b (codes "-") [] ++ decimal l.variable)
    go true = omega arith
    go false = decimal_nonempty l.variable f

plain_lit : (w : List ℕ) → all_digits w ≡ true → 0 < length w → lit_of w ≡ record { variable = number w; negated = false }
plain_lit [] p h = absurd (omega arith)
plain_lit (b ∷ w) p h = ap (λ e. cond e (record { variable = number w; negated = true }) (record { variable = number (b ∷ w); negated = false })) (digits_without 45 (b ∷ w) refl p).0

-- a literal that is written is read again
pub lit_again : (l : Lit) → l.variable < 2 ^ 64 → lit_of (lit_text l) ≡ l
lit_again l f = go l.negated
  where
    go : (b : Bool) → lit_of (cond b (codes "-") [] ++ decimal l.variable) ≡ record { variable = l.variable; negated = b }
    go true = ap (λ n. record { variable = n; negated = true }) (digits_value-decimal own l.variable f)
    go false = plain_lit (decimal l.variable) (digits_decimal own l.variable f) (decimal_nonempty l.variable f) ∙ ap (λ n. record { variable = n; negated = false }) (digits_value-decimal own l.variable f)

-- each literal is of a variable below 2^64
abbrev pub Small : List Lit → Type 0
Small [] = Unit {0}
Small (l ∷ ls) = (l.variable < 2 ^ 64) × Small ls

pub small_from_proper : (v : ℕ) (c : List Lit) → v < 2 ^ 64 → proper_lits v c ≡ true → Small c
small_from_proper v [] f p = tt
small_from_proper v (l ∷ c) f p =
    let e = and_parts _ (proper_lits v c) p in
    let low : l.variable ≤ v = grind (arith, nat_tests) in
    (omega arith, small_from_proper v c f e.1)

-- a clause's line, without its LF
abbrev pub body : List Lit → List ℕ
body c = lits_text c ++ 48 ∷ []

body_more : (l : Lit) (c : List Lit) → body (l ∷ c) ≡ lit_text l ++ 32 ∷ body c
body_more l c = append_assoc (piece l) (lits_text c) (48 ∷ []) ∙ append_assoc (lit_text l) (32 ∷ []) (body c)

pub body_without : (c : List Lit) → Small c → Without 10 (body c)
body_without [] s = (refl, tt)
body_without (l ∷ c) s = subst (Without 10) (sym (body_more l c)) (without_append 10 (lit_text l) (32 ∷ body c) (lit_without 10 l refl refl s.0) (refl, body_without c s.1))

pub body_words : (c : List Lit) → Small c → words (body c) ≡ map lit_text c ++ (48 ∷ []) ∷ []
body_words [] s = refl
body_words (l ∷ c) s = ap words (body_more l c) ∙ words_word (lit_text l) (body c) (lit_without 32 l refl refl s.0) (lit_some l s.0) ∙ ap (λ ws. lit_text l ∷ ws) (body_words c s.1)

words_lits : (c : List Lit) (z : List ℕ) → Small c → line_lits (map lit_text c ++ z ∷ []) ≡ c
words_lits [] z s = refl
words_lits (l ∷ []) z s = ap (λ x. x ∷ []) (lit_again l s.0)
words_lits (l ∷ (m ∷ c)) z s = ap (λ x. x ∷ line_lits (lit_text m ∷ (map lit_text c ++ z ∷ []))) (lit_again l s.0) ∙ ap (λ x. l ∷ x) (words_lits (m ∷ c) z s.1)

abbrev clause_of : List ℕ → List Lit
clause_of line = line_lits (words line)

-- a clause that is written is read again
pub clause_again : (c : List Lit) → Small c → map clause_of (lines (clause_line c)) ≡ c ∷ []
clause_again c s =
    let e = split_one 10 (body c) (body_without c s) in
    let f = words_lits c (48 ∷ []) s in
    rw (← clause_ends c, lines_line, e, body_words c s) (ap (λ ls. ls ∷ []) f)

-- the clauses of the lines up to an LF, and those of the lines after it
pub clauses_append : (p q : List ℕ) → clauses_in (p ++ 10 ∷ q) ≡ clauses_in (p ++ 10 ∷ []) ++ map clause_of (lines q)
clauses_append p q =
    rw (lines_append p q, lines_line p, drop-append-le 1 (split 10 p) (lines q) (split_some 10 p), map-append clause_of (drop 1 (split 10 p)) (lines q))

-- a header's line, without its LF
abbrev header_body : Header → List ℕ
header_body h = codes "p cnf " ++ decimal h.variables ++ codes " " ++ decimal h.clauses

pub header_clauses : (h : Header) → h.variables < 2 ^ 64 → h.clauses < 2 ^ 64 → clauses_in (header_line h) ≡ []
header_clauses h f g = ap (λ ls. map clause_of (drop 1 ls)) (lines_line (header_body h) ∙ split_one 10 (header_body h) none)
  where
    none : Without 10 (header_body h)
    none = without_append 10 (codes "p cnf " ++ decimal h.variables ++ codes " ") (decimal h.clauses)
        (without_append 10 (codes "p cnf " ++ decimal h.variables) (codes " ")
        (without_append 10 (codes "p cnf ") (decimal h.variables) (refl, (refl, (refl, (refl, (refl, (refl, tt)))))) (decimal_without 10 h.variables refl f))
        (refl, tt))
        (decimal_without 10 h.clauses refl g)

-- lines after an LF end with an LF again
lines_end : (p : List ℕ) (cs : List (List Lit)) → (q : List ℕ) × (p ++ 10 ∷ [] ++ clause_lines cs ≡ q ++ 10 ∷ [])
lines_end p [] = (p, append-nil (p ++ 10 ∷ []))
lines_end p (c ∷ cs) =
    let r = lines_end (p ++ 10 ∷ [] ++ body c) cs in
    (r.0, simp append_assoc (simp append_assoc at r.1))

-- a clause after a text that ends with an LF
clause_after : (text q : List ℕ) (c : List Lit) → Small c → text ≡ q ++ 10 ∷ [] → clauses_in (text ++ clause_line c) ≡ clauses_in text ++ c ∷ []
clause_after text q c s e = rw (e, append_assoc q (10 ∷ []) (clause_line c), clauses_append q (clause_line c), clause_again c s)

-- one clause more, in the clauses that a file holds
pub clauses_more : (h : Header) (cs : List (List Lit)) (c : List Lit) → Small c → clauses_in (file (Some h) (cs ++ c ∷ [])) ≡ clauses_in (file (Some h) cs) ++ c ∷ []
clauses_more h cs c s =
    let r = lines_end (header_body h) cs in
    ap clauses_in (sym (flat_map_more clause_line (header_line h) cs c)) ∙ clause_after (file (Some h) cs) r.0 c s r.1
