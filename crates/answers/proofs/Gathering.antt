-- Literals that are gathered word by word, and line by line. Assumes nothing.
use Rattle.std.proofs.Common.{◌≡◌, ℕ, true, false, cond, ◌&&◌, List, [], ◌∷◌, ◌++◌, map, Some, None, Err, Result, Vec, Global, sym, refl, ap, ◌∙◌, subst, append_assoc, arith}
use Rattle.std.proofs.lemmas.List.{map-append}
use Rattle.order.specs.Between.{joined}
use Rattle.words.specs.Split.{words}
use Rattle.sink.specs.declared.lit.Lit.{Lit}
use Rattle.sink.specs.Text.{lit_of}
use Rattle.answers.specs.Literals.{is_literal, all_literals, value_words, Tells, Gives}
use Rattle.answers.specs.declared.literals.LiteralFault.{LiteralFault}
use Rattle.answers.specs.declared.literals.LiteralFault.TheVariants.{BadWord, NoMemory}
use Rattle.answers.specs.Lines.{is_comment, values_of, value_lines}

-- of the words `all` the words `left` are left, once the literals s became t
abbrev pub WordsLeft : ℕ → List (List ℕ) → List (List ℕ) → List Lit → List Lit → Type 0
WordsLeft v all left s t =
    (all_literals v all ≡ all_literals v left) × (s ++ map lit_of all ≡ t ++ map lit_of left)

module _ (v : ℕ) (w : List ℕ) where
  pub is_one : (l : Lit) → cond (is_literal v w) (Some (lit_of w)) None ≡ Some l → (is_literal v w ≡ true) × (l ≡ lit_of w)
  is_one l e = (grind arith, grind arith)

module _ (v : ℕ) (all left more : List (List ℕ)) (w : List ℕ) (s t : List Lit) (inv : WordsLeft v all left s t) (first : left ≡ w ∷ more) where
  -- one word more
  pub word_more : (l : Lit) (u : List Lit) → cond (is_literal v w) (Some (lit_of w)) None ≡ Some l → u ≡ t ++ l ∷ [] → WordsLeft v all more s u
  word_more l u e push =
      let one = is_one v w l e in (
        inv.0 ∙ ap (all_literals v) first ∙ ap (λ b. b && all_literals v more) one.0,
        inv.1 ∙ ap (λ ws. t ++ map lit_of ws) first ∙ sym (append_assoc t (lit_of w ∷ []) (map lit_of more))
            ∙ sym (ap (λ xs. xs ++ map lit_of more) (push ∙ ap (λ x. t ++ x ∷ []) one.1)),
      )

all_append : (v : ℕ) (ws us : List (List ℕ)) → all_literals v (ws ++ us) ≡ (all_literals v ws && all_literals v us)
all_append v [] us = refl
all_append v (w ∷ ws) us = grind (arith, all_append v ws us)

module _ (v : ℕ) (all left ws more : List (List ℕ)) (s t : List Lit) (inv : WordsLeft v all left s t) (first : left ≡ ws ++ more) where
  -- the words of a line more
  pub line_more : (u : List Lit) → (all_literals v ws ≡ true) × (u ≡ t ++ map lit_of ws) → WordsLeft v all more s u
  line_more u h = (
    inv.0 ∙ ap (all_literals v) first ∙ all_append v ws more ∙ ap (λ b. b && all_literals v more) h.0,
    inv.1 ∙ ap (λ xs. t ++ map lit_of xs) first ∙ ap (λ xs. t ++ xs) (map-append lit_of ws more)
        ∙ sym (append_assoc t (map lit_of ws) (map lit_of more)) ∙ ap (λ xs. xs ++ map lit_of more) (sym h.1),
  )

  -- a word of the line is none
  pub line_stops : all_literals v ws ≡ false → all_literals v all ≡ false
  line_stops h = inv.0 ∙ ap (all_literals v) first ∙ all_append v ws more ∙ ap (λ b. b && all_literals v more) h

-- the words of value lines
abbrev pub words_of : List (List ℕ) → List (List ℕ)
words_of ls = joined words (value_lines ls)

pub value_line : (l bs : List ℕ) (ls : List (List ℕ)) → is_comment l ≡ false → values_of l ≡ Some bs → words_of (l ∷ ls) ≡ words bs ++ words_of ls
value_line l bs ls other e = rw (other, e) refl

-- a line's fault is the answer's
pub gives_fault : (text : List ℕ) (v : ℕ) (ws : List (List ℕ)) (s t : Vec Lit Global) (r : Result (Vec Lit Global) LiteralFault) (f : LiteralFault) → r ≡ Err f → Tells ws v s (Err f) t → (all_literals v ws ≡ false → all_literals v (value_words text) ≡ false) → Gives text v r
gives_fault text v ws s t r f e h bad = subst (Gives text v) (sym e) (go f h)
  where
    go : (f : LiteralFault) → Tells ws v s (Err f) t → Gives text v (Err f)
    go BadWord h = bad h
    go NoMemory h = tt
