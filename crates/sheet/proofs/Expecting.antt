-- A word that is compared with the one expected. Assumes nothing.
use Rattle.std.proofs.Common.{◌≡◌, ℕ, ◌+◌, ◌<◌, ◌≤◌, Bool, true, false, cond, List, [], ◌∷◌, map, length, get_or, drop, Some, None, Option, Bor, Decides, sym, refl, ap, ◌∙◌, arith}
use Rattle.std.proofs.lemmas.List.{at_drop_more, at_drop_all}
use Rattle.std.specs.Str.{bytes_eq}
use Rattle.std.specs.List.{position_from}
use Rattle.std.proofs.lemmas.Slice.Eq.{bytes_eq-Decides}
use Rattle.words.specs.declared.parts.Part.{Part}
use Rattle.words.specs.Parts.{bytes}
use Rattle.sheet.specs.Lines.{first_fits, rest, misfit}
use Rattle.sheet.specs.Sheets.{find, find_from}

-- two tests of one equation, either way round
pub same_test : (r : Bool) (x y : List ℕ) → Decides r (x ≡ y) → r ≡ bytes_eq y x
same_test r x y d =
    let e = bytes_eq-Decides y x in
    both r (bytes_eq y x) (λ h. e.1 (sym (d.0 h))) (λ h. d.1 (sym (e.0 h)))
  where
    both : (a b : Bool) → (a ≡ true → b ≡ true) → (b ≡ true → a ≡ true) → a ≡ b
    both a b f g = grind arith

-- the first word against the one expected; there may be none
pub fits_first : (word b : List ℕ) (ws tl : List (List ℕ)) (r : Bool) → ws ≡ b ∷ tl → Decides r (b ≡ word) → r ≡ first_fits (bytes_eq word) ws
fits_first word b ws tl r e d = same_test r b word d ∙ sym (ap (first_fits (bytes_eq word)) e)

pub fits_none : (word : List ℕ) (ws : List (List ℕ)) → ws ≡ [] → false ≡ first_fits (bytes_eq word) ws
fits_none word ws e = sym (ap (first_fits (bytes_eq word)) e)

pub same_test_forward : (r : Bool) (x y : List ℕ) → Decides r (x ≡ y) → r ≡ bytes_eq x y
same_test_forward r x y d = same_test r y x ((λ h. sym (d.0 h)), (λ e. d.1 (sym e)))

-- a search that passes a key, or stops at it
module _ (text : List ℕ) (ps : List Part) (name : List ℕ) (k : ℕ) (d : Part) (b : List ℕ) (r : Bool) (at : b ≡ bytes text (get_or ps k d)) (test : Decides r (b ≡ name)) (lt : k < length ps) where
  here : find_from k (map (bytes text) (drop k ps)) name ≡ cond r (Some k) (find_from (k + 1) (map (bytes text) (drop (k + 1) ps)) name)
  here =
      at_drop_more (λ qs. find_from k (map (bytes text) qs) name) ps k d lt
      ∙ ap (λ x. cond (bytes_eq x name) (Some k) (find_from (k + 1) (map (bytes text) (drop (k + 1) ps)) name)) (sym at)
      ∙ ap (λ x. cond x (Some k) (find_from (k + 1) (map (bytes text) (drop (k + 1) ps)) name)) (sym (same_test_forward r b name test))

  pub find_stops : find (map (bytes text) ps) name ≡ find_from k (map (bytes text) (drop k ps)) name → r ≡ true → Some k ≡ find (map (bytes text) ps) name
  find_stops inv e = sym (inv ∙ here ∙ ap (λ x. cond x (Some k) (find_from (k + 1) (map (bytes text) (drop (k + 1) ps)) name)) e)

  pub find_goes : find (map (bytes text) ps) name ≡ find_from k (map (bytes text) (drop k ps)) name → r ≡ false → find (map (bytes text) ps) name ≡ find_from (k + 1) (map (bytes text) (drop (k + 1) ps)) name
  find_goes inv e = inv ∙ here ∙ ap (λ x. cond x (Some k) (find_from (k + 1) (map (bytes text) (drop (k + 1) ps)) name)) e

pub find_ends : (text : List ℕ) (ps : List Part) (name : List ℕ) (k : ℕ) → length ps ≤ k → find (map (bytes text) ps) name ≡ find_from k (map (bytes text) (drop k ps)) name → None ≡ find (map (bytes text) ps) name
find_ends text ps name k h inv = sym (inv ∙ at_drop_all (λ qs. find_from k (map (bytes text) qs) name) ps k h)

-- a word that is taken, or is not the one expected
module _ (o : Option ℕ) (ps : List (Bor (List ℕ))) (ws vs : List (List ℕ)) (k : ℕ) (d : Bor (List ℕ)) (r : Bool) (fits : r ≡ first_fits (bytes_eq (get_or ps k d).now) ws) (left : vs ≡ rest ws) (lt : k < length ps) (inv : o ≡ misfit (map (λ w. bytes_eq w.now) (drop k ps)) ws (k + 1)) where
  turn : o ≡ cond r (misfit (map (λ w. bytes_eq w.now) (drop (k + 1) ps)) vs (k + 1 + 1)) (Some (k + 1))
  turn =
      inv ∙ at_drop_more (λ qs. misfit (map (λ w. bytes_eq w.now) qs) ws (k + 1)) ps k d lt
      ∙ ap (λ b. cond b (misfit (map (λ w. bytes_eq w.now) (drop (k + 1) ps)) (rest ws) (k + 1 + 1)) (Some (k + 1))) (sym fits)
      ∙ ap (λ xs. cond r (misfit (map (λ w. bytes_eq w.now) (drop (k + 1) ps)) xs (k + 1 + 1)) (Some (k + 1))) (sym left)

  pub word_taken : r ≡ true → o ≡ misfit (map (λ w. bytes_eq w.now) (drop (k + 1) ps)) vs (k + 1 + 1)
  word_taken e = turn ∙ ap (λ b. cond b (misfit (map (λ w. bytes_eq w.now) (drop (k + 1) ps)) vs (k + 1 + 1)) (Some (k + 1))) e

  pub word_wrong : r ≡ false → o ≡ Some (k + 1)
  word_wrong e = turn ∙ ap (λ b. cond b (misfit (map (λ w. bytes_eq w.now) (drop (k + 1) ps)) vs (k + 1 + 1)) (Some (k + 1))) e

-- a search by places
pub find_by_place : (text : List ℕ) (name : List ℕ) (ps : List Part) (k : ℕ) → position_from (λ p. bytes_eq (bytes text p) name) k ps ≡ find_from k (map (bytes text) ps) name
find_by_place text name [] k = refl
find_by_place text name (p ∷ ps) k = ap (cond (bytes_eq (bytes text p) name) (Some k)) (find_by_place text name ps (k + 1))
