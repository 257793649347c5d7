-- What a variable line comes to once its words are right. Assumes nothing.
use Rattle.std.proofs.Common.{◌≡◌, ℕ, true, false, cond, List, [], ◌∷◌, ◌++◌, map, is_some, None, Ok, Err, Result, sym, refl, ap, ◌∙◌, subst, arith}
use Rattle.std.proofs.lemmas.List.{map_push}
use Rattle.std.specs.Result.{IsErrAnd}
use Rattle.std.specs.declared.alloc.AllocError.{AllocError}
use Rattle.words.specs.declared.parts.Part.{Part}
use Rattle.words.specs.Parts.{bytes}
use Rattle.words.specs.Shapes.{number}
use Rattle.calls.specs.declared.refusal.Refusal.{Refusal}
use Rattle.job.specs.Declares.{declaring}
use Rattle.job.specs.View.{View}
use Rattle.calls.specs.declared.refusal.Fault.{Fault}
use Rattle.calls.specs.declared.refusal.Fault.TheVariants.{Refused as No, NoMemory as Lack}
use Rattle.calls.specs.Questions.{Answers}
use Rattle.sheet.specs.Reads.{Steps, Passes}
use Rattle.sheet.specs.declared.reader.reading.LineFault.{LineFault}
use Rattle.sheet.specs.declared.reader.reading.LineFault.TheVariants.{Refused, NoMemory}
use Rattle.sheet.specs.declared.reader.Section.{Section}
use Rattle.sheet.specs.declared.refusal.Reason.TheVariants.{BadVariable, NameTaken}
use Rattle.sheet.specs.Lines.{misfit, variable_words, word_at, none_left}
use Rattle.sheet.specs.Sheets.{Draft, Mark, mark, find, fitting, declared, variable_line, line_step}
use Rattle.sheet.specs.declared.reader.Section.TheVariants.{Variables}

-- the words are right and the name is new: the job answers
pub line_declares : (d : Draft) (ws : List (List ℕ)) (low high : ℕ) (v : Result (ℕ × View) Refusal) → misfit variable_words ws 1 ≡ None → is_some (find d.names (word_at ws 0)) ≡ false → low ≡ number (word_at ws 1) → high ≡ number (word_at ws 2) → declaring d.view low high ≡ v → variable_line d ws ≡ declared d (word_at ws 0) v
line_declares d ws low high v fit new lo hi e =
    let answer = declared d (word_at ws 0) (declaring d.view (number (word_at ws 1)) (number (word_at ws 2))) in
    ap (λ o. fitting o BadVariable (cond (is_some (find d.names (word_at ws 0))) (Err (mark NameTaken 1)) answer)) fit
    ∙ ap (λ b. cond b (Err (mark NameTaken 1)) answer) new
    ∙ ap (λ n. declared d (word_at ws 0) (declaring d.view n (number (word_at ws 2)))) (sym lo)
    ∙ ap (λ n. declared d (word_at ws 0) (declaring d.view low n)) (sym hi)
    ∙ ap (declared d (word_at ws 0)) e

-- the names of a draft, by their places, with one more
pub names_push : (text : List ℕ) (old ps qs : List Part) (p : Part) (w : List ℕ) → qs ≡ ps ++ p ∷ [] → ps ≡ old → bytes text p ≡ w → map (bytes text) qs ≡ map (bytes text) old ++ w ∷ []
names_push text old ps qs p w push same e =
    ap (map (bytes text)) push ∙ map_push (bytes text) ps p
    ∙ ap (λ xs. map (bytes text) xs ++ bytes text p ∷ []) same ∙ ap (λ x. map (bytes text) old ++ x ∷ []) e

-- two drafts with the same parts
pub same_draft : (v v' : View) (ns ns' : List (List ℕ)) (s : Section) → v ≡ v' → ns ≡ ns' → ◌≡◌ {A = Draft} (record { view = v; names = ns; section = s }) (record { view = v'; names = ns'; section = s })
same_draft v v' ns ns' s p q = λ i. record { view = p i; names = q i; section = s }

-- a line with words among the variable lines
pub wordy_line : (d : Draft) (ws : List (List ℕ)) → none_left ws ≡ false → line_step Variables d ws ≡ variable_line d ws
wordy_line d [] h = absurd (no h)
  where
    no : true ≡ false → ⊥
    no h = grind arith
wordy_line d (w ∷ ws) h = refl

-- the job refused, or lacked memory
pub line_faults : (d d' : Draft) (ws : List (List ℕ)) (low high : ℕ) (fault : Fault) (f : LineFault) → Passes fault f → misfit variable_words ws 1 ≡ None → is_some (find d.names (word_at ws 0)) ≡ false → low ≡ number (word_at ws 1) → high ≡ number (word_at ws 2) → Answers {X = ℕ} (declaring d.view low high) (Err fault) d.view d'.view → d'.names ≡ d.names → d'.section ≡ d.section → Steps (variable_line d ws) (Err f) d d'
line_faults d d' ws low high (No q) f p fit new lo hi a ns sec =
    subst (λ x. Steps (variable_line d ws) (Err x) d d') (sym p) (line_declares d ws low high (Err q) fit new lo hi a.0, λ i. record { view = a.1 i; names = ns i; section = sec i })
line_faults d d' ws low high Lack (NoMemory e) p fit new lo hi a ns sec = λ i. record { view = a i; names = ns i; section = sec i }
line_faults d d' ws low high Lack (Refused r n) p fit new lo hi a ns sec = elim p [ ]

-- the same of an error that was passed up
pub passes_up : (d d' : Draft) (ws : List (List ℕ)) (low high : ℕ) (fault : Fault) (r : Result (Unit {0}) LineFault) → IsErrAnd r (Passes fault) → misfit variable_words ws 1 ≡ None → is_some (find d.names (word_at ws 0)) ≡ false → low ≡ number (word_at ws 1) → high ≡ number (word_at ws 2) → Answers {X = ℕ} (declaring d.view low high) (Err fault) d.view d'.view → d'.names ≡ d.names → d'.section ≡ d.section → Steps (variable_line d ws) r d d'
passes_up d d' ws low high fault (Err f) p fit new lo hi a ns sec = line_faults d d' ws low high fault f p fit new lo hi a ns sec
passes_up d d' ws low high fault (Ok _) p fit new lo hi a ns sec = elim p [ ]

-- for want of memory nothing changes
pub lacks : (v : Result Draft Mark) (d d' : Draft) (e : AllocError) (r : Result (Unit {0}) LineFault) → IsErrAnd r (λ f. f ≡ NoMemory e) → d' ≡ d → Steps v r d d'
lacks v d d' e (Err f) p same = subst (λ x. Steps v (Err x) d d') (sym p) same
lacks v d d' e (Ok _) p same = elim p [ ]
