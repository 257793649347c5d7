-- Reading a sheet: its start, one line more, a line that stops it, and its end. Assumes nothing.
use Rattle.std.proofs.Common.{◌≡◌, ℕ, ◌+◌, ◌<◌, ◌≤◌, Bool, true, false, cond, ◌==◌, leb, List, [], ◌∷◌, map, length, IfOk, Some, Ok, Err, Result, sym, ap, ◌∙◌, arith}
use Rattle.std.specs.declared.alloc.AllocError.{AllocError}
use Rattle.std.proofs.lemmas.Bool.{le-leb}
use Rattle.std.proofs.lemmas.Bool.Decides.{nat_tests}
use Rattle.words.specs.declared.parts.Part.{Part}
use Rattle.words.specs.Parts.{bytes}
use Rattle.words.specs.Split.{lines, words, split, onto, closed_last}
use Rattle.job.specs.View.{View, new_view}
use Rattle.sheet.specs.declared.reader.Section.TheVariants.{Start}
use Rattle.sheet.specs.declared.reader.Sheet.{Sheet}
use Rattle.sheet.specs.declared.reader.reading.LineFault.{LineFault}
use Rattle.sheet.specs.declared.reader.reading.LineFault.TheVariants.{Refused, NoMemory}
use Rattle.sheet.specs.declared.refusal.Reason.{Reason}
use Rattle.sheet.specs.declared.refusal.Reason.TheVariants.{TooLong}
use Rattle.sheet.specs.Halting.{Halts}
use Rattle.sheet.specs.Reads.{Steps}
use Rattle.sheet.specs.Sheets.{Draft, mark, Outcome, outcome, new_draft, line_step, after_line, read_lines, reading, end_stop}
use Rattle.sheet.specs.Views.{outcome_of}

-- the draft of a reader that has read nothing
pub starts : (text : List ℕ) (v : View) (ps : List Part) → v ≡ new_view → ps ≡ [] → ◌≡◌ {A = Draft} (record { view = v; names = map (bytes text) ps; section = Start }) new_draft
starts text v ps p q = λ i. record { view = p i; names = map (bytes text) (q i); section = Start }

pub reading_short : (text : List ℕ) (d : Draft) → d ≡ new_draft → length text ≤ 65535 → reading text ≡ read_lines d 1 (lines text)
reading_short text d e h =
    ap (λ b. cond b (read_lines new_draft 1 (lines text)) (outcome new_draft (Some (record { reason = TooLong; line = 1; word = 1 })))) (le-leb (length text) 65535 h)
    ∙ ap (λ x. read_lines x 1 (lines text)) (sym e)

pub reading_long : (text : List ℕ) (d : Draft) → d ≡ new_draft → 65535 < length text → reading text ≡ outcome d (Some (record { reason = TooLong; line = 1; word = 1 }))
reading_long text d e h =
    ap (λ b. cond b (read_lines new_draft 1 (lines text)) (outcome new_draft (Some (record { reason = TooLong; line = 1; word = 1 })))) (past (length text) h)
    ∙ ap (λ x. outcome x (Some (record { reason = TooLong; line = 1; word = 1 }))) (sym e)
  where
    past : (n : ℕ) → 65535 < n → leb n 65535 ≡ false
    past n h = grind (arith, nat_tests)

module _ (o : Outcome) (d : Draft) (n : ℕ) (all ls : List (List ℕ)) (l : List ℕ) (inv : o ≡ read_lines d n all) (first : all ≡ l ∷ ls) where
  now_line : o ≡ after_line (line_step d.section d (words l)) d n (λ x. read_lines x (n + 1) ls)
  now_line = inv ∙ ap (read_lines d n) first

  -- one line more
  pub goes_on : (d' : Draft) → line_step d.section d (words l) ≡ Ok d' → o ≡ read_lines d' (n + 1) ls
  goes_on d' e = now_line ∙ ap (λ v. after_line v d n (λ x. read_lines x (n + 1) ls)) e

  -- a line that stops it
  pub stops : (q : Reason) (w : ℕ) → line_step d.section d (words l) ≡ Err (mark q w) → o ≡ outcome d (Some (record { reason = q; line = n; word = w }))
  stops q w e = now_line ∙ ap (λ v. after_line v d n (λ x. read_lines x (n + 1) ls)) e

  pub halts : (fault : LineFault) (text text' : List ℕ) (d' : Draft) (r : Result Sheet AllocError) → text' ≡ text → Steps (line_step d.section d (words l)) (Err fault) d d' → Halts fault text' d' n r → IfOk r (λ s. outcome_of text s ≡ o)
  halts (Refused q w) text text' d' (Ok s) e steps h =
      sym (ap (λ t. outcome_of t s) e) ∙ h ∙ ap (λ x. outcome x (Some (record { reason = q; line = n; word = w }))) steps.1 ∙ sym (stops q w steps.0)
  halts (Refused q w) text text' d' (Err x) e steps h = tt
  halts (NoMemory x') text text' d' (Ok s) e steps h = absurd (no h)
    where
      no : true ≡ false → ⊥
      no h = grind arith
  halts (NoMemory x') text text' d' (Err x) e steps h = tt

-- its end
pub ends : (o : Outcome) (d : Draft) (n : ℕ) (all : List (List ℕ)) → o ≡ read_lines d n all → all ≡ [] → o ≡ outcome d (end_stop d.section n)
ends o d n all inv none = inv ∙ ap (read_lines d n) none

-- there are few lines
onto_few : (b : ℕ) (ps : List (List ℕ)) → length (onto b ps) ≤ length ps + 1
onto_few b [] = omega arith
onto_few b (p ∷ ps) = omega arith

split_few : (x : ℕ) (bs : List ℕ) → length (split x bs) ≤ length bs + 1
split_few x [] = omega arith
split_few x (b ∷ bs) = go (b == x) (split x bs) (split_few x bs)
  where
    go : (c : Bool) (ps : List (List ℕ)) → length ps ≤ length bs + 1 → length (cond c ([] ∷ ps) (onto b ps)) ≤ length (b ∷ bs) + 1
    go true ps h = omega arith
    go false ps h = let few = onto_few b ps in omega arith

closed_few : (ps : List (List ℕ)) → length (closed_last ps) ≤ length ps
closed_few [] = omega arith
closed_few ([] ∷ []) = omega arith
closed_few ((b ∷ p) ∷ []) = omega arith
closed_few ([] ∷ (q ∷ ps)) = let few = closed_few (q ∷ ps) in omega arith
closed_few ((b ∷ p) ∷ (q ∷ ps)) = let few = closed_few (q ∷ ps) in omega arith

pub lines_few : (text : List ℕ) → length (lines text) ≤ length text + 1
lines_few text = let few = closed_few (split 10 text) in let most = split_few 10 text in omega arith

-- a line by its place in the text
pub first_by_place : (text text' : List ℕ) (p : Part) (b : List ℕ) (all ls : List (List ℕ)) → text' ≡ text → b ≡ bytes text' p → all ≡ b ∷ ls → all ≡ bytes text p ∷ ls
first_by_place text text' p b all ls e at first = first ∙ ap (λ x. x ∷ ls) (at ∙ ap (λ t. bytes t p) e)
