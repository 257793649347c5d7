-- What a sheet says: the job that it fills, the names, and where it is refused. Assumes nothing.
use Rattle.std.specs.Prelude.{ℕ, ◌+◌, cond, List, [], ◌∷◌, ◌++◌, length, is_some, Some, None, Ok, Err, Option, Result, nat_le}
use Rattle.std.specs.Str.{bytes_eq}
use Rattle.words.specs.Split.{lines, words}
use Rattle.words.specs.Shapes.{number}
use Rattle.calls.specs.declared.refusal.Refusal.{Refusal}
use Rattle.job.specs.Declares.{declaring}
use Rattle.job.specs.View.{View, new_view}
use Rattle.sheet.specs.declared.refusal.Reason.{Reason}
use Rattle.sheet.specs.declared.refusal.Reason.TheVariants.{TooLong, BadVariable, NameTaken, BadRuleHeading, UnknownRule, BadHeading, Job}
use Rattle.sheet.specs.declared.refusal.Stop.{Stop}
use Rattle.sheet.specs.declared.reader.Section.{Section}
use Rattle.sheet.specs.declared.reader.Section.TheVariants.{Start, Variables, Gap, Rules}
use Rattle.sheet.specs.Lines.{misfit, heading, rule_heading, variable_words, word_at}

-- the place of the first key that is w
abbrev pub find_from : ℕ → List (List ℕ) → List ℕ → Option ℕ
find_from n [] w = None
find_from n (k ∷ ks) w = cond (bytes_eq k w) (Some n) (find_from (n + 1) ks w)

abbrev pub find : List (List ℕ) → List ℕ → Option ℕ
find ks w = find_from 0 ks w

-- what has been read so far: the job, the names of its variables, and what the next line may be
pub record Draft : Type 0 where
  pub view : View
  pub names : List (List ℕ)
  pub section : Section

abbrev pub new_draft : Draft
new_draft = record { view = new_view; names = []; section = Start }

-- a line is refused at a word
pub record Mark : Type 0 where
  pub reason : Reason
  pub word : ℕ

abbrev pub mark : Reason → ℕ → Mark
mark q n = record { reason = q; word = n }

abbrev pub in_section : Draft → Section → Draft
in_section d s = record { view = d.view; names = d.names; section = s }

-- on where the words fit, else refused at the first that does not
abbrev pub fitting : Option ℕ → Reason → Result Draft Mark → Result Draft Mark
fitting None q r = r
fitting (Some n) q r = Err (mark q n)

-- the job's answer to a declaration: a refusal passes up whole, at word 1
abbrev pub declared : Draft → List ℕ → Result (ℕ × View) Refusal → Result Draft Mark
declared d w (Ok y) = Ok (record { view = y.1; names = d.names ++ w ∷ []; section = d.section })
declared d w (Err q) = Err (mark (Job q) 1)

-- a variable line: three proper words? Name new? Then the job's questions
abbrev pub variable_line : Draft → List (List ℕ) → Result Draft Mark
variable_line d ws =
    fitting (misfit variable_words ws 1) BadVariable
    (cond (is_some (find d.names (word_at ws 0))) (Err (mark NameTaken 1))
    (declared d (word_at ws 0) (declaring d.view (number (word_at ws 1)) (number (word_at ws 2)))))

-- what a line of these words does
abbrev pub line_step : Section → Draft → List (List ℕ) → Result Draft Mark
line_step Start d ws = fitting (misfit heading ws 1) BadHeading (Ok (in_section d Variables))
line_step Variables d [] = Ok (in_section d Gap)
line_step Variables d (w ∷ ws) = variable_line d (w ∷ ws)
line_step Gap d ws = fitting (misfit rule_heading ws 1) BadRuleHeading (Ok (in_section d Rules))
line_step Rules d ws = Err (mark UnknownRule 1)

-- what a sheet that ends here lacks
abbrev pub end_stop : Section → ℕ → Option Stop
end_stop Start n = Some (record { reason = BadHeading; line = n; word = 1 })
end_stop Variables n = None
end_stop Gap n = Some (record { reason = BadRuleHeading; line = n; word = 1 })
end_stop Rules n = None

-- what a sheet comes to: the job and its names, and where it was refused
pub record Outcome : Type 0 where
  pub view : View
  pub names : List (List ℕ)
  pub stop : Option Stop

abbrev pub outcome : Draft → Option Stop → Outcome
outcome d s = record { view = d.view; names = d.names; stop = s }

-- a line that is refused changes nothing; after any other the rest is read
abbrev pub after_line : Result Draft Mark → Draft → ℕ → (Draft → Outcome) → Outcome
after_line (Err m) d n more = outcome d (Some (record { reason = m.reason; line = n; word = m.word }))
after_line (Ok d') d n more = more d'

-- one line after another, the first having the number n
abbrev pub read_lines : Draft → ℕ → List (List ℕ) → Outcome
read_lines d n [] = outcome d (end_stop d.section n)
read_lines d n (l ∷ ls) = after_line (line_step d.section d (words l)) d n (λ d'. read_lines d' (n + 1) ls)

-- a sheet has at most 65,535 bytes
abbrev pub reading : List ℕ → Outcome
reading text = cond (nat_le (length text) 65535) (read_lines new_draft 1 (lines text)) (outcome new_draft (Some (record { reason = TooLong; line = 1; word = 1 })))
