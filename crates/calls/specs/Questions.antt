-- Questions that a call puts, in order; the first no refuses. Assumes nothing.
use Rattle.std.specs.Prelude.{◌≡◌, Bool, true, false, cond, List, [], ◌∷◌, Some, None, Ok, Err, Option, Result}
use Rattle.calls.specs.declared.refusal.Refusal.{Refusal}
use Rattle.calls.specs.declared.refusal.Fault.{Fault}
use Rattle.calls.specs.declared.refusal.Fault.TheVariants.{Refused, NoMemory}

-- whether the answer is yes, and the refusal for no
pub record Question : Type 0 where
  pub yes : Bool
  pub refusal : Refusal

abbrev pub ask : Bool → Refusal → Question
ask b q = record { yes = b; refusal = q }

-- the refusal of the first question that is answered no
abbrev pub first_no : List Question → Option Refusal
first_no [] = None
first_no (q ∷ qs) = cond q.yes (first_no qs) (Some q.refusal)

-- what a call comes to: its answer and what is held then, or a refusal
abbrev pub verdict : {X S : Type 0} → Option Refusal → X → S → Result (X × S) Refusal
verdict None x s = Ok (x, s)
verdict (Some q) x s = Err q

-- a call that may lack memory: it answers as the verdict says, or does nothing
abbrev pub Answers : {X S : Type 0} → Result (X × S) Refusal → Result X Fault → S → S → Type 0
Answers v (Ok x) s s' = v ≡ Ok (x, s')
Answers v (Err (Refused q)) s s' = (v ≡ Err q) × (s' ≡ s)
Answers v (Err NoMemory) s s' = s' ≡ s

-- a call that lacks nothing
abbrev pub Replies : {X S : Type 0} → Result (X × S) Refusal → Result X Refusal → S → S → Type 0
Replies v (Ok x) s s' = v ≡ Ok (x, s')
Replies v (Err q) s s' = (v ≡ Err q) × (s' ≡ s)

-- an answer that does not speak of memory
abbrev pub answered : {X : Type 0} → Result X Fault → Bool
answered (Ok x) = true
answered (Err (Refused q)) = true
answered (Err NoMemory) = false
