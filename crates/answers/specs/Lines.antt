-- What a line of an answer is. Assumes nothing.
use Rattle.std.specs.Prelude.{◌≡◌, ℕ, Bool, true, false, cond, ◌&&◌, ◌||◌, List, [], ◌∷◌, is_some, Some, None, codes, Option, ◌==◌}
use Rattle.std.specs.Str.{bytes_eq}
use Rattle.answers.specs.declared.line.Line.{Line}
use Rattle.answers.specs.declared.line.Line.TheVariants.{Comment, Claim, Values, Other}
use Rattle.answers.specs.declared.line.Status.{Status}
use Rattle.answers.specs.declared.line.Status.TheVariants.{Satisfiable, Unsatisfiable, Unknown}

-- a comment begins with c
abbrev pub is_comment : List ℕ → Bool
is_comment [] = false
is_comment (b ∷ bs) = b == 99

-- the claim of a status line, which is one of three
abbrev pub status_of : List ℕ → Option Status
status_of l = cond (bytes_eq (codes "s SATISFIABLE") l) (Some Satisfiable) (cond (bytes_eq (codes "s UNSATISFIABLE") l) (Some Unsatisfiable) (cond (bytes_eq (codes "s UNKNOWN") l) (Some Unknown) None))

-- what follows v and a blank in a value line
abbrev pub values_of : List ℕ → Option (List ℕ)
values_of [] = None
values_of (b ∷ []) = None
values_of (b ∷ (d ∷ bs)) = cond (b == 118 && d == 32) (Some bs) None

-- a comment, a status line or a value line
abbrev pub is_right : List ℕ → Bool
is_right l = is_comment l || (is_some (status_of l) || is_some (values_of l))

-- the line is taken for what it is
abbrev pub Shapes : List ℕ → Line → Type 0
Shapes l Comment = is_comment l ≡ true
Shapes l (Claim s) = (is_comment l ≡ false) × (status_of l ≡ Some s) × (values_of l ≡ None)
Shapes l (Values bs) = (is_comment l ≡ false) × (status_of l ≡ None) × (values_of l ≡ Some bs.now)
Shapes l Other = is_right l ≡ false

-- whether each line is right
abbrev pub all_right : List (List ℕ) → Bool
all_right [] = true
all_right (l ∷ ls) = is_right l && all_right ls

-- the claims of the status lines; a comment makes none
abbrev pub claim_of : List ℕ → Option Status
claim_of l = cond (is_comment l) None (status_of l)

abbrev pub values_in : List ℕ → Option (List ℕ)
values_in l = cond (is_comment l) None (values_of l)

-- what there is, before others
abbrev pub before : {X : Type 0} → Option X → List X → List X
before None xs = xs
before (Some x) xs = x ∷ xs

abbrev pub claims : List (List ℕ) → List Status
claims [] = []
claims (l ∷ ls) = before (claim_of l) (claims ls)

-- the value lines, without v and the blank
abbrev pub value_lines : List (List ℕ) → List (List ℕ)
value_lines [] = []
value_lines (l ∷ ls) = before (values_in l) (value_lines ls)
