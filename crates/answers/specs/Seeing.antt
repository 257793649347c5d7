-- What the lines of an answer so far have shown. Assumes nothing.
use Rattle.std.specs.Prelude.{ℕ, true, cond, List, Some, None, Option, Ok, Err, Result}
use Rattle.answers.specs.declared.claim.Claimed.{Claimed}
use Rattle.answers.specs.declared.claim.Claimed.TheVariants.{Nothing, Once, Often}
use Rattle.answers.specs.declared.claim.ClaimFault.{ClaimFault}
use Rattle.answers.specs.declared.claim.ClaimFault.TheVariants.{BadLine}
use Rattle.answers.specs.declared.claim.Seen.{Seen}
use Rattle.answers.specs.declared.line.Status.{Status}
use Rattle.answers.specs.Lines.{is_right, claim_of, values_in}

-- one claim more
abbrev pub and_claim : Claimed → Status → Claimed
and_claim Nothing c = Once c
and_claim (Once d) c = Often
and_claim Often c = Often

-- the claim of a line more, if it makes one
abbrev pub with_claim : Seen → Option Status → Seen
with_claim s None = s
with_claim s (Some c) = record { claimed = and_claim s.claimed c; values = s.values }

-- a value line more
abbrev pub with_values : Seen → Option (List ℕ) → Seen
with_values s None = s
with_values s (Some bs) = record { claimed = s.claimed; values = true }

-- one line more, if it is right
abbrev pub with_line : Seen → List ℕ → Result Seen ClaimFault
with_line s l = cond (is_right l) (Ok (with_values (with_claim s (claim_of l)) (values_in l))) (Err BadLine)
