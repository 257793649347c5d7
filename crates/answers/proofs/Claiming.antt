-- What an answer claims, after what its lines so far have shown. Assumes nothing.
use Rattle.std.proofs.Common.{◌≡◌, ℕ, Bool, true, false, cond, ◌&&◌, List, [], ◌∷◌, Some, None, Ok, Err, Option, Result, refl, ap, ◌∙◌}
use Rattle.answers.specs.declared.claim.ClaimFault.{ClaimFault}
use Rattle.answers.specs.declared.claim.ClaimFault.TheVariants.{BadLine}
use Rattle.answers.specs.declared.claim.Claimed.{Claimed}
use Rattle.answers.specs.declared.claim.Claimed.TheVariants.{Nothing, Once, Often}
use Rattle.answers.specs.declared.claim.Seen.{Seen}
use Rattle.answers.specs.declared.line.Status.{Status}
use Rattle.answers.specs.declared.line.Status.TheVariants.{Unknown}
use Rattle.answers.specs.Claims.{claimed}
use Rattle.answers.specs.Lines.{is_right, all_right, claim_of, values_in, before, claims, value_lines}
use Rattle.answers.specs.Seeing.{and_claim, with_claim, with_values, with_line}

-- the claims that were seen, before others; of several it matters only that there are two
abbrev pub claims_after : Claimed → List Status → List Status
claims_after Nothing cs = cs
claims_after (Once c) cs = c ∷ cs
claims_after Often cs = Unknown ∷ Unknown ∷ cs

-- a value line if one was seen, before others
abbrev pub values_after : Seen → List (List ℕ) → List (List ℕ)
values_after s vs = cond s.values ([] ∷ vs) vs

-- what an answer claims whose lines left are ls
abbrev pub claim_after : Seen → List (List ℕ) → Result Status ClaimFault
claim_after s ls =
    cond (all_right ls) (claimed (claims_after s.claimed (claims ls)) (values_after s (value_lines ls))) (Err BadLine)

-- of the value lines it matters only whether there is one
claimed_some : (cs : List Status) (v w : List ℕ) (vs ws : List (List ℕ)) → claimed cs (v ∷ vs) ≡ claimed cs (w ∷ ws)
claimed_some [] v w vs ws = refl
claimed_some (s ∷ []) v w vs ws = refl
claimed_some (s ∷ (t ∷ ss)) v w vs ws = refl

more_values : (cs : List Status) (t : Bool) (v : List ℕ) (vs : List (List ℕ)) → claimed cs (cond t ([] ∷ v ∷ vs) (v ∷ vs)) ≡ claimed cs ([] ∷ vs)
more_values cs true v vs = claimed_some cs [] [] (v ∷ vs) vs
more_values cs false v vs = claimed_some cs v [] vs vs

-- a third claim and each after it change nothing
more_claims : (k : Claimed) (x : Status) (cs : List Status) (vs : List (List ℕ)) → claimed (claims_after k (x ∷ cs)) vs ≡ claimed (claims_after (and_claim k x) cs) vs
more_claims Nothing x cs vs = refl
more_claims (Once c) x cs vs = refl
more_claims Often x cs vs = refl

line_taken : (s : Seen) (c : Option Status) (v : Option (List ℕ)) (cs : List Status) (vs : List (List ℕ)) → claimed (claims_after s.claimed (before c cs)) (values_after s (before v vs)) ≡ claimed (claims_after (with_values (with_claim s c) v).claimed cs) (values_after (with_values (with_claim s c) v) vs)
line_taken s None None cs vs = refl
line_taken s None (Some v) cs vs = more_values (claims_after s.claimed cs) s.values v vs
line_taken s (Some x) None cs vs = more_claims s.claimed x cs (values_after s vs)
line_taken s (Some x) (Some v) cs vs =
    more_claims s.claimed x cs (values_after s (v ∷ vs))
    ∙ more_values (claims_after (with_claim s (Some x)).claimed cs) s.values v vs

-- the lines left are l and ls
module _ (o : Result Status ClaimFault) (s : Seen) (all ls : List (List ℕ)) (l : List ℕ) (inv : o ≡ claim_after s all) (first : all ≡ l ∷ ls) where
  -- a line that is right
  pub goes_on : (m : Seen) → with_line s l ≡ Ok m → o ≡ claim_after m ls
  goes_on m e = inv ∙ ap (claim_after s) first ∙ go (is_right l) e
    where
      go : (r : Bool) → cond r (Ok (with_values (with_claim s (claim_of l)) (values_in l))) (Err BadLine) ≡ Ok m → cond (r && all_right ls) (claimed (claims_after s.claimed (claims (l ∷ ls))) (values_after s (value_lines (l ∷ ls)))) (Err BadLine) ≡ claim_after m ls
      go false e = absurd (cc e)
      go true e =
          let same : with_values (with_claim s (claim_of l)) (values_in l) ≡ m = cc e in
          ap (λ x. cond (all_right ls) x (Err BadLine)) (line_taken s (claim_of l) (values_in l) (claims ls) (value_lines ls)) ∙ ap (λ t. claim_after t ls) same
