-- 0 at the end of a list of literals. Assumes nothing.
use Rattle.std.proofs.Common.{◌≡◌, Bool, true, false, not, ◌&&◌, nat_eq, List, [], ◌∷◌, ◌++◌, refl, ap, ◌∙◌}
use Rattle.std.specs.List.{list_all}
use Rattle.sink.specs.declared.lit.Lit.{Lit}
use Rattle.answers.specs.Assignments.{zero_ends}

-- whether no literal is 0
abbrev pub no_zeros : List Lit → Bool
no_zeros ls = list_all (λ l. not (nat_eq l.variable 0)) ls

zero_ends_more : (m : Lit) (ls : List Lit) (l : Lit) → zero_ends (m ∷ (ls ++ l ∷ [])) ≡ (not (nat_eq m.variable 0) && zero_ends (ls ++ l ∷ []))
zero_ends_more m [] l = refl
zero_ends_more m (n ∷ ls) l = refl

and_swap : (a b c : Bool) → (a && (b && c)) ≡ (b && (a && c))
and_swap true b c = refl
and_swap false true c = refl
and_swap false false c = refl

pub zero_ends_last : (ls : List Lit) (l : Lit) → zero_ends (ls ++ l ∷ []) ≡ (nat_eq l.variable 0 && no_zeros ls)
zero_ends_last [] l = go (nat_eq l.variable 0)
  where
    go : (b : Bool) → b ≡ (b && true)
    go true = refl
    go false = refl
zero_ends_last (m ∷ ls) l =
    zero_ends_more m ls l
    ∙ ap (λ b. not (nat_eq m.variable 0) && b) (zero_ends_last ls l)
    ∙ and_swap (not (nat_eq m.variable 0)) (nat_eq l.variable 0) (no_zeros ls)
