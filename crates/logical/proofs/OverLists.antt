-- Lists and tests over a list's places from n on, as over what is left of the list. Assumes nothing.
use Rattle.std.proofs.Common.{◌≡◌, ℕ, zero, suc, ◌+◌, ◌-◌, Bool, ◌&&◌, List, [], ◌∷◌, ◌++◌, length, get_or, take, drop, refl, sym, ap, ◌∙◌, arith}
use Rattle.std.specs.List.{list_all, range_with_len}
use Rattle.std.proofs.lemmas.List.{at_drop_more, at_drop_all, take_rest}
use Rattle.order.specs.Between.{run, between, joined}
use Rattle.order.specs.declared.range.Range.{Range}
use Rattle.kinds.specs.declared.item.Item.{Item}
use Rattle.kinds.specs.declared.item.Item.TheVariants.{Variable}
use Rattle.kinds.specs.Items.{var}
use Rattle.logical.specs.Distinct.{apart_from, apart_later}
use Rattle.kinds.proofs.Loops.{Leads, at, begin}
use Rattle.kinds.specs.Tests.{every, all_between}

-- a list's fold G, and R over its places, which takes the same steps
over_places : {X Z : Type 0} (G : List X → Z) (step : X → Z → Z) (xs : List X) (d : X) (R : ℕ → ℕ → Z) → ((x : X) (ys : List X) → G (x ∷ ys) ≡ step x (G ys)) → ((n : ℕ) → G [] ≡ R n zero) → ((n m : ℕ) → step (get_or xs n d) (R (n + 1) m) ≡ R n (suc m)) → (m n : ℕ) → m ≡ length xs - n → G (drop n xs) ≡ R n m
over_places G step xs d R more none next zero n e = at_drop_all G xs n (omega arith) ∙ none n
over_places G step xs d R more none next (suc m) n e =
    at_drop_more G xs n d (omega arith)
    ∙ more (get_or xs n d) (drop (n + 1) xs)
    ∙ ap (step (get_or xs n d)) (over_places G step xs d R more none next m (n + 1) (omega arith))
    ∙ next n m

pub joined_from : {X Y : Type 0} (F : X → List Y) (xs : List X) (d : X) (n : ℕ) → joined F (drop n xs) ≡ between (λ k. F (get_or xs k d)) n (length xs)
joined_from F xs d n = over_places (joined F) (λ x ys. F x ++ ys) xs d (run (λ k. F (get_or xs k d))) (λ _ _. refl) (λ _. refl) (λ _ _. refl) (length xs - n) n refl

-- a loop over a list begins with all of it left
pub begin_list : {S C X : Type 0} (step : S → C → S → Type 0) (F : X → List C) (xs : List X) (d : X) (s : S) → Leads step (at F xs d) 0 (length xs) s (joined F xs) s
begin_list step F xs d s = begin (sym (joined_from F xs d 0))

-- the items after p, which A stands before
pub apart_rest : (rs : List Range) (a : ℕ) (items : List Item) (p : ℕ) → a ≡ var items p → joined (apart_from rs a) (take (length items - (p + 1)) (drop (p + 1) items)) ≡ apart_later items rs p
apart_rest rs a items p e =
    ap (joined (apart_from rs a)) (take_rest items (p + 1))
    ∙ ap (λ x. joined (apart_from rs x) (drop (p + 1) items)) e
    ∙ joined_from (apart_from rs (var items p)) items (Variable 0) (p + 1)

pub all_from : {X : Type 0} (p : X → Bool) (xs : List X) (d : X) (n : ℕ) → list_all p (drop n xs) ≡ all_between (λ k. p (get_or xs k d)) n (length xs)
all_from p xs d n = over_places (list_all p) (λ x b. p x && b) xs d (every (λ k. p (get_or xs k d))) (λ _ _. refl) (λ _. refl) (λ _ _. refl) (length xs - n) n refl

-- a test of each number of a stretch
run_all : (p : ℕ → Bool) (a n : ℕ) → list_all p (range_with_len a n) ≡ every p a n
run_all p a zero = refl
run_all p a (suc n) = ap (λ b. p a && b) (run_all p (a + 1) n)

pub all_numbers : (p : ℕ → Bool) (a b : ℕ) → list_all p (range_with_len a (b - a)) ≡ all_between p a b
all_numbers p a b = run_all p a (b - a)
