-- What holds of all items of lists that are joined, and one list more. Assumes nothing.
use Rattle.std.proofs.Common.{◌≡◌, ℕ, ◌+◌, ◌<◌, List, [], ◌∷◌, ◌++◌, length, get_or, take, sym, refl, ap, ◌∙◌}
use Rattle.std.specs.List.{AllByRecursion}
use Rattle.std.proofs.lemmas.List.{append_assoc, append-nil, take_more}
use Rattle.std.proofs.ByRecursion.{All-append}
use Rattle.order.specs.Between.{joined}

module _ {X : Type 0} (P : X → Type 0) where
  pub all_front : (xs ys : List X) → AllByRecursion P (xs ++ ys) → AllByRecursion P xs
  all_front [] ys h = tt
  all_front (x ∷ xs) ys h = (h.0, all_front xs ys h.1)

  pub all_back : (xs ys : List X) → AllByRecursion P (xs ++ ys) → AllByRecursion P ys
  all_back [] ys h = h
  all_back (x ∷ xs) ys h = all_back xs ys h.1

  module _ {Y : Type 0} (f : Y → List X) where
    pub all_joined : (ys : List Y) → AllByRecursion (λ y. AllByRecursion P (f y)) ys → AllByRecursion P (joined f ys)
    all_joined [] h = tt
    all_joined (y ∷ ys) h = All-append P (f y) (joined f ys) h.0 (all_joined ys h.1)

    pub joined_all : (ys : List Y) → AllByRecursion P (joined f ys) → AllByRecursion (λ y. AllByRecursion P (f y)) ys
    joined_all [] h = tt
    joined_all (y ∷ ys) h = (all_front (f y) (joined f ys) h, joined_all ys (all_back (f y) (joined f ys) h))

-- what holds of each item by two facts
pub all_both : {X : Type 0} (P Q R : X → Type 0) → ((x : X) → P x → Q x → R x) → (xs : List X) → AllByRecursion P xs → AllByRecursion Q xs → AllByRecursion R xs
all_both P Q R g [] p q = tt
all_both P Q R g (x ∷ xs) p q = (g x p.0 q.0, all_both P Q R g xs p.1 q.1)

-- a loop's step
module _ {X Y : Type 0} (f : X → List Y) where
  pub joined_append : (xs ys : List X) → joined f (xs ++ ys) ≡ joined f xs ++ joined f ys
  joined_append [] ys = refl
  joined_append (x ∷ xs) ys = ap (λ z. f x ++ z) (joined_append xs ys) ∙ sym (append_assoc (f x) (joined f xs) (joined f ys))

  pub joined_more : (xs : List X) (i : ℕ) (d : X) → i < length xs → joined f (take (i + 1) xs) ≡ joined f (take i xs) ++ f (get_or xs i d)
  joined_more xs i d h = ap (joined f) (take_more xs i d h) ∙ joined_append (take i xs) (get_or xs i d ∷ []) ∙ ap (λ z. joined f (take i xs) ++ z) (append-nil (f (get_or xs i d)))
