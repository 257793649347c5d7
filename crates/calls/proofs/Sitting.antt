-- Variables that are declared are there, so a row that was posted sits. Assumes nothing.
use Rattle.std.proofs.Common.{◌≡◌, ℕ, ◌<◌, Bool, true, false, List, [], ◌∷◌, length, get_or, arith}
use Rattle.std.specs.List.{AllByRecursion}
use Rattle.std.proofs.lemmas.List.{get_or_past}
use Rattle.std.proofs.lemmas.Bool.Decides.{nat_tests}
use Rattle.std.proofs.lemmas.Bool.{false≢true}
use Rattle.kinds.specs.declared.item.Item.{Item}
use Rattle.kinds.specs.Items.{variable_of, names}
use Rattle.calls.specs.Posts.{all_declared}
use Rattle.calls.specs.View.{View}

-- the variable of an item is one of the first n
abbrev pub Below : ℕ → Item → Type 0
Below n i = variable_of i < n

pub names_below : (n : ℕ) (items : List Item) → AllByRecursion (Below n) items → (x : ℕ) → names items x ≡ true → x < n
names_below n [] all x h = absurd (false≢true h)
names_below n (i ∷ items) all x h = grind (arith, nat_tests, names_below n items all.1 x)

marked_below : (marks : List Bool) (x : ℕ) → get_or marks x false ≡ true → x < length marks
marked_below marks x h = grind (arith, get_or_past marks x false)

pub declared_below : (v : View) → length v.declared ≡ length v.ranges → (items : List Item) → all_declared v items ≡ true → AllByRecursion (Below (length v.ranges)) items
declared_below v beside [] h = tt
declared_below v beside (i ∷ items) h = grind (arith, marked_below v.declared (variable_of i), declared_below v beside items)
