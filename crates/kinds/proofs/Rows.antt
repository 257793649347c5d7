-- A row's own variables and their ranges. Assumes nothing.
use Rattle.std.proofs.Common.{◌≡◌, ℕ, zero, suc, ◌<◌, ◌≤◌, true, eqb, List, [], ◌∷◌, length, get_or, refl, arith}
use Rattle.std.proofs.lemmas.Bool.{and_parts, or_left, or_right, eq-eqb, eqb-true}
use Rattle.order.specs.declared.range.Range.{Range}
use Rattle.order.specs.Ranges.{low, high, no_range}
use Rattle.kinds.specs.declared.item.Item.{Item}
use Rattle.kinds.specs.Items.{var, variable_of, names, plain, variables_only}
use Rattle.kinds.specs.Meaning.{Agree}

pub range_ordered : (rs : List Range) (x : ℕ) → low rs x ≤ high rs x
range_ordered rs x = (get_or rs x no_range).ordered

pub range_small : (rs : List Range) (x : ℕ) → high rs x ≤ 255
range_small rs x = (get_or rs x no_range).small

-- a row names the variables of its items
pub own_var : (items : List Item) (k : ℕ) → k < length items → names items (var items k) ≡ true
own_var [] k h = absurd (omega arith)
own_var (i ∷ items) zero h = or_left _ _ (eq-eqb (variable_of i) (variable_of i) refl)
own_var (i ∷ items) (suc k) h = or_right (eqb (variable_of i) (var items k)) (names items (var items k)) (own_var items k (omega arith))

-- ranges that agree give each of them the same ends
pub agree_low : (items : List Item) (rs rs' : List Range) (k : ℕ) → Agree items rs rs' → k < length items → low rs (var items k) ≡ low rs' (var items k)
agree_low items rs rs' k same h = (same (var items k) (own_var items k h)).0

pub agree_high : (items : List Item) (rs rs' : List Range) (k : ℕ) → Agree items rs rs' → k < length items → high rs (var items k) ≡ high rs' (var items k)
agree_high items rs rs' k same h = (same (var items k) (own_var items k h)).1

pub plain_length : (n : ℕ) (items : List Item) → plain n items ≡ true → length items ≡ n
plain_length n items h = eqb-true (length items) n (and_parts (eqb (length items) n) (variables_only items) h).0
