-- How many variables, bits, rows and items a total adds. Assumes nothing.
use Rattle.std.proofs.Common.{◌≡◌, ℕ, ◌+◌, ◌-◌, ◌*◌, ◌<◌, ◌≤◌, Bool, true, false, cond, eqb, List, [], ◌∷◌, ◌++◌, length, get_or, refl, ap, ◌∙◌, arith}
use Rattle.std.specs.List.{AllByRecursion}
use Rattle.std.proofs.lemmas.List.{length_push, get_or_append_left, get_or_push}
use Rattle.std.proofs.ByRecursion.{All-weaker}
use Rattle.order.specs.declared.range.Range.{Range}
use Rattle.order.specs.Ranges.{no_range, high, width, first, total_bits}
use Rattle.order.proofs.Ranging.{first_push_all}
use Rattle.kinds.specs.declared.item.Item.{Item}
use Rattle.kinds.specs.declared.item.Item.TheVariants.{Variable}
use Rattle.kinds.specs.Items.{variable_of}
use Rattle.rows.specs.Rows.{Posted, items_in}
use Rattle.calls.specs.Posts.{all_declared}
use Rattle.calls.specs.Totals.{sum_range, with_sum, summed, last_sum, link_code, link_items, totalled, highs, running_bits, sum_bits}
use Rattle.calls.specs.View.{View}
use Rattle.calls.proofs.Sitting.{Below, declared_below}

-- one more variable or row
pub bits_push : (rs : List Range) (r : Range) → total_bits (rs ++ r ∷ []) ≡ total_bits rs + (r.high - r.low)
bits_push rs r = ap (first (rs ++ r ∷ [])) (length_push rs r) ∙ first_push_all rs r

pub items_push : (ps : List Posted) (p : Posted) → items_in (ps ++ p ∷ []) ≡ items_in ps + length p.items
items_push [] p = omega arith
items_push (q ∷ ps) p = omega (arith, items_push ps p)

-- the width of a sum
pub sum_width : (rs : List Range) (s x : ℕ) → high rs s + high rs x ≤ 255 → (sum_range rs s x).high - (sum_range rs s x).low ≡ width rs s + width rs x
sum_width rs s x h = omega (arith, (get_or rs s no_range).ordered, (get_or rs x no_range).ordered)

-- variables that are there keep their ranges as one is added
module _ (rs : List Range) (r : Range) where
  earlier : (x : ℕ) → x < length rs → get_or (rs ++ r ∷ []) x no_range ≡ get_or rs x no_range
  earlier x h = get_or_append_left rs (r ∷ []) no_range x h

  newest : get_or (rs ++ r ∷ []) (length rs) no_range ≡ r
  newest = get_or_push rs r no_range (length rs) refl

  highs_push : (items : List Item) → AllByRecursion (Below (length rs)) items → highs (rs ++ r ∷ []) items ≡ highs rs items
  highs_push [] all = refl
  highs_push (i ∷ items) all =
      omega (arith, ap (λ (s : Range). s.high) (earlier (variable_of i) all.0), highs_push items all.1)

  running_push : (n : ℕ) (items : List Item) → AllByRecursion (Below (length rs)) items → running_bits (rs ++ r ∷ []) n items ≡ running_bits rs n items
  running_push n [] all = refl
  running_push n (i ∷ items) all =
      let m : ℕ = n + width rs (variable_of i) in
      ap (λ (s : Range). (n + (s.high - s.low)) + running_bits (rs ++ r ∷ []) (n + (s.high - s.low)) items) (earlier (variable_of i) all.0)
      ∙ ap (λ k. m + k) (running_push m items all.1)

-- the items are there, and their sum is small
pub record Addable (v : View) (items : List Item) : Type 0 where
  pub below : AllByRecursion (Below (length v.ranges)) items
  pub small : highs v.ranges items ≤ 255

pub addable : (v : View) → length v.declared ≡ length v.ranges → (items : List Item) → all_declared v items ≡ true → highs v.ranges items ≤ 255 → Addable v items
addable v beside items declared small = record { below = declared_below v beside items declared; small = small }

-- and so are they with the first two added
pub addable_on : (v : View) (i j : Item) (items : List Item) → Addable v (i ∷ j ∷ items) → Addable (with_sum v (variable_of i) (variable_of j)) (Variable (length v.ranges) ∷ items)
addable_on v i j items h =
    let rs : List Range = v.ranges in
    let n : ℕ = length rs in
    let r : Range = sum_range rs (variable_of i) (variable_of j) in
    let long : length (rs ++ r ∷ []) ≡ n + 1 = length_push rs r in
    record {
      below = (omega arith, All-weaker (Below n) (Below (length (rs ++ r ∷ []))) (λ _ b. omega arith) items h.below.1.1);
      small = omega (arith, h.small, highs_push rs r items h.below.1.1, ap (λ (s : Range). s.high) (newest rs r));
    }

-- what sums add
summed_ranges : (v : View) (s : ℕ) (items : List Item) → length (summed v s items).ranges ≡ length v.ranges + length items
summed_ranges v s [] = omega arith
summed_ranges v s (i ∷ items) =
    omega (arith, summed_ranges (with_sum v s (variable_of i)) (length v.ranges) items, length_push v.ranges (sum_range v.ranges s (variable_of i)))

summed_rows : (v : View) (s : ℕ) (items : List Item) → length (summed v s items).rows ≡ length v.rows + length items
summed_rows v s [] = omega arith
summed_rows v s (i ∷ items) =
    omega (arith, summed_rows (with_sum v s (variable_of i)) (length v.ranges) items, length_push v.rows (record { code = 1; items = Variable s ∷ Variable (variable_of i) ∷ Variable (length v.ranges) ∷ [] }))

summed_items : (v : View) (s : ℕ) (items : List Item) → items_in (summed v s items).rows ≡ items_in v.rows + 3 * length items
summed_items v s [] = omega arith
summed_items v s (i ∷ items) =
    omega (arith, summed_items (with_sum v s (variable_of i)) (length v.ranges) items, items_push v.rows (record { code = 1; items = Variable s ∷ Variable (variable_of i) ∷ Variable (length v.ranges) ∷ [] }))

summed_bits : (v : View) (s : ℕ) (items : List Item) → Addable v (Variable s ∷ items) → total_bits (summed v s items).ranges ≡ total_bits v.ranges + running_bits v.ranges (width v.ranges s) items
summed_bits v s [] h = omega arith
summed_bits v s (i ∷ items) h =
    let rs : List Range = v.ranges in
    let r : Range = sum_range rs s (variable_of i) in
    let wide : r.high - r.low ≡ width rs s + width rs (variable_of i) = sum_width rs s (variable_of i) (omega (arith, h.small)) in
    let here : width (rs ++ r ∷ []) (length rs) ≡ width rs s + width rs (variable_of i) = ap (λ (q : Range). q.high - q.low) (newest rs r) ∙ wide in
    omega (
      arith,
      summed_bits (with_sum v s (variable_of i)) (length rs) items (addable_on v (Variable s) i items h),
      bits_push rs r,
      running_push rs r (width (rs ++ r ∷ []) (length rs)) items h.below.1.1,
      ap (λ n. running_bits rs n items) here,
    )

-- a job with n sums of m bits in all, and a link
pub record Counts (v : View) (n m : ℕ) (w : View) : Type 0 where
  pub ranges : length w.ranges ≡ length v.ranges + n
  pub bits : total_bits w.ranges ≡ total_bits v.ranges + m
  pub rows : length w.rows ≡ length v.rows + n + 1
  pub items : items_in w.rows ≡ items_in v.rows + 3 * n + 2

link_length : (b : Bool) (t target : ℕ) → length (cond b (Variable target ∷ Variable t ∷ []) (Variable t ∷ Variable target ∷ [])) ≡ 2
link_length true t target = refl
link_length false t target = refl

pub totalled_counts : (v : View) (relation target : ℕ) (items : List Item) → 1 ≤ length items → Addable v items → Counts v (length items - 1) (sum_bits v.ranges items) (totalled v relation target items)
totalled_counts v relation target [] some h = absurd (omega arith)
totalled_counts v relation target (i ∷ items) some h =
    let s : ℕ = variable_of i in
    let w : View = summed v s items in
    let row : Posted = record { code = link_code relation; items = link_items relation (last_sum v s items) target } in
    record {
      ranges = omega (arith, summed_ranges v s items);
      bits = summed_bits v s items (record { below = h.below; small = h.small });
      rows = omega (arith, summed_rows v s items, length_push w.rows row);
      items = omega (arith, summed_items v s items, items_push w.rows row, link_length (eqb relation 3) (last_sum v s items) target);
    }

-- a job that holds no more than another
pub record Within (v w : View) : Type 0 where
  pub ranges : length v.ranges ≤ length w.ranges
  pub bits : total_bits v.ranges ≤ total_bits w.ranges
  pub rows : length v.rows ≤ length w.rows
  pub items : items_in v.rows ≤ items_in w.rows

counts_within : (v : View) (n m : ℕ) (w : View) → Counts v n m w → Within v w
counts_within v n m w h = record {
  ranges = omega (arith, h.ranges);
  bits = omega (arith, h.bits);
  rows = omega (arith, h.rows);
  items = omega (arith, h.items);
}

-- with the first two items added it holds no more than the total
pub next_within : (v : View) (relation target : ℕ) (i j : Item) (items : List Item) → Addable v (i ∷ j ∷ items) → Within (with_sum v (variable_of i) (variable_of j)) (totalled v relation target (i ∷ j ∷ items))
next_within v relation target i j items h =
    counts_within _ _ _ _ (totalled_counts (with_sum v (variable_of i) (variable_of j)) relation target (Variable (length v.ranges) ∷ items) (omega arith) (addable_on v i j items h))
