-- Totals: sums of variables, by hidden variables, and a link to the target. Assumes nothing.
use Rattle.std.specs.Prelude.{ℕ, ◌+◌, ◌-◌, Bool, false, cond, ◌&&◌, List, [], ◌∷◌, length, Result, ◌==◌, nat_le}
use Rattle.order.specs.declared.range.Range.{Range}
use Rattle.order.specs.Ranges.{low, high, width, range, total_bits}
use Rattle.kinds.specs.declared.item.Item.{Item}
use Rattle.kinds.specs.declared.item.Item.TheVariants.{Variable}
use Rattle.kinds.specs.Items.{variable_of, is_variable, variables_only}
use Rattle.rows.specs.Rows.{items_in}
use Rattle.calls.specs.declared.refusal.Refusal.{Refusal}
use Rattle.calls.specs.declared.refusal.Refusal.TheVariants.{UnknownRelation, BadItems, NotDeclared, SumTooLarge, TooManyVariables, TooManyBits, TooManyRows, TooManyItems}
use Rattle.calls.specs.Questions.{Question, ask, first_no, verdict}
use Rattle.calls.specs.View.{View, with_variable, with_row}
use Rattle.calls.specs.Posts.{all_declared}

-- the range of the sum of two variables: the sums of their lows and of their highs
abbrev pub sum_range : List Range → ℕ → ℕ → Range
sum_range rs s x = range (low rs s + low rs x) (high rs s + high rs x)

-- s and x are added into a new hidden variable by a row of code 1
abbrev pub with_sum : View → ℕ → ℕ → View
with_sum v s x = with_row (with_variable v false (sum_range v.ranges s x)) 1 (Variable s ∷ Variable x ∷ Variable (length v.ranges) ∷ [])

-- from left to right each item is added to the running sum s
abbrev pub summed : View → ℕ → List Item → View
summed v s [] = v
summed v s (i ∷ items) = summed (with_sum v s (variable_of i)) (length v.ranges) items

-- the last running sum
abbrev pub last_sum : View → ℕ → List Item → ℕ
last_sum v s [] = s
last_sum v s (i ∷ items) = last_sum (with_sum v s (variable_of i)) (length v.ranges) items

-- the link: 1 equal, by code 3; 2 at most and 3 at least, by code 2
abbrev pub link_code : ℕ → ℕ
link_code relation = cond (relation == 1) 3 2

abbrev pub link_items : ℕ → ℕ → ℕ → List Item
link_items relation t target = cond (relation == 3) (Variable target ∷ Variable t ∷ []) (Variable t ∷ Variable target ∷ [])

abbrev pub with_link : View → ℕ → ℕ → ℕ → View
with_link v relation t target = with_row v (link_code relation) (link_items relation t target)

-- the job with all that a total adds
abbrev pub totalled : View → ℕ → ℕ → List Item → View
totalled v relation target [] = v
totalled v relation target (i ∷ items) = with_link (summed v (variable_of i) items) relation (last_sum v (variable_of i) items) target

-- 1 to 64 items, each a variable, and so is the target
abbrev pub total_formed : Item → List Item → Bool
total_formed target items = is_variable target && (nat_le 1 (length items) && (nat_le (length items) 64 && variables_only items))

-- the sum of the highs
abbrev pub highs : List Range → List Item → ℕ
highs rs [] = 0
highs rs (i ∷ items) = high rs (variable_of i) + highs rs items

-- the bits of the running sums: each has as many as the running sum before it and the next item together
abbrev pub running_bits : List Range → ℕ → List Item → ℕ
running_bits rs n [] = 0
running_bits rs n (i ∷ items) = (n + width rs (variable_of i)) + running_bits rs (n + width rs (variable_of i)) items

abbrev pub sum_bits : List Range → List Item → ℕ
sum_bits rs [] = 0
sum_bits rs (i ∷ items) = running_bits rs (width rs (variable_of i)) items

-- Relation 1 to 3? Number and form of items right? All variables declared? Highs sum to at most 255?
-- With all that it adds at most 512 variables? 4,096 bits? 1,024 rows? 4,096 items in all?
abbrev pub total_questions : View → View → ℕ → Item → List Item → List Question
total_questions v w relation target items =
    ask (nat_le 1 relation && nat_le relation 3) UnknownRelation
    ∷ ask (total_formed target items) BadItems
    ∷ ask (all_declared v (target ∷ items)) NotDeclared
    ∷ ask (nat_le (highs v.ranges items) 255) SumTooLarge
    ∷ ask (nat_le (length w.ranges) 512) TooManyVariables
    ∷ ask (nat_le (total_bits w.ranges) 4096) TooManyBits
    ∷ ask (nat_le (length w.rows) 1024) TooManyRows
    ∷ ask (nat_le (items_in w.rows) 4096) TooManyItems
    ∷ []

-- a yes answers the link's place, the last
abbrev pub total_verdict : View → View → ℕ → Item → List Item → Result (ℕ × View) Refusal
total_verdict v w relation target items = verdict (first_no (total_questions v w relation target items)) (length w.rows - 1) w

abbrev pub totalling : View → ℕ → Item → List Item → Result (ℕ × View) Refusal
totalling v relation target items = total_verdict v (totalled v relation (variable_of target) items) relation target items
