-- Posting a row. Assumes nothing.
use Rattle.std.specs.Prelude.{ℕ, Bool, true, ◌&&◌, List, [], ◌∷◌, length, Result, nat_le}
use Rattle.kinds.specs.declared.item.Item.{Item}
use Rattle.kinds.specs.declared.item.Item.TheVariants.{Variable, Bounded}
use Rattle.kinds.specs.Items.{variable_of}
use Rattle.rows.specs.Rows.{few_rows, few_items}
use Rattle.calls.specs.declared.refusal.Refusal.{Refusal}
use Rattle.calls.specs.declared.refusal.Refusal.TheVariants.{UnknownCode, BadItems, NotDeclared, BadThreshold, RangesUnfit, TooManyRows, TooManyItems}
use Rattle.calls.specs.Catalogues.{Catalogue}
use Rattle.calls.specs.Questions.{Question, ask, first_no, verdict}
use Rattle.calls.specs.View.{View, with_row, is_declared}

-- whether each item's variable is declared, and none is hidden
abbrev pub all_declared : View → List Item → Bool
all_declared v [] = true
all_declared v (i ∷ items) = is_declared v (variable_of i) && all_declared v items

-- whether an item's threshold, where it has one, is from 0 to 256
abbrev pub threshold_right : Item → Bool
threshold_right (Variable x) = true
threshold_right (Bounded b) = nat_le b.at 256

abbrev pub thresholds_right : List Item → Bool
thresholds_right [] = true
thresholds_right (i ∷ items) = threshold_right i && thresholds_right items

-- Code known? Number and form of items right? All variables declared? Thresholds 0 to 256? Ranges fit the kind? With it at most 1,024 rows? 4,096 items in all?
abbrev pub post_questions : Catalogue → View → ℕ → List Item → List Question
post_questions k v code items =
    ask (k.known code) UnknownCode
    ∷ ask ((k.meaning code).formed items) BadItems
    ∷ ask (all_declared v items) NotDeclared
    ∷ ask (thresholds_right items) BadThreshold
    ∷ ask ((k.meaning code).fits items v.ranges) RangesUnfit
    ∷ ask (few_rows v.rows 1) TooManyRows
    ∷ ask (few_items v.rows (length items)) TooManyItems
    ∷ []

-- a yes answers the row's place
abbrev pub posting : Catalogue → View → ℕ → List Item → Result (ℕ × View) Refusal
posting k v code items = verdict (first_no (post_questions k v code items)) (length v.rows) (with_row v code items)
