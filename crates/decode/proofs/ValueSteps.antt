-- The value of each variable, as a list. Assumes nothing.
use Rattle.std.proofs.Common.{◌≡◌, ℕ, suc, ◌+◌, ◌-◌, ◌≤◌, Bool, List, map, length, get_or, sym, ap, ◌∙◌, inl, inr, arith}
use Rattle.std.specs.List.{range_with_len}
use Rattle.std.proofs.lemmas.Bool.{cases_lt}
use Rattle.std.proofs.lemmas.List.{length-map, get_or_past}
use Rattle.std.proofs.lemmas.List.FromFn.{length-range_with_len, get_or-map-range_with_len}
use Rattle.order.specs.declared.range.Range.{Range}
use Rattle.order.specs.Ranges.{no_range, first}
use Rattle.ties.specs.Roots.{count_below}
use Rattle.kinds.specs.Meaning.{valued}
use Rattle.theory.specs.Values.{value}

-- a variable that is not there has the value 0
value_past : (rs : List Range) (β : ℕ → Bool) (x : ℕ) → length rs ≤ x → value rs β x ≡ 0
value_past rs β x h = ap (λ (r : Range). r.low + count_below (λ k. β (first rs x + suc k)) (r.high - r.low)) (get_or_past rs x no_range h)

pub values_listed : (rs : List Range) (β : ℕ → Bool) (vs : List ℕ) → vs ≡ map (value rs β) (range_with_len 0 (length rs)) → (length vs ≡ length rs) × ((x : ℕ) → valued vs x ≡ value rs β x)
values_listed rs β vs e =
    let long : length vs ≡ length rs = ap length e ∙ length-map (range_with_len 0 (length rs)) (value rs β) ∙ length-range_with_len 0 (length rs) in (
      long,
      λ x. elim (cases_lt x (length rs)) [
        | inl l ↦ ap (λ us. get_or us x 0) e ∙ get_or-map-range_with_len (value rs β) 0 (length rs) x x 0 l (omega arith)
        | inr l ↦ get_or_past vs x 0 (omega arith) ∙ sym (value_past rs β x l)
      ],
    )
