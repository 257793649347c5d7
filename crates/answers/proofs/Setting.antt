-- The truths of numbers, gathered from their marks. Assumes nothing.
use Rattle.std.proofs.Common.{◌≡◌, ℕ, ◌+◌, ◌-◌, ◌<◌, ◌≤◌, Bool, true, false, eqb, List, [], ◌∷◌, ◌++◌, length, get_or, take, drop, sym, ap, ◌∙◌, inl, inr, arith}
use Rattle.std.proofs.lemmas.Bool.{cases_order}
use Rattle.std.proofs.lemmas.List.{get_or_append_left, get_or_push, get_or-drop, length-drop, length_push, take_rest}
use Rattle.kinds.specs.Tests.{all_between}
use Rattle.kinds.proofs.Ranging.{all_more, all_stops}
use Rattle.sink.specs.declared.lit.Lit.{Lit}
use Rattle.answers.specs.declared.assignment.Mark.{Mark}
use Rattle.answers.specs.declared.assignment.Mark.TheVariants.{Absent, Set}
use Rattle.answers.specs.Assignments.{times, says, given_once}
use Rattle.answers.specs.Marks.{Marked}
use Rattle.answers.proofs.Marking.{shown, after_all, set_once, not_once}

-- the marks but the first, read one after the other
module _ (ls : List Lit) (ms items : List Mark) (n i : ℕ) (marked : Marked ls n ms) (same : items ≡ ms) (within : i < length (take (length items - 1) (drop 1 items))) where
  pub next_within : i + 1 < n
  next_within = omega (arith, ap length (take_rest items 1), length-drop 1 items, ap length same, marked.0)

  pub mark_read : shown (times ls (i + 1)) (says ls (i + 1)) ≡ get_or (take (length items - 1) (drop 1 items)) i Absent
  mark_read =
      sym (after_all (i + 1) ls)
      ∙ sym (marked.1 (i + 1) next_within)
      ∙ ap (λ xs. get_or xs (i + 1) Absent) (sym same)
      ∙ ap (λ k. get_or items k Absent) (omega arith)
      ∙ sym (get_or-drop 1 items i Absent)
      ∙ sym (ap (λ xs. get_or xs i Absent) (take_rest items 1))

-- a number is given once
abbrev pub once : List Lit → ℕ → Bool
once ls n = eqb (times ls n) 1

-- the truths of the numbers from 1 on and below n
pub record Truths (ls : List Lit) (n : ℕ) (ts : List Bool) : Type 0 where
  pub len : length ts ≡ n
  pub zero : get_or ts 0 true ≡ false
  pub given : all_between (once ls) 1 n ≡ true
  pub said : (k : ℕ) → 1 ≤ k → k < n → get_or ts k false ≡ says ls k

module _ (ls : List Lit) (n : ℕ) (ts : List Bool) (inv : Truths ls n ts) (some : 1 ≤ n) where
  -- one number more
  pub truths_more : (t : Bool) (us : List Bool) → shown (times ls n) (says ls n) ≡ Set t → us ≡ ts ++ t ∷ [] → Truths ls (n + 1) us
  truths_more t us e push =
      let set = set_once (times ls n) (says ls n) t e in
      record {
        len = ap length push ∙ length_push ts t ∙ ap (λ k. k + 1) inv.len;
        zero = ap (λ xs. get_or xs 0 true) push ∙ get_or_append_left ts _ true 0 (omega (arith, inv.len)) ∙ inv.zero;
        given = all_more (once ls) 1 n some inv.given set.0;
        said = λ k l u. ap (λ xs. get_or xs k false) push ∙ at k l u set.1;
      }
    where
      at : (k : ℕ) → 1 ≤ k → k < n + 1 → t ≡ says ls n → get_or (ts ++ t ∷ []) k false ≡ says ls k
      at k l u is =
          elim (cases_order k n) [
            | inl e ↦ get_or_push ts t false k (inv.len ∙ sym e) ∙ is ∙ ap (says ls) (sym e)
            | inr (inl below) ↦ get_or_append_left ts _ false k (omega (arith, inv.len)) ∙ inv.said k l below
            | inr (inr above) ↦ absurd (omega arith)
          ]

  -- a number that is not given once
  pub truths_stop : (v : ℕ) → n < v + 1 → ((t : Bool) → shown (times ls n) (says ls n) ≡ Set t → ⊥) → given_once ls v ≡ false
  truths_stop v lt none = all_stops (once ls) 1 (v + 1) n some lt (not_once (times ls n) (says ls n) none)
