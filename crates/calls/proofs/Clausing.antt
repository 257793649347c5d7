-- The clauses to be written are short and few. Assumes nothing.
use Rattle.std.proofs.Common.{◌≡◌, ℕ, zero, suc, ◌+◌, ◌*◌, ◌≤◌, Bool, true, false, cond, List, [], ◌∷◌, ◌++◌, length, sym, ap, mul-suc, arith, lit≤, length-append}
use Rattle.std.specs.List.{AllByRecursion}
use Rattle.std.proofs.ByRecursion.{All-append, All-weaker}
use Rattle.order.specs.declared.bound.Bound.{Bound}
use Rattle.order.specs.declared.literal.Literal.{Literal}
use Rattle.order.specs.declared.range.Range.{Range}
use Rattle.order.specs.declared.variables.Variables.{Variables}
use Rattle.order.specs.Between.{between, joined}
use Rattle.order.specs.Orders.{step, order, orders}
use Rattle.order.specs.Ranges.{low, high, width, first, total_bits}
use Rattle.order.specs.Variables.{ranges_of}
use Rattle.order.proofs.Stretches.{between_more}
use Rattle.kinds.specs.Meaning.{Meaning, Lawful}
use Rattle.kinds.proofs.Ranging.{all_between_from, length_between}
use Rattle.rows.specs.Rows.{Posted}
use Rattle.theory.specs.Jobs.{tied_bounds}
use Rattle.theory.proofs.Stretches.{all_joined}
use Rattle.calls.specs.Jobs.{Sits, Seated}
use Rattle.calls.specs.Writes.{row_clauses, clauses_of}

-- a clause of at most 64 bounds
abbrev pub Short : List Bound → Type 0
Short c = length c ≤ 64

-- an order clause has two bounds
pub orders_short : (rs : List Range) → AllByRecursion Short (orders rs)
orders_short rs =
    all_between_from (order rs) Short 0 (length rs)
    (λ x _ _. all_between_from (step x) Short (low rs x + 1) (high rs x) (λ t _ _. (lit≤ tt, tt)))

-- there are no more order clauses than bits
order_few : (rs : List Range) (x : ℕ) → length (order rs x) ≤ width rs x
order_few rs x = omega (arith, length_between (step x) 1 (λ t. lit≤ tt) (low rs x + 1) (high rs x) (width rs x) (omega arith))

pub orders_few : (rs : List Range) (n : ℕ) → length (between (order rs) 0 n) ≤ first rs n
orders_few rs zero = lit≤ tt
orders_few rs (suc n) =
    let more : between (order rs) 0 (n + 1) ≡ between (order rs) 0 n ++ order rs n = between_more (order rs) 0 n (omega arith) in
    let next : length (between (order rs) 0 (suc n)) ≡ length (between (order rs) 0 (n + 1)) = ap (λ k. length (between (order rs) 0 k)) (omega arith) in
    omega (arith, next, ap length more, length-append (between (order rs) 0 n) (order rs n), orders_few rs n, order_few rs n)

module _ (m : ℕ → Meaning) (law : (code : ℕ) → Lawful (m code)) (rs : List Range) (f : ℕ → Literal) where
  -- a row that is spent has no clauses, and another has few and short ones
  row_within : (p : Posted) → Sits m rs p → AllByRecursion Short (row_clauses m rs f p) × (length (row_clauses m rs f p) ≤ 131072)
  row_within p s = either ((m p.code).spends p.items rs (tied_bounds rs f))
    where
      l : Lawful (m p.code)
      l = law p.code

      cs : List (List Bound)
      cs = (m p.code).clauses p.items rs

      either : (b : Bool) → AllByRecursion Short (cond b [] cs) × (length (cond b [] cs) ≤ 131072)
      either true = (tt, lit≤ tt)
      either false = (
        All-weaker (λ c. length c ≤ (m p.code).longest) Short (λ c h. omega (arith, l.short)) cs (l.short_clauses p.items rs s.apt),
        l.few_clauses p.items rs s.apt,
      )

  rows_few : (ps : List Posted) → Seated m rs ps → length (joined (row_clauses m rs f) ps) ≤ 131072 * length ps
  rows_few [] seated = lit≤ tt
  rows_few (p ∷ ps) seated =
      omega (arith, length-append (row_clauses m rs f p) (joined (row_clauses m rs f) ps), (row_within p seated.0).1, rows_few ps seated.1, mul-suc 131072 (length ps))

  pub clauses_short : (ps : List Posted) → Seated m rs ps → AllByRecursion Short (clauses_of m rs f ps)
  clauses_short ps seated =
      All-append Short (orders rs) (joined (row_clauses m rs f) ps) (orders_short rs)
      (all_joined Short (row_clauses m rs f) ps (All-weaker (Sits m rs) (λ p. AllByRecursion Short (row_clauses m rs f p)) (λ p s. (row_within p s).0) ps seated))

  pub clauses_few : (ps : List Posted) → Seated m rs ps → length (clauses_of m rs f ps) ≤ total_bits rs + 131072 * length ps
  clauses_few ps seated = omega (arith, length-append (orders rs) (joined (row_clauses m rs f) ps), orders_few rs (length rs), rows_few ps seated)

-- variables have few bits
pub variables_small : (v : Variables) → total_bits (ranges_of v) ≤ 4096
variables_small v =
    let long : length (ranges_of v) ≡ v.ranges.len = sym v.ranges.ok.0 in
    omega (arith, v.counted, v.small, ap (first (ranges_of v)) long)
