-- The output, by the numbers of the free bits, is what the clauses of the file are. Assumes nothing.
use Rattle.std.proofs.Common.{◌≡◌, ℕ, cond, List, [], ◌∷◌, ◌++◌, map, refl, ap, ◌∙◌, inl, inr}
use Rattle.std.proofs.lemmas.List.{map-append}
use Rattle.std.proofs.lemmas.Bool.{cases_Bool}
use Rattle.order.specs.declared.bound.Bound.{Bound}
use Rattle.order.specs.declared.literal.Literal.{Literal}
use Rattle.order.specs.declared.range.Range.{Range}
use Rattle.order.specs.Between.{joined}
use Rattle.order.specs.Orders.{orders}
use Rattle.cnf.specs.Numbered.{lit, written_clause, written_all}
use Rattle.theory.specs.Rows.{Row}
use Rattle.theory.specs.Jobs.{Job, tied_bounds, reduced, reduced_row, output}

module _ (rs : List Range) (f : ℕ → Literal) where
  pub clauses_filed : (cs : List (List Bound)) → map (map (lit f)) (joined (reduced rs f) cs) ≡ written_all rs f cs
  clauses_filed [] = refl
  clauses_filed (c ∷ cs) = map-append (map (lit f)) (reduced rs f c) (joined (reduced rs f) cs) ∙ ap (λ ds. written_clause rs f c ++ ds) (clauses_filed cs)

  pub row_filed : (w : Row) → map (map (lit f)) (reduced_row rs f w) ≡ cond (w.spent (tied_bounds rs f)) [] (written_all rs f w.clauses)
  row_filed w = elim (cases_Bool (w.spent (tied_bounds rs f))) [
    | inl e ↦ rw e
    | inr e ↦ rw e (clauses_filed w.clauses)
  ]

  pub rows_filed : (ws : List Row) → map (map (lit f)) (joined (reduced_row rs f) ws) ≡ joined (λ w. cond (w.spent (tied_bounds rs f)) [] (written_all rs f w.clauses)) ws
  rows_filed [] = refl
  rows_filed (w ∷ ws) =
      map-append (map (lit f)) (reduced_row rs f w) (joined (reduced_row rs f) ws)
      ∙ ap (λ ds. ds ++ map (map (lit f)) (joined (reduced_row rs f) ws)) (row_filed w)
      ∙ ap (λ ds. cond (w.spent (tied_bounds rs f)) [] (written_all rs f w.clauses) ++ ds) (rows_filed ws)

-- the file has the order clauses, then those of the rows that are not spent
pub output_filed : (j : Job) (f : ℕ → Literal) → map (map (lit f)) (output j f) ≡ written_all j.ranges f (orders j.ranges) ++ joined (λ w. cond (w.spent (tied_bounds j.ranges f)) [] (written_all j.ranges f w.clauses)) j.rows
unfolding output
output_filed j f =
    let rs : List Range = j.ranges in
    map-append (map (lit f)) (joined (reduced rs f) (orders rs)) (joined (reduced_row rs f) j.rows)
    ∙ ap (λ ds. ds ++ map (map (lit f)) (joined (reduced_row rs f) j.rows)) (clauses_filed rs f (orders rs))
    ∙ ap (λ ds. written_all rs f (orders rs) ++ ds) (rows_filed rs f j.rows)
