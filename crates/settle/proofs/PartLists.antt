-- The clauses and the pairings of a part, as they are listed. Assumes nothing.
use Rattle.std.proofs.Common.{◌≡◌, ℕ, ◌-◌, ◌<◌, ◌≤◌, eqb, ltb, List, [], ◌∷◌, ◌++◌, map, length, Ok, Err, Result, OnOk, refl, sym, ap, ◌∙◌}
use Rattle.std.proofs.lemmas.List.{append_assoc, append-nil}
use Rattle.std.proofs.lemmas.Bool.{cond-true, cond-false, lt-ltb, le-ltb}
use Rattle.order.specs.declared.range.Range.{Range}
use Rattle.order.specs.Orders.{order}
use Rattle.order.specs.Visits.{After}
use Rattle.kinds.specs.declared.item.Item.{Item}
use Rattle.kinds.specs.Items.{names}
use Rattle.kinds.specs.Meaning.{Meaning}
use Rattle.flat.specs.Spans.{Headed}
use Rattle.flat.specs.Views.{lists_of}
use Rattle.rows.specs.Rows.{Posted, posted}
use Rattle.settle.specs.declared.listing.Listing.{Listing}
use Rattle.settle.specs.Listed.{Takes}
use Rattle.settle.specs.Parts.{row_part, part_clauses, part_pairings, part_names}

-- each item goes into a listing as a list with a head, and memory was never lacking
module _ {H T C : Type 0} (item : C → Headed H T) where
  abbrev step : Listing H T → C → Listing H T → Type 0
  step s c t = Takes s (item c).head (item c).items t

  steps : (cs : List C) (s t : Listing H T) → After step s cs t → t.taken ≡ Ok tt → (s.taken ≡ Ok tt) × (lists_of t.lists ≡ lists_of s.lists ++ map item cs)
  steps [] s t h e = (ap (λ (u : Listing H T). u.taken) h ∙ e, sym (ap (λ (u : Listing H T). lists_of u.lists) h) ∙ sym (append-nil (lists_of s.lists)))
  steps (c ∷ cs) s t h e =
      let rest = steps cs h.0 t h.1.1 e in
      let here = h.1.0 rest.0 in
      (here.0, rest.1 ∙ ap (λ ls. ls ++ map item cs) here.1 ∙ append_assoc (lists_of s.lists) (item c ∷ []) (map item cs))

  -- from an empty listing, to one that is left as u
  pub lists_all : (cs ds : List C) (s t u : Listing H T) → After step s cs t → lists_of s.lists ≡ [] → u ≡ t → cs ≡ ds → u.taken ≡ Ok tt → lists_of u.lists ≡ map item ds
  lists_all cs ds s t u h none same are e =
      let whole = (steps cs s t h (sym (ap (λ (v : Listing H T). v.taken) same) ∙ e)).1 in
      ap (λ (v : Listing H T). lists_of v.lists) same ∙ whole ∙ ap (λ ls. ls ++ map item cs) none ∙ ap (map item) are

-- an answer that only its `Ok` speaks of
pub on_ok : {E : Type 0} (r : Result (Unit {0}) E) {P : Type 0} → (r ≡ Ok tt → P) → OnOk r P
on_ok (Ok u) f = f refl
on_ok (Err e) f = tt

module _ (rs : List Range) (ps : List Posted) (k x : ℕ) where
  pub variable_names_are : k < length rs → part_names rs ps k x ≡ eqb k x
  variable_names_are lt = cond-true (ltb k (length rs)) _ _ (lt-ltb k (length rs) lt)

  pub row_names_are : length rs ≤ k → part_names rs ps k x ≡ names (posted ps (k - length rs)).items x
  row_names_are le = cond-false (ltb k (length rs)) _ _ (le-ltb k (length rs) le)

module _ (m : ℕ → Meaning) (rs : List Range) (ps : List Posted) (k : ℕ) where
  module _ (lt : k < length rs) where
    pub variable_clauses_are : part_clauses m rs ps k ≡ order rs k
    variable_clauses_are = cond-true (ltb k (length rs)) _ _ (lt-ltb k (length rs) lt)

    pub variable_pairings_are : part_pairings m rs ps k ≡ []
    variable_pairings_are = cond-true (ltb k (length rs)) _ _ (lt-ltb k (length rs) lt)

  module _ (le : length rs ≤ k) where
    pub row_clauses_are : part_clauses m rs ps k ≡ (row_part m rs ps k).clauses
    row_clauses_are = cond-false (ltb k (length rs)) _ _ (le-ltb k (length rs) le)

    pub row_pairings_are : part_pairings m rs ps k ≡ (row_part m rs ps k).pairings
    row_pairings_are = cond-false (ltb k (length rs)) _ _ (le-ltb k (length rs) le)

    -- the row's code, items and ranges as they are read
    module _ (code : ℕ) (items : List Item) (ranges : List Range) (code_is : code ≡ (posted ps (k - length rs)).code) (items-are : items ≡ (posted ps (k - length rs)).items) (ranges-are : ranges ≡ rs) where
      pub read_clauses_are : (m code).clauses items ranges ≡ part_clauses m rs ps k
      read_clauses_are = let are : (m code).clauses items ranges ≡ (row_part m rs ps k).clauses = cc in are ∙ sym row_clauses_are

      pub read_pairings_are : (m code).pairings items ranges ≡ part_pairings m rs ps k
      read_pairings_are = let are : (m code).pairings items ranges ≡ (row_part m rs ps k).pairings = cc in are ∙ sym row_pairings_are
