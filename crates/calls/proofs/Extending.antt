-- A job with more variables and more rows keeps the invariant. Assumes nothing.
use Rattle.std.proofs.Common.{◌≡◌, ℕ, Bool, List, [], ◌∷◌, ◌++◌, map, length, refl, ap, ◌∙◌, subst, arith, length-append}
use Rattle.std.specs.List.{ContainsAt, AllByRecursion}
use Rattle.std.proofs.lemmas.List.{append-nil, length-map, get_or-map}
use Rattle.std.proofs.ByRecursion.{All-append, All-map, All-weaker, all_has_itself}
use Rattle.order.specs.declared.range.Range.{Range}
use Rattle.ties.specs.Roots.{tied}
use Rattle.kinds.specs.declared.item.Item.{Item}
use Rattle.kinds.specs.Meaning.{Agree}
use Rattle.rows.specs.Rows.{Posted}
use Rattle.theory.specs.Rows.{Row}
use Rattle.theory.specs.Larger.{KnownRow, Stays, Larger, Keeps}
use Rattle.theory.proofs.Growing.{larger_keeps, larger_more}
use Rattle.theory.proofs.KindRows.{row_known, agree_more, apt_stays, row_stays}
use Rattle.theory.proofs.Stretches.{all_front, all_both}
use Rattle.calls.specs.Catalogues.{Catalogue, LawfulAll}
use Rattle.calls.specs.Invariant.{Invariant}
use Rattle.calls.specs.Jobs.{posted_row, job_of, Sits, Seated}
use Rattle.calls.specs.Settles.{rules}
use Rattle.calls.specs.View.{View, with_variable, with_row}

-- a list has what another has, under a map
has_mapped : {X Y : Type 0} (f : X → Y) (xs : List X) (x : X) → ContainsAt xs x → ContainsAt (map f xs) (f x)
has_mapped f xs x h = (h.0, omega (arith, length-map xs f, h.1), λ d. get_or-map f xs h.0 x d h.1 ∙ ap f (h.2 x))

-- a view with more variables and more rows
abbrev extended : View → List Range → List Bool → List Posted → View
extended v more marks added = record {
  ranges = v.ranges ++ more;
  declared = v.declared ++ marks;
  rows = v.rows ++ added;
  root = v.root;
  void = v.void;
}

module _ (k : Catalogue) (law : LawfulAll k) where
  module _ (rs more : List Range) where
    agree : (p : Posted) → Sits k.meaning rs p → Agree p.items rs (rs ++ more)
    agree p s = agree_more p.items rs more s.there

    -- a row that sits does so among more variables
    sits_more : (p : Posted) → Sits k.meaning rs p → Sits k.meaning (rs ++ more) p
    sits_more p s = record {
      apt = apt_stays (k.meaning p.code) (law p.code) p.items rs (rs ++ more) s.apt (agree p s);
      there = λ x h. omega (arith, length-append rs more, s.there x h);
    }

    -- and it stays in a job with more rows
    larger_job : (ps added : List Posted) → Seated k.meaning rs ps → Larger (job_of k.meaning rs ps) (job_of k.meaning (rs ++ more) (ps ++ added))
    larger_job ps added seated =
        let ws' : List Row = map (posted_row k.meaning (rs ++ more)) (ps ++ added) in
        let stays : AllByRecursion (λ p. Stays ws' (posted_row k.meaning rs p)) ps =
        all_both (Sits k.meaning rs) (ContainsAt (ps ++ added)) (λ p. Stays ws' (posted_row k.meaning rs p))
        (λ p s h. row_stays (k.meaning p.code) (law p.code) p.items rs (rs ++ more) s.apt (agree p s) ws' (has_mapped (posted_row k.meaning (rs ++ more)) (ps ++ added) p h))
        ps seated (all_front (ContainsAt (ps ++ added)) ps added (all_has_itself (ps ++ added))) in
        let known : AllByRecursion (λ p. KnownRow (length rs) (posted_row k.meaning rs p)) ps =
        All-weaker (Sits k.meaning rs) (λ p. KnownRow (length rs) (posted_row k.meaning rs p))
        (λ p s. row_known p.items (length rs) s.there (k.meaning p.code) (law p.code) rs s.apt) ps seated in
        larger_more rs more (map (posted_row k.meaning rs) ps) ws'
        (All-map (Stays ws') (posted_row k.meaning rs) ps stays)
        (All-map (KnownRow (length rs)) (posted_row k.meaning rs) ps known)

  extension_keeps : (v : View) (more : List Range) (marks : List Bool) (added : List Posted) → length marks ≡ length more → AllByRecursion (Sits k.meaning (v.ranges ++ more)) added → Invariant k v → Invariant k (extended v more marks added)
  extension_keeps v more marks added even sit inv =
      let keeps : Keeps (rules k v) (rules k (extended v more marks added)) = larger_keeps (rules k v) (rules k (extended v more marks added)) (larger_job v.ranges more v.rows added inv.seated) in
      record {
        beside = omega (arith, length-append v.declared marks, length-append v.ranges more, inv.beside);
        seated = All-append (Sits k.meaning (v.ranges ++ more)) v.rows added (All-weaker (Sits k.meaning v.ranges) (Sits k.meaning (v.ranges ++ more)) (sits_more v.ranges more) v.rows inv.seated) sit;
        rooted = inv.rooted;
        sound = λ e. keeps.sound (tied v.root) (inv.sound e);
        refused = λ e. keeps.refused (inv.refused e);
      }

  -- one variable more
  pub variable_keeps : (v : View) (d : Bool) (r : Range) → Invariant k v → Invariant k (with_variable v d r)
  variable_keeps v d r inv =
      let one : extended v (r ∷ []) (d ∷ []) [] ≡ with_variable v d r = λ i. record {
        ranges = v.ranges ++ r ∷ [];
        declared = v.declared ++ d ∷ [];
        rows = append-nil v.rows i;
        root = v.root;
        void = v.void;
      } in
      subst (Invariant k) one (extension_keeps v (r ∷ []) (d ∷ []) [] refl tt inv)

  -- one row more
  pub row_keeps : (v : View) (code : ℕ) (items : List Item) → Sits k.meaning v.ranges (record { code = code; items = items }) → Invariant k v → Invariant k (with_row v code items)
  row_keeps v code items sits inv =
      let row : Posted = record { code = code; items = items } in
      let one : extended v [] [] (row ∷ []) ≡ with_row v code items = λ i. record {
        ranges = append-nil v.ranges i;
        declared = append-nil v.declared i;
        rows = v.rows ++ row ∷ [];
        root = v.root;
        void = v.void;
      } in
      subst (Invariant k) one (extension_keeps v [] [] (row ∷ []) refl (sits_more v.ranges [] row sits, tt) inv)
