-- The truth under a solution is a closed set of ties. Assumes nothing.
use Rattle.std.proofs.Common.{◌≡◌, ℕ, Bool, true, false, not, List, [], ◌∷◌, sym, refl, ap, ◌∙◌, arith}
use Rattle.std.specs.List.{AllByRecursion}
use Rattle.std.proofs.ByRecursion.{All-append, All-weaker}
use Rattle.std.proofs.lemmas.Bool.{false≢true}
use Rattle.order.specs.declared.literal.Literal.{Literal}
use Rattle.order.specs.declared.literal.Literal.TheVariants.{True}
use Rattle.order.specs.Between.{joined}
use Rattle.order.specs.Bounds.{literal, literals}
use Rattle.order.specs.Literals.{opposite, truth}
use Rattle.order.specs.Orders.{orders}
use Rattle.order.proofs.Signs.{truth_opposite}
use Rattle.ties.specs.Relations.{Relation, IsTies}
use Rattle.ties.specs.Roots.{tied}
use Rattle.kinds.specs.declared.item.Tie.{Tie}
use Rattle.kinds.specs.Items.{Pairing}
use Rattle.kinds.specs.Meaning.{Kept, Follows, Respects}
use Rattle.theory.specs.Truth.{some_true}
use Rattle.theory.specs.Values.{Shows, TrueBy, bits}
use Rattle.theory.specs.Rows.{LawfulRow}
use Rattle.theory.specs.Jobs.{Job, LawfulRows, tied_bounds, clauses, Solves}
use Rattle.theory.specs.Closed.{all_false, only, Heeds, Stands, Pairs, Closed, Sound, Refused, alike}
use Rattle.theory.proofs.Stretches.{all_joined, all_both}
use Rattle.theory.proofs.Bits.{bits_show, truth_literal}
use Rattle.theory.proofs.Reading.{shows_orders, by_met}

module _ (β : ℕ → Bool) where
  pub alike_equal : (l m : Literal) → alike β l m ≡ true → truth β l ≡ truth β m
  alike_equal l m h = grind arith

  pub equal_alike : (l m : Literal) → truth β l ≡ truth β m → alike β l m ≡ true
  equal_alike l m h = grind arith

  alike_ties : IsTies (alike β)
  alike_ties = record {
    reflexive = λ x. equal_alike x x refl;
    symmetric = λ x y h. equal_alike y x (sym (alike_equal x y h));
    transitive = λ x y z h k. equal_alike x z (alike_equal x y h ∙ alike_equal y z k);
    opposites = λ x y h. equal_alike (opposite x) (opposite y) (truth_opposite β x ∙ ap not (alike_equal x y h) ∙ sym (truth_opposite β y));
  }

  alike_apart : (l : Literal) → alike β l (opposite l) ≡ false
  alike_apart l = grind (arith, truth_opposite β l)

  -- a true clause is not all false
  some_left : (c : List Literal) → some_true β c ≡ true → all_false (alike β) c ≡ false
  some_left [] h = sym h
  some_left (l ∷ c) h = grind (arith, some_left c)

  -- and where its literals are false or alike, each of those is true
  last_true : (u : Literal) (c : List Literal) → some_true β c ≡ true → only (alike β) u c ≡ true → truth β u ≡ true
  last_true u [] h o = absurd (false≢true h)
  last_true u (l ∷ c) h o = grind (arith, last_true u c)

  true_heeds : (c : List Literal) → some_true β c ≡ true → Heeds (alike β) c
  true_heeds c h = record {
    some_left = some_left c h;
    last_true = λ u _ o. equal_alike u True (last_true u c h o);
  }

module _ (j : Job) (laws : LawfulRows j) (v : ℕ → ℕ) (sol : Solves j v) where
  abbrev β : ℕ → Bool
  β = bits j.ranges v

  shown : Shows j.ranges (bits j.ranges v) v
  shown = bits_show j.ranges v sol.in_range

  clauses_true : AllByRecursion (TrueBy j.ranges β) (clauses j)
  clauses_true = All-append (TrueBy j.ranges β) (orders j.ranges) (joined (λ w. w.clauses) j.rows)
      (shows_orders j.ranges β v shown)
      (all_joined (TrueBy j.ranges β) (λ w. w.clauses) j.rows
      (all_both (LawfulRow j.ranges) (λ w. w.meets v ≡ true) (λ w. AllByRecursion (TrueBy j.ranges β) w.clauses)
      (λ w law m. by_met j.ranges β v shown w.clauses ((law.by_clauses v sol.in_range).0 m)) j.rows laws sol.meets))

  stands_kept : (t : Tie) → Stands j.ranges (alike β) t → Kept v t
  stands_kept t h = sym (truth_literal j.ranges β v shown t.left) ∙ alike_equal β (literal j.ranges t.left) (literal j.ranges t.right) h ∙ truth_literal j.ranges β v shown t.right

  kept_stands : (t : Tie) → Kept v t → Stands j.ranges (alike β) t
  kept_stands t h = equal_alike β (literal j.ranges t.left) (literal j.ranges t.right) (truth_literal j.ranges β v shown t.left ∙ h ∙ sym (truth_literal j.ranges β v shown t.right))

  pairs_follow : (p : Pairing) → Follows v p → Pairs j.ranges (alike β) p
  pairs_follow p h g = kept_stands p.gives (h (All-weaker (Stands j.ranges (alike β)) (Kept v) stands_kept p.premise g))

  -- a solution closes the rules
  pub model_closed : Closed j (alike (bits j.ranges v))
  model_closed = record {
    ties = alike_ties β;
    apart = alike_apart β;
    clauses = All-weaker (TrueBy j.ranges β) (λ c. Heeds (alike β) (literals j.ranges c)) (λ c. true_heeds β (literals j.ranges c)) (clauses j) clauses_true;
    pairings = all_joined (Pairs j.ranges (alike β)) (λ w. w.pairings) j.rows
        (all_both (LawfulRow j.ranges) (λ w. w.meets v ≡ true) (λ w. AllByRecursion (Pairs j.ranges (alike β)) w.pairings)
        (λ w law m. All-weaker (Follows v) (Pairs j.ranges (alike β)) pairs_follow w.pairings (law.by_pairings v sol.in_range m)) j.rows laws sol.meets);
  }

  -- so a solution keeps the ties that each closed set has
  pub model_keeps : (R : Relation) → Sound j R → (l m : Literal) → R l m ≡ true → truth (bits j.ranges v) l ≡ truth (bits j.ranges v) m
  model_keeps R sound l m h = alike_equal β l m (sound (alike β) model_closed l m h)

  pub solution_respects : (f : ℕ → Literal) → Sound j (tied f) → Respects v (tied_bounds j.ranges f)
  solution_respects f sound p q h =
      sym (truth_literal j.ranges β v shown p) ∙ model_keeps (tied f) sound (literal j.ranges p) (literal j.ranges q) h ∙ truth_literal j.ranges β v shown q

-- and where no set is closed there is no solution
pub none_solves : (j : Job) → LawfulRows j → Refused j → (v : ℕ → ℕ) → Solves j v → ⊥
none_solves j laws none v sol = none (alike (bits j.ranges v)) (model_closed j laws v sol)
