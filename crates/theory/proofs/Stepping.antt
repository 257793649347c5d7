-- A step that the rules force keeps the ties sound. Assumes nothing.
use Rattle.std.proofs.Common.{◌≡◌, ℕ, true, ◌||◌, List, [], ◌∷◌, sym, refl, ap, ◌∙◌, inl, inr}
use Rattle.std.specs.List.{ContainsAt, AllByRecursion}
use Rattle.std.proofs.ByRecursion.{all-has, All-weaker}
use Rattle.std.proofs.lemmas.Bool.{and_parts, and_from, or_cases, or_left, or_right, both_ways}
use Rattle.order.specs.declared.bound.Bound.{Bound}
use Rattle.order.specs.declared.literal.Literal.{Literal}
use Rattle.order.specs.declared.literal.Literal.TheVariants.{False, True, Bit, Not}
use Rattle.order.specs.Bounds.{literal, literals}
use Rattle.order.specs.Literals.{opposite}
use Rattle.ties.specs.Relations.{Relation, Within, Least}
use Rattle.ties.specs.Roots.{root_by, tied, Fixed}
use Rattle.ties.proofs.Equivalences.{tied_roots, tied_to_root}
use Rattle.kinds.specs.Items.{Pairing}
use Rattle.cnf.specs.Reduced.{has}
use Rattle.theory.specs.Jobs.{Job, clauses, pairings}
use Rattle.theory.specs.Closed.{only, all_false, Heeds, Stands, Pairs, Closed, Sound, Refused}
use Rattle.theory.specs.Steps.{Forced, Hopeless}
use Rattle.theory.proofs.Rooting.{root_itself}

-- no tie but of a literal with itself is sound
pub sound_none : (j : Job) → Sound j (tied Bit)
sound_none j S c x y h =
    let e : x ≡ y = sym (root_itself x) ∙ tied_roots Bit x y h ∙ root_itself y in
    ap (S x) (sym e) ∙ c.ties.reflexive x

module _ (j : Job) (R : Relation) where
  -- to tie what is forced is sound
  pub sound_more : Sound j R → (a b : Literal) (R' : Relation) → Forced j R a b → Least R a b R' → Sound j R'
  sound_more sound a b R' forced l S c = l.least S c.ties (sound S c) (forced S c (sound S c))

  -- what is hopeless has no closed set at all
  pub sound_hopeless : Sound j R → Hopeless j R → Refused j
  sound_hopeless sound none S c = none S c (sound S c)

  only_more : (S : Relation) → Within R S → (u : Literal) (c : List Literal) → only R u c ≡ true → only S u c ≡ true
  only_more S w u [] h = refl
  only_more S w u (l ∷ c) h =
      let p = and_parts (R l False || R l u) (only R u c) h in
      and_from (S l False || S l u) (only S u c)
      (elim (or_cases (R l False) (R l u) p.0) [
        | inl q ↦ or_left (S l False) (S l u) (w l False q)
        | inr q ↦ or_right (S l False) (S l u) (w l u q)
      ])
      (only_more S w u c p.1)

  false_more : (S : Relation) → Within R S → (c : List Literal) → all_false R c ≡ true → all_false S c ≡ true
  false_more S w [] h = refl
  false_more S w (l ∷ c) h =
      let p = and_parts (R l False) (all_false R c) h in
      and_from (S l False) (all_false S c) (w l False p.0) (false_more S w c p.1)

  -- a clause forces its last literal
  pub clause_forces : (c : List Bound) → ContainsAt (clauses j) c → (u : Literal) → has (literals j.ranges c) u ≡ true → only R u (literals j.ranges c) ≡ true → Forced j R u True
  clause_forces c in' u h o S closed w =
      (all-has (λ d. Heeds S (literals j.ranges d)) (clauses j) c closed.clauses in').last_true u h (only_more S w u (literals j.ranges c) o)

  -- a pairing forces its tie
  pub pairing_forces : (p : Pairing) → ContainsAt (pairings j) p → AllByRecursion (Stands j.ranges R) p.premise → Forced j R (literal j.ranges p.gives.left) (literal j.ranges p.gives.right)
  pairing_forces p in' h S closed w =
      all-has (Pairs j.ranges S) (pairings j) p closed.pairings in' (All-weaker (Stands j.ranges R) (Stands j.ranges S) (λ t. w (literal j.ranges t.left) (literal j.ranges t.right)) p.premise h)

  -- a clause whose literals are all false, and a literal that is forced to be its opposite, are hopeless
  pub clause_hopeless : (c : List Bound) → ContainsAt (clauses j) c → all_false R (literals j.ranges c) ≡ true → Hopeless j R
  clause_hopeless c in' h S closed w =
      both_ways _ (all-has (λ d. Heeds S (literals j.ranges d)) (clauses j) c closed.clauses in').some_left (false_more S w (literals j.ranges c) h)

  pub opposite_hopeless : (a b : Literal) → Forced j R a b → R a (opposite b) ≡ true → Hopeless j R
  opposite_hopeless a b forced h S closed w =
      both_ways _ (closed.apart b) (closed.ties.transitive b a (opposite b) (closed.ties.symmetric a b (forced S closed w)) (w a (opposite b) h))

-- ties are sound where each closed set ties each bit with its root
pub sound_by_roots : (j : Job) (f : ℕ → Literal) → ((S : Relation) → Closed j S → (n : ℕ) → S (Bit n) (f n) ≡ true) → Sound j (tied f)
sound_by_roots j f h S c x y t =
    let e : root_by f x ≡ root_by f y = tied_roots f x y t in
    let p : S x (root_by f y) ≡ true = ap (S x) (sym e) ∙ root x in
    c.ties.transitive x (root_by f y) y p (c.ties.symmetric y (root_by f y) (root y))
  where
    root : (l : Literal) → S l (root_by f l) ≡ true
    root False = c.ties.reflexive False
    root True = c.ties.reflexive True
    root (Bit n) = h S c n
    root (Not n) = c.ties.opposites (Bit n) (f n) (h S c n)

-- and where they are sound it does
pub roots_by_sound : (j : Job) (f : ℕ → Literal) → Fixed f → Sound j (tied f) → (S : Relation) → Closed j S → (n : ℕ) → S (Bit n) (f n) ≡ true
roots_by_sound j f fixed sound S c n = sound S c (Bit n) (f n) (tied_to_root f fixed (Bit n))
