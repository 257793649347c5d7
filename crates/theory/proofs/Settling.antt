-- A clause asks nothing more where what is written of it has two literals at least. Assumes nothing.
use Rattle.std.proofs.Common.{◌≡◌, ℕ, suc, ◌<◌, ◌≤◌, Bool, true, false, not, ◌&&◌, ◌||◌, ◌⊎◌, List, [], ◌∷◌, map, length, fold, sym, refl, ap, ◌∙◌, inl, inr, arith}
use Rattle.std.specs.List.{ContainsAt, AllByRecursion}
use Rattle.std.proofs.ByRecursion.{All-weaker}
use Rattle.std.proofs.lemmas.Bool.{false≢true, cases_Bool, cases_lt, and_parts, and_from, or_cases, or_parts, or_left, or_right, both_ways}
use Rattle.order.specs.declared.bound.Bound.{Bound}
use Rattle.order.specs.declared.literal.Literal.{Literal}
use Rattle.order.specs.declared.literal.Literal.TheVariants.{False, True}
use Rattle.order.specs.Bounds.{literals}
use Rattle.order.specs.Literals.{opposite, same}
use Rattle.order.proofs.Signs.{same_tells, same_itself, equal_from_same, same_from_equal}
use Rattle.ties.specs.Roots.{root_by, tied, Fixed}
use Rattle.ties.proofs.Equivalences.{root_by_opposite, root_by_twice, roots_tie, tied_is_ties}
use Rattle.cnf.specs.Numbered.{rooted}
use Rattle.cnf.specs.Reduced.{has, add, struck, opposed, written}
use Rattle.cnf.proofs.Inside.{written_is}
use Rattle.cnf.proofs.Reducing.{has_struck}
use Rattle.theory.specs.Jobs.{Job, clauses, pairings, reduced}
use Rattle.theory.specs.Closed.{only, all_false, Heeds, Pairs, Closed}
use Rattle.theory.specs.Steps.{Forced, Hopeless, Long, Settles}
use Rattle.theory.proofs.Stepping.{sound_none, sound_more, sound_hopeless, clause_forces, clause_hopeless, pairing_forces, opposite_hopeless}

-- whether each literal of a clause of roots is false or u
abbrev pub among : Literal → List Literal → Bool
among u [] = true
among u (l ∷ d) = (same l False || same l u) && among u d

only_among : (f : ℕ → Literal) (u : Literal) (c : List Literal) → only (tied f) u c ≡ among (root_by f u) (map (root_by f) c)
only_among f u [] = refl
only_among f u (l ∷ c) = ap (λ b. (same (root_by f l) False || same (root_by f l) (root_by f u)) && b) (only_among f u c)

false_among : (f : ℕ → Literal) (c : List Literal) → all_false (tied f) c ≡ among False (map (root_by f) c)
false_among f [] = refl
false_among f (l ∷ c) = grind (arith, false_among f c)

among_has : (u : Literal) (d : List Literal) → among u d ≡ true → (l : Literal) → has d l ≡ true → (l ≡ False) ⊎ (l ≡ u)
among_has u [] h l q = absurd (false≢true q)
among_has u (m ∷ d) h l q =
    let p = and_parts (same m False || same m u) (among u d) h in
    elim (or_cases (same m l) (has d l) q) [
      | inr r ↦ among_has u d p.1 l r
      | inl e ↦
          let i : l ≡ m = sym (equal_from_same m l e) in
          elim (or_cases (same m False) (same m u) p.0) [
            | inl z ↦ inl (i ∙ equal_from_same m False z)
            | inr z ↦ inr (i ∙ equal_from_same m u z)
          ]
    ]

pub among_from : (u : Literal) (d : List Literal) → ((l : Literal) → has d l ≡ true → (same l False || same l u) ≡ true) → among u d ≡ true
among_from u [] h = refl
among_from u (l ∷ d) h = and_from (same l False || same l u) (among u d)
    (h l (or_left (same l l) (has d l) (same_itself l)))
    (among_from u d (λ m q. h m (or_right (same l m) (has d m) q)))

-- False or u alone: nothing is left, or u
add_one : (u l : Literal) → (same l False || same l u) ≡ true → add (u ∷ []) l ≡ u ∷ []
add_one u l h = grind (arith, same_tells)

add_none : (u l : Literal) → (same l False || same l u) ≡ true → (add [] l ≡ []) ⊎ (add [] l ≡ u ∷ [])
add_none u l h = elim (cases_Bool (same l False)) [
  | inl e ↦ inl (rw e)
  | inr e ↦ inr (rw e (ap (λ x. x ∷ []) (equal_from_same l u (last (same l False) (same l u) e h))))
]
  where
    last : (a b : Bool) → a ≡ false → (a || b) ≡ true → b ≡ true
    last a b e g = grind arith

among_one : (u : Literal) (d : List Literal) → among u d ≡ true → fold add (u ∷ []) d ≡ u ∷ []
among_one u [] h = refl
among_one u (l ∷ d) h =
    let p = and_parts (same l False || same l u) (among u d) h in
    ap (λ x. fold add x d) (add_one u l p.0) ∙ among_one u d p.1

pub among_struck : (u : Literal) (d : List Literal) → among u d ≡ true → (struck d ≡ []) ⊎ (struck d ≡ u ∷ [])
among_struck u [] h = inl refl
among_struck u (l ∷ d) h =
    let p = and_parts (same l False || same l u) (among u d) h in
    elim (add_none u l p.0) [
      | inr e ↦ inr (ap (λ x. fold add x d) e ∙ among_one u d p.1)
      | inl e ↦
          let f : struck (l ∷ d) ≡ struck d = ap (λ x. fold add x d) e in
          elim (among_struck u d p.1) [
            | inl g ↦ inl (f ∙ g)
            | inr g ↦ inr (f ∙ g)
          ]
    ]

-- where fewer than two are left, each is False or one of the clause
struck_among : (d : List Literal) → length (struck d) < 2 → (among False d ≡ true) ⊎ ((u : Literal) × (has d u ≡ true) × (among u d ≡ true))
struck_among d h = go (struck d) refl h
  where
    left : (l : Literal) (xs : List Literal) → struck d ≡ xs → has d l ≡ true → (same l False || has xs l) ≡ true
    left l xs e q = both (has d l) (same l False) (has xs l) (ap (λ x. has x l) (sym e) ∙ has_struck d l) q
      where
        both : (a b c : Bool) → c ≡ (a && not b) → a ≡ true → (b || c) ≡ true
        both a b c e q = grind arith

    turn : (l u : Literal) → (same l False || (same u l || false)) ≡ true → (same l False || same l u) ≡ true
    turn l u h = grind (arith, same_tells)

    plain : (l : Literal) → (same l False || false) ≡ true → (same l False || same l False) ≡ true
    plain l h = grind (arith, same_tells)

    go : (xs : List Literal) → struck d ≡ xs → length xs < 2 → (among False d ≡ true) ⊎ ((u : Literal) × (has d u ≡ true) × (among u d ≡ true))
    go [] e k = inl (among_from False d (λ l q. plain l (left l [] e q)))
    go (u ∷ []) e k =
        let a : has (struck d) u ≡ true = ap (λ x. has x u) e ∙ or_left (same u u) false (same_itself u) in
        let b : (has d u && not (same u False)) ≡ true = sym (has_struck d u) ∙ a in
        inr (u, (and_parts (has d u) (not (same u False)) b).0, among_from u d (λ l q. turn l u (left l (u ∷ []) e q)))
    go (u ∷ w ∷ xs) e k = absurd (long (length xs) k)
      where
        long : (n : ℕ) → suc (suc n) < 2 → ⊥
        long n k = omega arith

-- a clause of False and u, which is not True, has neither True nor two opposites
pub among_plain : (u : Literal) (d : List Literal) → same u True ≡ false → among u d ≡ true → (has d True || opposed d) ≡ false
among_plain u d n h = both (has d True) (opposed d) (no_true d h) (no_opposed d h)
  where
    both : (a b : Bool) → (a ≡ true → ⊥) → (b ≡ true → ⊥) → (a || b) ≡ false
    both a b p q = grind arith

    no_true : (d : List Literal) → among u d ≡ true → has d True ≡ true → ⊥
    no_true d h q = elim (among_has u d h True q) [
      | inl e ↦ grind arith
      | inr e ↦ both_ways (same u True) n (same_from_equal u True (sym e))
    ]

    apart : (l : Literal) → (l ≡ False) ⊎ (l ≡ u) → (opposite l ≡ False) ⊎ (opposite l ≡ u) → ⊥
    apart l p q = grind (arith, same_tells)

    no_opposed : (d : List Literal) → among u d ≡ true → opposed d ≡ true → ⊥
    no_opposed [] h q = grind arith
    no_opposed (l ∷ d) h q =
        let p = and_parts (same l False || same l u) (among u d) h in
        elim (or_cases (has d (opposite l)) (opposed d) q) [
          | inr r ↦ no_opposed d p.1 r
          | inl r ↦ apart l (among_has u (l ∷ d) h l (or_left (same l l) (has d l) (same_itself l))) (among_has u d p.1 (opposite l) r)
        ]

among_short : (u : Literal) (d : List Literal) → same u True ≡ false → among u d ≡ true → Long (written d) → ⊥
among_short u d n h long =
    let e = among_plain u d n h in
    let k : Long (struck d ∷ []) = rw e at long in
    elim (among_struck u d h) [
      | inl z ↦ let l : 2 ≤ length (struck d) = k.0 in let y = ap length z in omega arith
      | inr z ↦ let l : 2 ≤ length (struck d) = k.0 in let y = ap length z in omega arith
    ]

has_map : (g : Literal → Literal) (c : List Literal) (m : Literal) → has (map g c) m ≡ true → (u : Literal) × (has c u ≡ true) × (g u ≡ m)
has_map g [] m h = absurd (false≢true h)
has_map g (l ∷ c) m h = elim (or_cases (same (g l) m) (has (map g c) m) h) [
  | inl e ↦ (l, or_left (same l l) (has c l) (same_itself l), equal_from_same (g l) m e)
  | inr q ↦ let i = has_map g c m q in (i.0, or_right (same l i.0) (has c i.0) i.1, i.2)
]

module _ (f : ℕ → Literal) (c : List Literal) where
  -- what heeds a clause leaves two literals of it, or nothing to write
  pub heeds_long : Heeds (tied f) c → Long (written (map (root_by f) c))
  heeds_long h =
      let d : List Literal = map (root_by f) c in
      elim (cases_Bool (has d True || opposed d)) [
        | inl k ↦ rw k tt
        | inr k ↦ rw k (elim (cases_lt (length (struck d)) 2) [
          | inr l ↦ (l, tt)
          | inl l ↦ absurd (elim (struck_among d l) [
            | inl a ↦ both_ways _ h.some_left (false_among f c ∙ a)
            | inr a ↦ one a.0 a.1 a.2 (or_parts (has d True) (opposed d) k).0
          ])
        ])
      ]
    where
      one : (m : Literal) → has (map (root_by f) c) m ≡ true → among m (map (root_by f) c) ≡ true → has (map (root_by f) c) True ≡ false → ⊥
      one m q a n =
          let i = has_map (root_by f) c m q in
          let o : only (tied f) i.0 c ≡ true = only_among f i.0 c ∙ ap (λ x. among x (map (root_by f) c)) i.2 ∙ a in
          let t : m ≡ True = sym i.2 ∙ equal_from_same (root_by f i.0) True (h.last_true i.0 i.1 o) in
          both_ways (has (map (root_by f) c) True) n (ap (has (map (root_by f) c)) (sym t) ∙ q)

  -- and the other way round
  pub long_heeds : Long (written (map (root_by f) c)) → Heeds (tied f) c
  long_heeds long = record {
    some_left = elim (cases_Bool (all_false (tied f) c)) [
      | inr n ↦ n
      | inl t ↦ absurd (among_short False (map (root_by f) c) refl (sym (false_among f c) ∙ t) long)
    ];
    last_true = λ u _ o. elim (cases_Bool (same (root_by f u) True)) [
      | inl t ↦ t
      | inr n ↦ absurd (among_short (root_by f u) (map (root_by f) c) n (sym (only_among f u c) ∙ o) long)
    ];
  }

-- no literal is tied to its opposite
pub tied_apart : (f : ℕ → Literal) (l : Literal) → tied f l (opposite l) ≡ false
tied_apart f l = ap (same (root_by f l)) (root_by_opposite f l) ∙ never (root_by f l)
  where
    never : (x : Literal) → same x (opposite x) ≡ false
    never x = grind (arith, same_tells)

-- where each clause written, of spent rows too, has two literals at least and the pairings are followed, the ties are closed
pub tied_closed : (j : Job) (f : ℕ → Literal) → AllByRecursion (λ c. Long (reduced j.ranges f c)) (clauses j) → AllByRecursion (Pairs j.ranges (tied f)) (pairings j) → Closed j (tied f)
tied_closed j f long pairs = record {
  ties = tied_is_ties f;
  apart = tied_apart f;
  clauses = All-weaker (λ c. Long (reduced j.ranges f c)) (λ c. Heeds (tied f) (literals j.ranges c)) (λ c. long_heeds f (literals j.ranges c)) (clauses j) long;
  pairings = pairs;
}

-- the rules as the code meets them, by the roots: a clause that leaves nothing, and one that leaves one literal
module _ (j : Job) (f : ℕ → Literal) (c : List Bound) (in' : ContainsAt (clauses j) c) where
  pub empty_hopeless : struck (rooted j.ranges f c) ≡ [] → Hopeless j (tied f)
  empty_hopeless e =
      let d : List Literal = rooted j.ranges f c in
      clause_hopeless j (tied f) c in' (false_among f (literals j.ranges c) ∙ among_from False d (λ l q. all_gone l q))
    where
      all_gone : (l : Literal) → has (rooted j.ranges f c) l ≡ true → (same l False || same l False) ≡ true
      all_gone l q = plain (has (rooted j.ranges f c) l) (same l False) (sym (has_struck (rooted j.ranges f c) l) ∙ ap (λ x. has x l) e) q
        where
          plain : (a z : Bool) → (a && not z) ≡ false → a ≡ true → (z || z) ≡ true
          plain a z h q = grind arith

  pub unit_forces : Fixed f → (u : Literal) → struck (rooted j.ranges f c) ≡ u ∷ [] → Forced j (tied f) u True
  unit_forces fixed u e S closed w =
      let ls : List Literal = literals j.ranges c in
      let d : List Literal = map (root_by f) ls in
      let a : has (struck d) u ≡ true = ap (λ x. has x u) e ∙ or_left (same u u) false (same_itself u) in
      let b : has d u ≡ true = (and_parts (has d u) (not (same u False)) (sym (has_struck d u) ∙ a)).0 in
      let i = has_map (root_by f) ls u b in
      let m : Literal = i.0 in
      let o : only (tied f) m ls ≡ true = only_among f m ls ∙ ap (λ x. among x d) i.2 ∙ among_from u d (λ l q. turn l u (left d l u e q)) in
      let t : S m True ≡ true = clause_forces j (tied f) c in' m i.1 o S closed w in
      let r : tied f u m ≡ true = roots_tie f u m (ap (root_by f) (sym i.2) ∙ root_by_twice f fixed m) in
      closed.ties.transitive u m True (w u m r) t
    where
      turn : (l u : Literal) → (same l False || (same u l || false)) ≡ true → (same l False || same l u) ≡ true
      turn l u h = grind (arith, same_tells)

      left : (d : List Literal) (l u : Literal) → struck d ≡ u ∷ [] → has d l ≡ true → (same l False || (same u l || false)) ≡ true
      left d l u e q = both (has d l) (same l False) (same u l || false) (ap (λ x. has x l) (sym e) ∙ has_struck d l) q
        where
          both : (a b c : Bool) → c ≡ (a && not b) → a ≡ true → (b || c) ≡ true
          both a b c e q = grind arith

-- the steps of settling
pub settles : Settles
settles j = record {
  start = sound_none j;
  unit = λ f fixed c in' u e. unit_forces j f c in' fixed u (sym (written_is (rooted j.ranges f c) (u ∷ []) e));
  pairing = pairing_forces j;
  tie = sound_more j;
  empty = λ f c in' e. empty_hopeless j f c in' (sym (written_is (rooted j.ranges f c) [] e));
  opposites = opposite_hopeless j;
  refused = sound_hopeless j;
  closed = tied_closed j;
}
