-- What is written fits under the header: short clauses, of the numbers of free bits. Assumes nothing.
use Rattle.std.proofs.Common.{◌≡◌, ℕ, zero, suc, ◌+◌, ◌<◌, ◌≤◌, Bool, true, false, cond, ◌&&◌, ◌||◌, ltb, leb, ◌⊎◌, List, [], ◌∷◌, ◌++◌, map, length, fold, sym, refl, ap, ◌∙◌, subst, inl, inr, arith}
use lib.ListN.{length-map}
use Rattle.std.specs.List.{AllByRecursion}
use Rattle.std.proofs.ByRecursion.{All-append}
use Rattle.std.proofs.lemmas.List.{length_push}
use Rattle.std.proofs.lemmas.Bool.{and_from, and_parts, cases_Bool, cases_order, le-leb, lt-ltb, or_left}
use Rattle.std.proofs.lemmas.Bool.Decides.{nat_tests}
use Rattle.order.specs.declared.bound.Bound.{Bound}
use Rattle.order.specs.declared.literal.Literal.{Literal}
use Rattle.order.specs.declared.literal.Literal.TheVariants.{False, True, Bit, Not}
use Rattle.order.specs.declared.range.Range.{Range}
use Rattle.order.specs.Bounds.{literals}
use Rattle.order.specs.Literals.{opposite, same}
use Rattle.order.specs.Ranges.{total_bits}
use Rattle.order.proofs.Signs.{same_from_equal, same_tells, opposite_opposite}
use Rattle.ties.specs.Roots.{root_by, free_to, there, Named, Fixed}
use Rattle.sink.specs.Sinks.{proper_lits, proper_clause}
use Rattle.cnf.specs.Numbered.{lit, rooted, written_clause, written_all, all_there}
use Rattle.cnf.specs.Reduced.{has, add, struck, opposed}
use Rattle.cnf.proofs.Inside.{rooted_there}
use Rattle.cnf.proofs.Rooting.{length_rooted}

-- a free bit has a number from 1 to that of all free bits
pub free_steps : (f : ℕ → Literal) (m n : ℕ) → m ≤ n → free_to f m ≤ free_to f n
free_steps f m zero h = let e : m ≡ 0 = omega arith in omega (arith, ap (free_to f) e)
free_steps f m (suc n) h =
    elim (cases_order m (suc n)) [
      | inl e ↦ omega (arith, ap (free_to f) e)
      | inr (inl lt) ↦ omega (arith, free_steps f m n (omega arith))
      | inr (inr gt) ↦ absurd (omega arith)
    ]

abbrev one_if : Bool → ℕ
one_if b = cond b 1 0

pub free_some : (f : ℕ → Literal) (m : ℕ) → 0 < m → f m ≡ Bit m → 0 < free_to f m
free_some f zero h e = absurd (omega arith)
free_some f (suc m) h e =
    omega (arith, ap one_if (same_from_equal (f (suc m)) (Bit (suc m)) e))

-- a free bit of 1 to n, or the opposite of one
abbrev free_lit : (ℕ → Literal) → ℕ → Literal → Type 0
free_lit f n False = ⊥
free_lit f n True = ⊥
free_lit f n (Bit m) = (0 < m) × (m ≤ n) × (f m ≡ Bit m)
free_lit f n (Not m) = (0 < m) × (m ≤ n) × (f m ≡ Bit m)

bit_there : (n m : ℕ) → there n (Bit m) ≡ true → (0 < m) × (m ≤ n)
bit_there n m h = grind (arith, nat_tests)

not_own : (f : ℕ → Literal) (m : ℕ) → root_by f (Not m) ≡ Not m → f m ≡ Bit m
not_own f m e = sym (opposite_opposite (f m)) ∙ ap opposite e

-- a root that is there and no constant
root_free : (f : ℕ → Literal) (n : ℕ) (l : Literal) → there n l ≡ true → root_by f l ≡ l → (l ≡ True → ⊥) → (l ≡ False → ⊥) → free_lit f n l
root_free f n False h e nt nf = nf refl
root_free f n True h e nt nf = nt refl
root_free f n (Bit m) h e nt nf = let p = bit_there n m h in (p.0, p.1, e)
root_free f n (Not m) h e nt nf = let p = bit_there n m h in (p.0, p.1, not_own f m e)

-- literals that are there, and their own roots, and not true
abbrev pub RootsOnly : (ℕ → Literal) → ℕ → List Literal → Type 0
RootsOnly f n c = AllByRecursion (λ l. (there n l ≡ true) × (root_by f l ≡ l) × (l ≡ True → ⊥)) c

free_all : (f : ℕ → Literal) (n : ℕ) (d c : List Literal) → AllByRecursion (free_lit f n) d → RootsOnly f n c → AllByRecursion (free_lit f n) (fold add d c)
free_all f n d [] h k = h
free_all f n d (l ∷ c) h k = free_all f n (add d l) c (added (same_tells l False)) k.1
  where
    added : ((same l False ≡ true) × (l ≡ False)) ⊎ ((same l False ≡ false) × (l ≡ False → ⊥)) → AllByRecursion (free_lit f n) (add d l)
    added (inl e) = subst (λ b. AllByRecursion (free_lit f n) (cond b d (d ++ l ∷ []))) (sym (or_left (same l False) (has d l) e.0)) h
    added (inr e) = elim (cases_Bool (same l False || has d l)) [
      | inl q ↦ subst (λ b. AllByRecursion (free_lit f n) (cond b d (d ++ l ∷ []))) (sym q) h
      | inr q ↦ subst (λ b. AllByRecursion (free_lit f n) (cond b d (d ++ l ∷ []))) (sym q) (All-append (free_lit f n) d (l ∷ []) h (root_free f n l k.0.0 k.0.1 k.0.2 e.1, tt))
    ]

length_folded : (d c : List Literal) → length (fold add d c) ≤ length d + length c
length_folded d [] = omega arith
length_folded d (l ∷ c) =
    elim (cases_Bool (same l False || has d l)) [
      | inl q ↦ omega (arith, length_folded (add d l) c, ap (λ b. length (cond b d (d ++ l ∷ []))) q)
      | inr q ↦ omega (arith, length_folded (add d l) c, ap (λ b. length (cond b d (d ++ l ∷ []))) q, length_push d l)
    ]

number_proper : (f : ℕ → Literal) (n m : ℕ) → 0 < m → m ≤ n → f m ≡ Bit m → (ltb 0 (free_to f m) && leb (free_to f m) (free_to f n)) ≡ true
number_proper f n m some within e =
    and_from (ltb 0 (free_to f m)) (leb (free_to f m) (free_to f n)) (lt-ltb 0 (free_to f m) (free_some f m some e)) (le-leb (free_to f m) (free_to f n) (free_steps f m n within))

lits_proper : (f : ℕ → Literal) (n : ℕ) (c : List Literal) → AllByRecursion (free_lit f n) c → proper_lits (free_to f n) (map (lit f) c) ≡ true
lits_proper f n [] h = refl
lits_proper f n (False ∷ c) h = absurd h.0
lits_proper f n (True ∷ c) h = absurd h.0
lits_proper f n (Bit m ∷ c) h = and_from (ltb 0 (free_to f m) && leb (free_to f m) (free_to f n)) (proper_lits (free_to f n) (map (lit f) c)) (number_proper f n m h.0.0 h.0.1 h.0.2) (lits_proper f n c h.1)
lits_proper f n (Not m ∷ c) h = and_from (ltb 0 (free_to f m) && leb (free_to f m) (free_to f n)) (proper_lits (free_to f n) (map (lit f) c)) (number_proper f n m h.0.0 h.0.1 h.0.2) (lits_proper f n c h.1)

root_twice : (f : ℕ → Literal) → Fixed f → (x : Literal) → root_by f (root_by f x) ≡ root_by f x
root_twice f fixed False = refl
root_twice f fixed True = refl
root_twice f fixed (Bit n) = fixed n
root_twice f fixed (Not n) = turned (f n) ∙ ap opposite (fixed n)
  where
    turned : (l : Literal) → root_by f (opposite l) ≡ opposite (root_by f l)
    turned False = refl
    turned True = refl
    turned (Bit m) = refl
    turned (Not m) = sym (opposite_opposite (f m))

-- the roots of a clause that is not left out
roots_only : (f : ℕ → Literal) (n : ℕ) → Fixed f → (ls : List Literal) → all_there n (map (root_by f) ls) ≡ true → has (map (root_by f) ls) True ≡ false → RootsOnly f n (map (root_by f) ls)
roots_only f n fixed [] h k = tt
roots_only f n fixed (l ∷ ls) h k =
    let p = and_parts (there n (root_by f l)) (all_there n (map (root_by f) ls)) h in
    let q = parts (same (root_by f l) True) (has (map (root_by f) ls) True) k in
    ((p.0, twice l, untrue q.0), roots_only f n fixed ls p.1 q.1)
  where
    parts : (a b : Bool) → (a || b) ≡ false → (a ≡ false) × (b ≡ false)
    parts a b h = grind arith

    untrue : same (root_by f l) True ≡ false → root_by f l ≡ True → ⊥
    untrue e t = both (same (root_by f l) True) e (same_from_equal (root_by f l) True t)
      where
        both : (b : Bool) → b ≡ false → b ≡ true → ⊥
        both b e t = grind arith

    twice : (x : Literal) → root_by f (root_by f x) ≡ root_by f x
    twice x = root_twice f fixed x

module _ (rs : List Range) (f : ℕ → Literal) (named : Named f) (fixed : Fixed f) where
  clause_proper : (c : List Bound) → length c ≤ 64 → AllByRecursion (λ w. proper_clause (free_to f (total_bits rs)) w ≡ true) (written_clause rs f c)
  clause_proper c short = elim (cases_Bool (has (rooted rs f c) True || opposed (rooted rs f c))) [
    | inl e ↦ subst (λ b. AllByRecursion (λ w. proper_clause (free_to f (total_bits rs)) w ≡ true) (map (map (lit f)) (cond b [] (struck (rooted rs f c) ∷ [])))) (sym e) tt
    | inr e ↦
        let k = parts (has (rooted rs f c) True) (opposed (rooted rs f c)) e in
        let roots = roots_only f (total_bits rs) fixed (literals rs c) (rooted_there rs f named c) k.0 in
        let long : length (map (lit f) (struck (rooted rs f c))) ≤ 64 = simp length-map (omega (arith, length_folded [] (rooted rs f c), length_rooted rs f c)) in
        let ok = and_from (leb (length (map (lit f) (struck (rooted rs f c)))) 64) (proper_lits (free_to f (total_bits rs)) (map (lit f) (struck (rooted rs f c)))) (le-leb (length (map (lit f) (struck (rooted rs f c)))) 64 long) (lits_proper f (total_bits rs) (struck (rooted rs f c)) (free_all f (total_bits rs) [] (rooted rs f c) tt roots)) in
        subst (λ b. AllByRecursion (λ w. proper_clause (free_to f (total_bits rs)) w ≡ true) (map (map (lit f)) (cond b [] (struck (rooted rs f c) ∷ [])))) (sym e) (ok, tt)
  ]
    where
      parts : (a b : Bool) → (a || b) ≡ false → (a ≡ false) × (b ≡ false)
      parts a b h = grind arith

  -- each clause that is written is proper under V free bits
  pub all_proper : (cs : List (List Bound)) → AllByRecursion (λ c. length c ≤ 64) cs → AllByRecursion (λ w. proper_clause (free_to f (total_bits rs)) w ≡ true) (written_all rs f cs)
  all_proper [] short = tt
  all_proper (c ∷ cs) short = All-append (λ w. proper_clause (free_to f (total_bits rs)) w ≡ true) (written_clause rs f c) (written_all rs f cs) (clause_proper c short.0) (all_proper cs short.1)
