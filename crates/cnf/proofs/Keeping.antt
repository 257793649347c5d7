-- The literals that a clause has kept so far. Assumes nothing.
use Rattle.std.proofs.Common.{◌≡◌, ℕ, zero, suc, ◌+◌, ◌<◌, ◌≤◌, Bool, true, false, cond, not, ◌&&◌, ◌||◌, ◌⊎◌, List, [], ◌∷◌, ◌++◌, length, get_or, take, sym, refl, ap, ◌∙◌, inl, inr, arith}
use Rattle.std.proofs.lemmas.List.{take_more, take_all}
use Rattle.std.proofs.lemmas.List.Sums.{fold_push}
use Rattle.std.proofs.lemmas.Bool.{both_ways, or_left, or_right}
use Rattle.order.specs.declared.literal.Literal.{Literal}
use Rattle.order.specs.declared.literal.Literal.TheVariants.{False, True}
use Rattle.order.specs.Literals.{opposite, same}
use Rattle.order.proofs.Signs.{same_tells, same_from_equal, opposite_opposite, opposite_apart}
use Rattle.cnf.specs.Reduced.{has, add, struck, opposed, written}
use Rattle.cnf.specs.declared.role.Role.TheVariants.{Settles, Idle, New}
use Rattle.cnf.specs.Roles.{Plays}
use Rattle.cnf.proofs.Reducing.{has_append, has_struck, has_opposed}

-- of the first i literals of c, `kept` is left, and there is no reason to leave c out
pub record Kept (c : List Literal) (i : ℕ) (kept : List Literal) : Type 0 where
  pub struck : struck (take i c) ≡ kept
  pub untrue : has (take i c) True ≡ false
  pub unopposed : opposed (take i c) ≡ false

same_opposite : (l m : Literal) → same l (opposite m) ≡ same m (opposite l)
same_opposite l m = grind (arith, same_tells, opposite_opposite)

opposed_push : (c : List Literal) (l : Literal) → opposed (c ++ l ∷ []) ≡ (opposed c || has c (opposite l))
opposed_push [] l = refl
opposed_push (m ∷ c) l =
    let a = has_append c (l ∷ []) (opposite m) in
    let b = opposed_push c l in
    rw (a, b) (regroup (has c (opposite m)) (opposed c) (same l (opposite m)) (same m (opposite l)) (has c (opposite l)) (same_opposite l m))
  where
    regroup : (p q r s t : Bool) → r ≡ s → ((p || (r || false)) || (q || t)) ≡ ((p || q) || (s || t))
    regroup p q r s t e = grind arith

has_take : (c : List Literal) (i : ℕ) (l : Literal) → has (take i c) l ≡ true → has c l ≡ true
has_take [] zero l h = h
has_take [] (suc i) l h = h
has_take (m ∷ c) zero l h = absurd (no h)
  where
    no : false ≡ true → ⊥
    no h = grind arith
has_take (m ∷ c) (suc i) l h = both (same m l) (has (take i c) l) (has c l) h (has_take c i l)
  where
    both : (a b d : Bool) → (a || b) ≡ true → (b ≡ true → d ≡ true) → (a || d) ≡ true
    both a b d h g = grind arith

pub kept_none : (c : List Literal) → Kept c 0 []
kept_none c = record { struck = refl; untrue = refl; unopposed = refl }

-- a clause that is left out
pub left_out : (c : List Literal) → (has c True || opposed c) ≡ true → written c ≡ []
left_out c h = ap (λ b. cond b [] (struck c ∷ [])) h

module _ (c : List Literal) (i : ℕ) (kept : List Literal) (d l : Literal) (at : l ≡ get_or c i d) (lt : i < length c) (k : Kept c i kept) where
  more : take (i + 1) c ≡ take i c ++ l ∷ []
  more = take_more c i d lt ∙ ap (λ x. take i c ++ x ∷ []) (sym at)

  struck_more : struck (take (i + 1) c) ≡ add kept l
  struck_more = ap struck more ∙ fold_push add [] (take i c) l ∙ ap (λ x. add x l) k.struck

  has_more : (x : Literal) → has (take (i + 1) c) x ≡ (has (take i c) x || same l x)
  has_more x = ap (λ y. has y x) more ∙ has_append (take i c) (l ∷ []) x ∙ ap (λ b. has (take i c) x || b) (alone (same l x))
    where
      alone : (b : Bool) → (b || false) ≡ b
      alone b = grind arith

  opposed_more : opposed (take (i + 1) c) ≡ has (take i c) (opposite l)
  opposed_more = ap opposed more ∙ opposed_push (take i c) l ∙ ap (λ b. b || has (take i c) (opposite l)) k.unopposed

  kept_has : (x : Literal) → has kept x ≡ (has (take i c) x && not (same x False))
  kept_has x = ap (λ y. has y x) (sym k.struck) ∙ has_struck (take i c) x

  -- l is true
  pub left_true : l ≡ True → written c ≡ []
  left_true e = left_out c (or_left (has c True) (opposed c) (has_take c (i + 1) True (has_more True ∙ or_right (has (take i c) True) (same l True) (same_from_equal l True e))))

  -- its opposite is there
  pub left_opposite : has kept (opposite l) ≡ true → written c ≡ []
  left_opposite h =
      let old : has (take i c) (opposite l) ≡ true = first (has (take i c) (opposite l)) (same (opposite l) False) (sym (kept_has (opposite l)) ∙ h) in
      let here : has (take (i + 1) c) l ≡ true = has_more l ∙ or_right (has (take i c) l) (same l l) (same_from_equal l l refl) in
      let there : has (take (i + 1) c) (opposite l) ≡ true = has_more (opposite l) ∙ or_left (has (take i c) (opposite l)) (same l (opposite l)) old in
      left_out c (or_right (has c True) (opposed c) (has_opposed c l (has_take c (i + 1) l here) (has_take c (i + 1) (opposite l) there)))
    where
      first : (a b : Bool) → (a && not b) ≡ true → a ≡ true
      first a b h = grind arith

  still_untrue : (l ≡ True → ⊥) → has (take (i + 1) c) True ≡ false
  still_untrue ne = has_more True ∙ neither (has (take i c) True) (same l True) k.untrue (same_tells l True)
    where
      neither : (a b : Bool) → a ≡ false → ((b ≡ true) × (l ≡ True)) ⊎ ((b ≡ false) × (l ≡ True → ⊥)) → (a || b) ≡ false
      neither a b e (inl h) = absurd (ne h.1)
      neither a b e (inr h) = or_false a b e h.0
        where
          or_false : (a b : Bool) → a ≡ false → b ≡ false → (a || b) ≡ false
          or_false a b e f = grind arith

  -- l is false
  pub kept_false : l ≡ False → Kept c (i + 1) kept
  kept_false e = record {
    struck = struck_more ∙ ap (λ b. cond (b || has kept l) kept (kept ++ l ∷ [])) (same_from_equal l False e);
    untrue = still_untrue (λ h. apart (sym e ∙ h));
    unopposed = opposed_more ∙ ap (λ x. has (take i c) (opposite x)) e ∙ k.untrue;
  }
    where
      apart : False ≡ True → ⊥
      apart h = opposite_apart False (sym h)

  -- l is there
  pub kept_repeat : (l ≡ True → ⊥) → has kept l ≡ true → Kept c (i + 1) kept
  kept_repeat ne h = record {
    struck = struck_more ∙ ap (λ b. cond b kept (kept ++ l ∷ [])) (or_right (same l False) (has kept l) h);
    untrue = still_untrue ne;
    unopposed = opposed_more ∙ none (has (take i c) (opposite l)) refl;
  }
    where
      old : has (take i c) l ≡ true
      old = first (has (take i c) l) (same l False) (sym (kept_has l) ∙ h)
        where
          first : (a b : Bool) → (a && not b) ≡ true → a ≡ true
          first a b h = grind arith

      none : (b : Bool) → has (take i c) (opposite l) ≡ b → b ≡ false
      none false e = refl
      none true e = absurd (both_ways (opposed (take i c)) k.unopposed (has_opposed (take i c) l old e))

  -- l is new
  pub kept_push : (l ≡ True → ⊥) → (l ≡ False → ⊥) → has kept l ≡ false → has kept (opposite l) ≡ false → Kept c (i + 1) (kept ++ l ∷ [])
  kept_push nt nf new free = record {
    struck = struck_more ∙ ap (λ b. cond b kept (kept ++ l ∷ [])) (neither (same_tells l False));
    untrue = still_untrue nt;
    unopposed = opposed_more ∙ old (same_tells (opposite l) False);
  }
    where
      neither : ((same l False ≡ true) × (l ≡ False)) ⊎ ((same l False ≡ false) × (l ≡ False → ⊥)) → (same l False || has kept l) ≡ false
      neither (inl h) = absurd (nf h.1)
      neither (inr h) = or_false (same l False) (has kept l) h.0 new
        where
          or_false : (a b : Bool) → a ≡ false → b ≡ false → (a || b) ≡ false
          or_false a b e f = grind arith

      old : ((same (opposite l) False ≡ true) × (opposite l ≡ False)) ⊎ ((same (opposite l) False ≡ false) × (opposite l ≡ False → ⊥)) → has (take i c) (opposite l) ≡ false
      old (inl h) = absurd (nt (sym (opposite_opposite l) ∙ ap opposite h.1))
      old (inr h) = last (has (take i c) (opposite l)) (same (opposite l) False) (sym (kept_has (opposite l)) ∙ free) h.0
        where
          last : (a b : Bool) → (a && not b) ≡ false → b ≡ false → a ≡ false
          last a b e f = grind arith

  -- by the role that l plays
  pub role_settles : Plays kept l Settles → written c ≡ []
  role_settles (inl e) = left_true e
  role_settles (inr h) = left_opposite h

  pub role_idle : Plays kept l Idle → Kept c (i + 1) kept
  role_idle (inl e) = kept_false e
  role_idle (inr h) = kept_repeat h.0 h.1

  pub role_new : Plays kept l New → Kept c (i + 1) (kept ++ l ∷ [])
  role_new h = kept_push h.0 h.1 h.2 h.3

-- all of the clause has been gone through
pub kept_all : (c : List Literal) (i : ℕ) (kept : List Literal) → length c ≤ i → Kept c i kept → written c ≡ kept ∷ []
kept_all c i kept h k =
    let whole = take_all i c h in
    let none : (has c True || opposed c) ≡ false = or_false (has c True) (opposed c) (ap (λ x. has x True) (sym whole) ∙ k.untrue) (ap opposed (sym whole) ∙ k.unopposed) in
    ap (λ b. cond b [] (struck c ∷ [])) none ∙ ap (λ x. x ∷ []) (ap struck (sym whole) ∙ k.struck)
  where
    or_false : (a b : Bool) → a ≡ false → b ≡ false → (a || b) ≡ false
    or_false a b e f = grind arith
