-- What a look leaves as long as roots stay, and why it lasts. Assumes nothing.
use Rattle.std.proofs.Common.{◌≡◌, ℕ, ◌≤◌, true, false, not, List, [], ◌∷◌, map, sym, refl, ap, ◌∙◌, subst, inl, inr, arith}
use Rattle.std.specs.List.{AllByRecursion}
use Rattle.std.proofs.ByRecursion.{All-weaker}
use Rattle.std.proofs.lemmas.Bool.{false≢true, and_parts, or_cases, or_left}
use Rattle.std.proofs.lemmas.Bool.Decides.{nat_tests}
use Rattle.order.specs.declared.bound.Bound.{Bound}
use Rattle.order.specs.declared.literal.Literal.{Literal}
use Rattle.order.specs.declared.literal.Literal.TheVariants.{False, True}
use Rattle.order.specs.declared.range.Range.{Range}
use Rattle.order.specs.Bounds.{literal, literals}
use Rattle.order.specs.Literals.{same}
use Rattle.order.specs.Ranges.{total_bits}
use Rattle.order.proofs.Signs.{same_itself, equal_from_same}
use Rattle.ties.specs.Roots.{rank, root_by, tied, there, Fixed}
use Rattle.ties.proofs.Equivalences.{root_by_twice, roots_tie, tied_roots, tied_to_root, root_first}
use Rattle.kinds.specs.declared.item.Tie.{Tie}
use Rattle.kinds.specs.Items.{Pairing}
use Rattle.cnf.specs.Numbered.{rooted}
use Rattle.cnf.specs.Reduced.{has, struck, written, opposed}
use Rattle.cnf.proofs.Inside.{literal_there, root_there, written_is}
use Rattle.cnf.proofs.Keeping.{left_out}
use Rattle.cnf.proofs.Reducing.{has_struck}
use Rattle.theory.specs.Jobs.{reduced}
use Rattle.theory.specs.Closed.{Pairs, Stands}
use Rattle.theory.specs.Steps.{Long}
use Rattle.theory.specs.Rounds.{Rooted, Onward, Still, StillTie, StillPairing, Seen, Round, Rounds}

-- the order tells the literals of bits that are there
rank_one : (n : ℕ) (a b : Literal) → there n a ≡ true → there n b ≡ true → rank a ≡ rank b → a ≡ b
rank_one n a b h k e = grind (arith, nat_tests)

onward_through : {e f g : ℕ → Literal} → Onward e f → Onward f g → Onward e g
onward_through p q = record { before = p.before; after = q.after; more = λ x y h. q.more x y (p.more x y h) }

-- ties that grow only lower the roots
falls : {f g : ℕ → Literal} → Onward f g → (l : Literal) → rank (root_by g l) ≤ rank (root_by f l)
falls {f} {g} p l = root_first g p.after.lower l (root_by f l) (p.more l (root_by f l) (tied_to_root f p.before.fixed l))

module _ (rs : List Range) where
  there_by : (f : ℕ → Literal) → Rooted f → (b : Bound) → there (total_bits rs) (root_by f (literal rs b)) ≡ true
  there_by f r b = root_there f r.named (total_bits rs) (literal rs b) (literal_there rs b)

  -- a root that is the same at both ends was the same in between
  middle : {e f h : ℕ → Literal} → Onward e f → Onward f h → (b : Bound) → Still rs e h b → Still rs f h b
  middle {e} {f} {h} p q b s =
      let l = literal rs b in
      rank_one (total_bits rs) (root_by f l) (root_by h l) (there_by f p.after b) (there_by h q.after b)
      (omega (arith, falls p l, falls q l, ap rank s))

  inner : {e f g h : ℕ → Literal} → Onward e f → Onward f g → Onward g h → (b : Bound) → Still rs e h b → Still rs f g b × Still rs g h b
  inner p q r b s =
      let late = middle (onward_through p q) r b s in
      (middle p (onward_through q r) b s ∙ sym late, late)

  inner_tie : {e f g h : ℕ → Literal} → Onward e f → Onward f g → Onward g h → (t : Tie) → StillTie rs e h t → StillTie rs f g t × StillTie rs g h t
  inner_tie p q r t s =
      let a = inner p q r t.left s.0 in
      let b = inner p q r t.right s.1 in
      ((a.0, b.0), (a.1, b.1))

  module _ (f g : ℕ → Literal) where
    still_rooted : (c : List Bound) → AllByRecursion (Still rs f g) c → rooted rs f c ≡ rooted rs g c
    still_rooted [] h = refl
    still_rooted (b ∷ c) h =
        let here = h.0 in
        let rest = still_rooted c h.1 in
        cc

    still_long : (c : List Bound) → AllByRecursion (Still rs f g) c → Long (reduced rs f c) → Long (reduced rs g c)
    still_long c h = subst (λ d. Long (written d)) (still_rooted c h)

    still_stands : (t : Tie) → StillTie rs f g t → Stands rs (tied f) t → Stands rs (tied g) t
    still_stands t s h = roots_tie g _ _ (sym s.0 ∙ tied_roots f _ _ h ∙ s.1)

    stood : (t : Tie) → StillTie rs f g t → Stands rs (tied g) t → Stands rs (tied f) t
    stood t s h = roots_tie f _ _ (s.0 ∙ tied_roots g _ _ h ∙ sym s.1)

    all_stood : (ts : List Tie) → AllByRecursion (StillTie rs f g) ts → AllByRecursion (Stands rs (tied g)) ts → AllByRecursion (Stands rs (tied f)) ts
    all_stood [] s h = tt
    all_stood (t ∷ ts) s h = (stood t s.0 h.0, all_stood ts s.1 h.1)

    still_pairs : (p : Pairing) → StillPairing rs f g p → Pairs rs (tied f) p → Pairs rs (tied g) p
    still_pairs p s h premise = still_stands p.gives s.1 (h (all_stood p.premise s.0 premise))

  -- the literal that is left stands in the clause, and is not true
  module _ (c : List Literal) (u : Literal) (one : written c ≡ (u ∷ []) ∷ []) where
    left_has : has c u ≡ true
    left_has =
        let is : u ∷ [] ≡ struck c = written_is c (u ∷ []) one in
        (and_parts (has c u) (not (same u False))
        (sym (has_struck c u) ∙ ap (λ d. has d u) (sym is) ∙ or_left (same u u) false (same_itself u))).0

    left_open : u ≡ True → ⊥
    left_open e = grind (arith, left_out c (or_left (has c True) (opposed c) (ap (has c) (sym e) ∙ left_has)))

  -- a literal of a clause of roots is its own root
  own_root : (g : ℕ → Literal) → Fixed g → (d : List Literal) (u : Literal) → has (map (root_by g) d) u ≡ true → root_by g u ≡ u
  own_root g fixed [] u h = absurd (false≢true h)
  own_root g fixed (l ∷ d) u h =
      elim (or_cases (same (root_by g l) u) (has (map (root_by g) d) u) h) [
        | inl e ↦ let is = equal_from_same (root_by g l) u e in ap (root_by g) (sym is) ∙ root_by_twice g fixed l ∙ is
        | inr e ↦ own_root g fixed d u e
      ]

  unit_seen : (f g : ℕ → Literal) → Onward f g → (c : List Bound) (u : Literal) → reduced rs f c ≡ (u ∷ []) ∷ [] → tied g u True ≡ true → Seen rs f g c
  unit_seen f g p c u one t still =
      let same-clause = still_rooted f g c still in
      let here : has (rooted rs g c) u ≡ true = ap (λ d. has d u) (sym same-clause) ∙ left_has (rooted rs f c) u one in
      absurd (left_open (rooted rs f c) u one (sym (own_root g p.after.fixed (literals rs c) u here) ∙ tied_roots g u True t))

  round : Round rs
  round = record {
    sees_longer = λ e f g h p q r c seen still. still_long g h c (All-weaker _ _ (λ b s. (inner p q r b s).1) c still) (seen (All-weaker _ _ (λ b s. (inner p q r b s).0) c still));
    hears_longer = λ e f g h p q r x heard still.
        let ts = still.0 in
        let t = inner_tie p q r x.gives still.1 in
        still_pairs g h x (All-weaker _ _ (λ y s. (inner_tie p q r y s).1) x.premise ts, t.1)
        (heard (All-weaker _ _ (λ y s. (inner_tie p q r y s).0) x.premise ts, t.0));
    sees = λ f g c long still. still_long f g c still long;
    hears = λ f g p pairs still. still_pairs f g p still pairs;
    sees_unit = unit_seen;
    hears_tie = λ f g p stands still premise. stands;
    sees_end = λ f c seen. seen (itself f c);
    hears_end = λ f p heard. heard (ties_themselves f p.premise, (refl, refl));
  }
    where
      itself : (f : ℕ → Literal) (c : List Bound) → AllByRecursion (Still rs f f) c
      itself f [] = tt
      itself f (b ∷ c) = (refl, itself f c)

      ties_themselves : (f : ℕ → Literal) (ts : List Tie) → AllByRecursion (StillTie rs f f) ts
      ties_themselves f [] = tt
      ties_themselves f (t ∷ ts) = ((refl, refl), ties_themselves f ts)

pub rounds : Rounds
rounds = round
