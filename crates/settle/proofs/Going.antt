-- How far a walk over the parts of a job has come, and what it has kept. Assumes nothing.
use Rattle.std.proofs.Common.{◌≡◌, ℕ, ◌+◌, ◌<◌, ◌≤◌, true, false, List, length, get_or, take, Option, Some, None, IfSome, IsSomeAnd, Bor, sym, refl, ◌∙◌, subst, arith, below_more}
use Rattle.std.specs.List.{ContainsAt, AllByRecursion}
use Rattle.std.proofs.lemmas.List.{take_all}
use Rattle.std.proofs.ByRecursion.{All-weaker, All-more}
use Rattle.order.specs.declared.bound.Bound.{Bound}
use Rattle.order.specs.declared.literal.Literal.{Literal}
use Rattle.order.specs.declared.range.Range.{Range}
use Rattle.ties.specs.declared.classes.Ties.{Ties}
use Rattle.ties.specs.Roots.{tied, root_at}
use Rattle.ties.specs.Views.{roots_of}
use Rattle.kinds.specs.Items.{Pairing}
use Rattle.kinds.specs.Meaning.{Meaning, Lawful}
use Rattle.rows.specs.Rows.{Posted}
use Rattle.theory.specs.Jobs.{clauses, pairings}
use Rattle.theory.specs.Closed.{Sound}
use Rattle.theory.specs.Rounds.{Rooted, Onward, Still, Seen, Heard}
use Rattle.theory.proofs.Rounding.{rounds}
use Rattle.theory.proofs.Stretches.{all_both}
use Rattle.calls.specs.Jobs.{job_of, Seated}
use Rattle.settle.specs.declared.tied.TiedVariables.{TiedVariables}
use Rattle.settle.specs.Moves.{Further, Heeded, Followed}
use Rattle.settle.specs.Parts.{part_clauses, part_pairings, part_names}
use Rattle.settle.specs.Tied.{ranges_in, roots_in}
use Rattle.settle.specs.Walks.{PartSeen, SeenBelow, AllSeen, Walked}
use Rattle.settle.proofs.Heeding.{further_same, further_through}
use Rattle.settle.proofs.PartsOf.{job_has_clause, job_has_pairing, clauses_still, pairings_still}

onward_itself : {f : ℕ → Literal} → Rooted f → Onward f f
onward_itself r = record { before = r; after = r; more = λ x y h. h }

-- a value of which one thing is said for sure, and another if it is there
seen_and : {X : Type 0} (o : Option X) {P Q : X → Type 0} → IsSomeAnd o P → IfSome o Q → (x : X) × P x × Q x
seen_and None h k = absurd h
seen_and (Some x) h k = (x, h, k)

-- roots that go on from e to f to g
module _ (rs : List Range) {e f g : ℕ → Literal} (p : Onward e f) (q : Onward f g) where
  seen_on : (c : List Bound) → Seen rs e f c → Seen rs e g c
  seen_on = (rounds rs).sees_longer e e f g (onward_itself p.before) p q

  heard_on : (x : Pairing) → Heard rs e f x → Heard rs e g x
  heard_on = (rounds rs).hears_longer e e f g (onward_itself p.before) p q

  seen_from : (c : List Bound) → Seen rs f g c → Seen rs e g c
  seen_from = (rounds rs).sees_longer e f g g p q (onward_itself q.after)

  heard_from : (x : Pairing) → Heard rs f g x → Heard rs e g x
  heard_from = (rounds rs).hears_longer e f g g p q (onward_itself q.after)

module _ (m : ℕ → Meaning) (rs : List Range) (ps : List Posted) where
  -- what was seen between the roots os and ns: the parts below n, and of the part at n the first i clauses and the
  -- first h pairings
  pub record Gone (os ns : List Literal) (n i h : ℕ) : Type 0 where
    pub parts : SeenBelow m rs ps os ns n
    pub clauses : AllByRecursion (Seen rs (root_at os) (root_at ns)) (take i (part_clauses m rs ps n))
    pub pairings : AllByRecursion (Heard rs (root_at os) (root_at ns)) (take h (part_pairings m rs ps n))
    pub sound : Sound (job_of m rs ps) (tied (root_at os)) → Sound (job_of m rs ps) (tied (root_at ns))

  -- what a walk may take for granted: each row sits, and unless it is the first, all was seen from the ties before on
  pub record Given (before : Option (Bor Ties)) (os : List Literal) : Type 0 where
    pub seated : Seated m rs ps
    pub seen : IfSome before (λ b. AllSeen m rs ps (roots_of b.now) os)

  pub record Going (before : Option (Bor Ties)) (os : List Literal) (t : TiedVariables) (n i h : ℕ) : Type 0 where
    pub same : ranges_in t ≡ rs
    pub further : Further os (roots_in t)
    pub gone : Given before os → Gone os (roots_in t) n i h

  pub going_none : (before : Option (Bor Ties)) (t : TiedVariables) → ranges_in t ≡ rs → Going before (roots_in t) t 0 0 0
  going_none before t same = record {
    same = same;
    further = further_same t.ties;
    gone = λ given. record { parts = λ k lt. absurd (omega arith); clauses = tt; pairings = tt; sound = λ s. s };
  }

  -- roots that go on from os to ns to ms
  module _ (os ns ms : List Literal) (p : Onward (root_at os) (root_at ns)) (q : Onward (root_at ns) (root_at ms)) where
    part_on : (k : ℕ) → PartSeen m rs ps os ns k → PartSeen m rs ps os ms k
    part_on k h = record { clauses = All-weaker _ _ (seen_on rs p q) _ h.clauses; pairings = All-weaker _ _ (heard_on rs p q) _ h.pairings }

    gone_on : {n i h : ℕ} → Gone os ns n i h → (Sound (job_of m rs ps) (tied (root_at ns)) → Sound (job_of m rs ps) (tied (root_at ms))) → Gone os ms n i h
    gone_on g s = record {
      parts = λ k lt. part_on k (g.parts k lt);
      clauses = All-weaker _ _ (seen_on rs p q) _ g.clauses;
      pairings = All-weaker _ _ (heard_on rs p q) _ g.pairings;
      sound = λ x. s (g.sound x);
    }

module _ {m : ℕ → Meaning} {rs : List Range} {ps : List Posted} {before : Option (Bor Ties)} {os : List Literal} {t : TiedVariables} {n i h : ℕ} (going : Going m rs ps before os t n i h) where
  -- one part more
  next : (Given m rs ps before os → PartSeen m rs ps os (roots_in t) n) → Going m rs ps before os t (n + 1) 0 0
  next here = record {
    same = going.same;
    further = going.further;
    gone = λ given. record { parts = below_more _ n (going.gone given).parts (here given); clauses = tt; pairings = tt; sound = (going.gone given).sound };
  }

  pub going_part : length (part_clauses m rs ps n) ≤ i → length (part_pairings m rs ps n) ≤ h → Going m rs ps before os t (n + 1) 0 0
  going_part all past = next (λ given. record {
    clauses = subst (AllByRecursion _) (take_all i (part_clauses m rs ps n) all) (going.gone given).clauses;
    pairings = subst (AllByRecursion _) (take_all h (part_pairings m rs ps n) past) (going.gone given).pairings;
  })

  -- the walk is over
  pub going_end : length rs + length ps ≤ n → Given m rs ps before os → Walked true m rs ps os (roots_in t)
  going_end le given = (
    record { onward = going.further.onward; parts = λ k lt. (going.gone given).parts k (omega arith) },
    (going.gone given).sound,
  )

  module _ (inside : n < length rs + length ps) where
    -- the clause at place i
    module _ {c : List Bound} (lt : i < length (part_clauses m rs ps n)) (is : c ≡ get_or (part_clauses m rs ps n) i c) where
      has_clause : ContainsAt (clauses (job_of m rs ps)) c
      has_clause = subst (ContainsAt (clauses (job_of m rs ps))) (sym is) (job_has_clause m rs ps n inside i c lt)

      pub going_clause : (u : TiedVariables) → Heeded true (ranges_in t) c (roots_in t) (roots_in u) → ranges_in u ≡ ranges_in t → Going m rs ps before os u n (i + 1) h
      going_clause u heeded kept =
          let here = subst (λ r. Heeded true r c (roots_in t) (roots_in u)) going.same heeded in
          record {
            same = kept ∙ going.same;
            further = further_through going.further here.0;
            gone = λ given.
                let g = gone_on m rs ps os (roots_in t) (roots_in u) going.further.onward here.0.onward (going.gone given) (here.2 (job_of m rs ps) refl has_clause) in
                record {
                  parts = g.parts;
                  clauses = All-more _ (part_clauses m rs ps n) i c lt g.clauses (subst (Seen rs (root_at os) (root_at (roots_in u))) is (seen_from rs going.further.onward here.0.onward c here.1));
                  pairings = g.pairings;
                  sound = g.sound;
                };
          }

      pub refuses_clause : (ms : List Literal) → Heeded false (ranges_in t) c (roots_in t) ms → Given m rs ps before os → Walked false m rs ps os ms
      refuses_clause ms heeded given sound = heeded (job_of m rs ps) (sym going.same) has_clause ((going.gone given).sound sound)

    -- the pairing at place h
    module _ {p : Pairing} (lt : h < length (part_pairings m rs ps n)) (is : p ≡ get_or (part_pairings m rs ps n) h p) where
      has_pairing : ContainsAt (pairings (job_of m rs ps)) p
      has_pairing = subst (ContainsAt (pairings (job_of m rs ps))) (sym is) (job_has_pairing m rs ps n inside h p lt)

      pub going_pairing : (u : TiedVariables) → Followed true (ranges_in t) p (roots_in t) (roots_in u) → ranges_in u ≡ ranges_in t → Going m rs ps before os u n i (h + 1)
      going_pairing u followed kept =
          let here = subst (λ r. Followed true r p (roots_in t) (roots_in u)) going.same followed in
          record {
            same = kept ∙ going.same;
            further = further_through going.further here.0;
            gone = λ given.
                let g = gone_on m rs ps os (roots_in t) (roots_in u) going.further.onward here.0.onward (going.gone given) (here.2 (job_of m rs ps) refl has_pairing) in
                record {
                  parts = g.parts;
                  clauses = g.clauses;
                  pairings = All-more _ (part_pairings m rs ps n) h p lt g.pairings (subst (Heard rs (root_at os) (root_at (roots_in u))) is (heard_from rs going.further.onward here.0.onward p here.1));
                  sound = g.sound;
                };
          }

      pub refuses_pairing : (ms : List Literal) → Followed false (ranges_in t) p (roots_in t) ms → Given m rs ps before os → Walked false m rs ps os ms
      refuses_pairing ms followed given sound = followed (job_of m rs ps) (sym going.same) has_pairing ((going.gone given).sound sound)

    -- the part is passed over where its roots have stayed
    pub going_over : (law : (code : ℕ) → Lawful (m code)) → IsSomeAnd before (λ b. (x : Bound) → part_names (ranges_in t) ps n x.variable ≡ true → Still (ranges_in t) (root_at (roots_of b.now)) (root_at (roots_in t)) x) → Going m rs ps before os t (n + 1) 0 0
    going_over law still = next (λ given.
        let both = seen_and before still given.seen in
        let here = subst (λ r. (x : Bound) → part_names r ps n x.variable ≡ true → Still r (root_at (roots_of both.0.now)) (root_at (roots_in t)) x) going.same both.1 in
        let seen = part_on m rs ps (roots_of both.0.now) os (roots_in t) both.2.onward going.further.onward n (both.2.parts n inside) in
        record {
          clauses = all_both _ _ _ (λ c s k _. k s) _ (clauses_still m rs ps n inside law given.seated (root_at (roots_of both.0.now)) (root_at (roots_in t)) here) seen.clauses;
          pairings = all_both _ _ _ (λ x s k _. k s) _ (pairings_still m rs ps n inside law given.seated (root_at (roots_of both.0.now)) (root_at (roots_in t)) here) seen.pairings;
        })
