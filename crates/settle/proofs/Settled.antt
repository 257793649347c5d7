-- Walks one after the other, until one makes no tie. Assumes nothing.
use Rattle.std.proofs.Common.{◌≡◌, ℕ, Bool, true, false, List, Option, Some, None, IfSome, Bor, sym, ◌∙◌, subst}
use Rattle.std.specs.Option.{option_copied}
use Rattle.std.proofs.ByRecursion.{All-weaker}
use Rattle.order.specs.declared.literal.Literal.{Literal}
use Rattle.order.specs.declared.range.Range.{Range}
use Rattle.ties.specs.declared.classes.Ties.{Ties}
use Rattle.ties.specs.Roots.{tied, root_at, free}
use Rattle.ties.specs.Views.{roots_of}
use Rattle.kinds.specs.Meaning.{Meaning}
use Rattle.rows.specs.Rows.{Posted}
use Rattle.theory.specs.Closed.{Closed, Sound, Refused}
use Rattle.theory.proofs.Rounding.{rounds}
use Rattle.theory.proofs.Settling.{settles}
use Rattle.calls.specs.Jobs.{job_of, Seated}
use Rattle.settle.specs.declared.tied.TiedVariables.{TiedVariables}
use Rattle.settle.specs.Moves.{Further}
use Rattle.settle.specs.Tied.{ranges_in, roots_in}
use Rattle.settle.specs.Walks.{AllSeen, StepsOn, Walked}
use Rattle.settle.proofs.Heeding.{further_same, further_through}
use Rattle.settle.proofs.PartsOf.{parts_give_clauses, parts_give_pairings}

module _ (m : ℕ → Meaning) (rs : List Range) (ps : List Posted) where
  -- ties that a walk leaves as they are are closed
  closed_end : (ns : List Literal) → AllSeen m rs ps ns ns → Closed (job_of m rs ps) (tied (root_at ns))
  closed_end ns seen =
      (settles (job_of m rs ps)).closed (root_at ns)
      (parts_give_clauses m rs ps _ (λ k lt. All-weaker _ _ ((rounds rs).sees_end (root_at ns)) _ (seen.parts k lt).clauses))
      (parts_give_pairings m rs ps _ (λ k lt. All-weaker _ _ ((rounds rs).hears_end (root_at ns)) _ (seen.parts k lt).pairings))

  -- before a walk: the ties os have come to t, and unless it is the first, all was seen from the ties before on
  pub record Ready (before : Option Ties) (os : List Literal) (t : TiedVariables) : Type 0 where
    pub same : ranges_in t ≡ rs
    pub further : Further os (roots_in t)
    pub seen : Seated m rs ps → IfSome before (λ b. AllSeen m rs ps (roots_of b) (roots_in t))
    pub sound : Seated m rs ps → Sound (job_of m rs ps) (tied (root_at os)) → Sound (job_of m rs ps) (tied (root_at (roots_in t)))

  pub ready_none : (t : TiedVariables) → ranges_in t ≡ rs → Ready None (roots_in t) t
  ready_none t same = record { same = same; further = further_same t.ties; seen = λ seated. tt; sound = λ seated s. s }

-- what is said of a value is said of the reference to it
if_copied : {X : Type 0} (o : Option (Bor X)) (p : Option X) (P : X → Type 0) → option_copied o ≡ p → IfSome p P → IfSome o (λ b. P b.now)
if_copied None p P e h = tt
if_copied (Some b) p P e h = subst (λ q. IfSome q P) (sym e) h

-- a walk from t to u, and whether it leaves a closed set possible
module _ {m : ℕ → Meaning} {rs : List Range} {ps : List Posted} {before : Option Ties} {os : List Literal} {t : TiedVariables} (ready : Ready m rs ps before os t) (seen : Option (Bor Ties)) (read : option_copied seen ≡ before) (u : TiedVariables) (ok : Bool) (walks : Seated m (ranges_in t) ps → IfSome seen (λ b. AllSeen m (ranges_in t) ps (roots_of b.now) (roots_in t)) → Walked ok m (ranges_in t) ps (roots_in t) (roots_in u)) where
  walked : Seated m rs ps → Walked ok m rs ps (roots_in t) (roots_in u)
  walked seated =
      subst (λ r. Seated m r ps → IfSome seen (λ b. AllSeen m r ps (roots_of b.now) (roots_in t)) → Walked ok m r ps (roots_in t) (roots_in u)) ready.same walks
      seated (if_copied seen before _ read (ready.seen seated))

  pub refused_here : ok ≡ false → Seated m rs ps → Sound (job_of m rs ps) (tied (root_at os)) → Refused (job_of m rs ps)
  refused_here never seated s = subst (λ b. Walked b m rs ps (roots_in t) (roots_in u)) never (walked seated) (ready.sound seated s)

  module _ (kept : ranges_in u ≡ ranges_in t) (still : ok ≡ true) (steps : StepsOn ok (roots_in t) (roots_in u)) where
    further : Further (roots_in t) (roots_in u)
    further = subst (λ b. StepsOn b (roots_in t) (roots_in u)) still steps

    gone : Seated m rs ps → Walked true m rs ps (roots_in t) (roots_in u)
    gone seated = subst (λ b. Walked b m rs ps (roots_in t) (roots_in u)) still (walked seated)

    pub ready_more : (start : Ties) → roots_of start ≡ roots_in t → Ready m rs ps (Some start) os u
    ready_more start same = record {
      same = kept ∙ ready.same;
      further = further_through ready.further further;
      seen = λ seated. subst (λ s. AllSeen m rs ps s (roots_in u)) (sym same) (gone seated).0;
      sound = λ seated s. (gone seated).1 (ready.sound seated s);
    }

    -- one that makes no tie
    pub closed_here : free (roots_in u) ≡ free (roots_in t) → Seated m rs ps → Closed (job_of m rs ps) (tied (root_at (roots_in u)))
    closed_here e seated = closed_end m rs ps (roots_in u) (subst (λ s. AllSeen m rs ps s (roots_in u)) (sym (further.stays e)) (gone seated).0)
