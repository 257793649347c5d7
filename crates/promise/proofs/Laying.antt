-- Each permitted layout is that of exactly one solution of the job's rules. Assumes nothing.
use Rattle.std.proofs.Common.{◌≡◌, ℕ, ◌<◌, ◌≤◌, true, cond, ltb, leb, List, [], ◌∷◌, map, length, is_ok, Ok, Err, vec_items, Result, sym, refl, ap, ◌∙◌, subst, inl, inr, arith}
use Rattle.std.specs.List.{AllByRecursion}
use Rattle.std.proofs.lemmas.List.{get_or_past}
use Rattle.std.proofs.ByRecursion.{All-map}
use Rattle.std.proofs.lemmas.Bool.Decides.{nat_tests}
use Rattle.std.proofs.lemmas.Bool.{false≢true, cases_lt, and_parts, leb-true}
use Rattle.order.specs.declared.range.Range.{Range}
use Rattle.order.specs.Ranges.{low, high, range, no_range}
use Rattle.kinds.specs.declared.item.Item.{Item}
use Rattle.kinds.specs.Items.{variable_of, is_variable, names}
use Rattle.linear.specs.Leq.{leq}
use Rattle.linear.specs.Plus.{plus}
use Rattle.linear.specs.Same.{same}
use Rattle.theory.specs.Jobs.{Solves}
use Rattle.theory.specs.Rows.{Row}
use Rattle.calls.specs.declared.call.Call.{Call}
use Rattle.calls.specs.declared.call.Call.TheVariants.{Declare, Post, Total, Settle}
use Rattle.calls.specs.declared.call.Reply.TheVariants.{Placed, Settled}
use Rattle.calls.specs.declared.refusal.Refusal.{Refusal}
use Rattle.calls.specs.Catalogues.{Catalogue, LawfulAll, based}
use Rattle.calls.specs.Declares.{declare_questions, declaring}
use Rattle.calls.specs.Jobs.{posted_row}
use Rattle.calls.specs.Posts.{all_declared, post_questions, posting}
use Rattle.calls.specs.Runs.{Answer, Asks, TiesUp, Step, Steps, Runs}
use Rattle.calls.specs.Settles.{rules}
use Rattle.calls.specs.Totals.{highs, total_questions, totalled, totalling}
use Rattle.calls.specs.View.{View, new_view, with_variable, with_row, with_ties, is_declared}
use Rattle.calls.proofs.Answering.{answered_yes}
use Rattle.calls.proofs.BasedKinds.{lawful_based}
use Rattle.calls.proofs.Sitting.{names_below, declared_below}
use Rattle.promise.specs.Layouts.{sum_of, related, holds_call, HoldsAll, SameLayout, LayoutsSolve}
use Rattle.promise.proofs.LayParts.{Solved, Laid, laid_as, declared_there, row_laid, declared_laid}
use Rattle.promise.proofs.LayTotals.{total_laid}

-- a new job has one layout
new_laid : (k : Catalogue) → Laid k new_view (λ u. Unit {0})
new_laid k = record {
  beside = refl;
  stays = λ w w' same all. tt;
  extends = λ u i p. (u, (record { inside = λ x l. absurd (omega arith); meets = tt }, λ x g. refl));
  holds = λ w s. tt;
  only = λ w w' s s' same x l. absurd (omega arith);
}

-- declared items name declared variables
named_same : (v : View) (w u : ℕ → ℕ) → SameLayout v w u → (items : List Item) → all_declared v items ≡ true → (x : ℕ) → names items x ≡ true → w x ≡ u x
named_same v w u alike [] h x g = absurd (false≢true g)
named_same v w u alike (i ∷ items) h x g = grind (arith, nat_tests, alike (variable_of i), named_same v w u alike items)

-- what is left of P with one call more
abbrev Asked : Catalogue → ((ℕ → ℕ) → Type 0) → Call → Answer → (ℕ → ℕ) → Type 0
Asked k P c a u = P u × (is_ok a ≡ true → holds_call k u c ≡ true)

module _ (k : Catalogue) (P : (ℕ → ℕ) → Type 0) (v : View) (l : Laid k v P) where
  asks_laid : (c : Call) (r : Result (ℕ × View) Refusal) (a : Answer) (v' : View) → ((x : ℕ) → r ≡ Ok (x, v') → Laid k v' (λ u. P u × (holds_call k u c ≡ true))) → Asks r v a v' → Laid k v' (Asked k P c a)
  asks_laid c r (Ok (Placed x)) v' placed s = laid_as (λ u. P u × (holds_call k u c ≡ true)) (Asked k P c (Ok (Placed x))) (λ u q. (q.0, q.1 refl)) (λ u q. (q.0, λ _. q.1)) (placed x s)
  asks_laid c r (Ok (Settled b m n)) v' placed s = absurd s
  asks_laid c r (Err q) v' placed s = subst (λ v. Laid k v (Asked k P c (Err q))) (sym s.1) (laid_as P (Asked k P c (Err q)) (λ u p. p.0) (λ u p. (p, λ e. absurd (false≢true e))) l)

  settle_laid : (a : Answer) (v' : View) → TiesUp k v a v' → Laid k v' (Asked k P Settle a)
  settle_laid (Ok (Placed x)) v' s = absurd s
  settle_laid (Err q) v' s = absurd s
  settle_laid (Ok (Settled b m n)) v' s =
      let tied : Laid k (with_ties v v'.root b) P = record { beside = l.beside; stays = l.stays; extends = l.extends; holds = l.holds; only = l.only } in
      subst (λ v. Laid k v (Asked k P Settle (Ok (Settled b m n)))) (sym s.counted.after) (laid_as P (Asked k P Settle (Ok (Settled b m n))) (λ u p. p.0) (λ u p. (p, λ _. refl)) tied)

  declare_laid : (low high x : ℕ) (v' : View) → declaring v low high ≡ Ok (x, v') → Laid k v' (λ u. P u × (true ≡ true))
  declare_laid low high x v' e =
      let w : View = with_variable v true (range low high) in
      subst (λ v. Laid k v (λ u. P u × (true ≡ true))) (answered_yes (declare_questions v low high) (length v.ranges) x w v' e).1
      (laid_as P (λ u. P u × (true ≡ true)) (λ u p. p.0) (λ u p. (p, refl)) (declared_laid k v (range low high) P l))

  module _ (law : LawfulAll k) where
    post_laid : (code : ℕ) (items : List Item) (x : ℕ) (v' : View) → posting k v code items ≡ Ok (x, v') → Laid k v' (λ u. P u × ((k.meaning code).meets items u ≡ true))
    post_laid code items x v' e =
        let yes = answered_yes (post_questions k v code items) (length v.rows) x (with_row v code items) v' e in
        let formed : (k.meaning code).formed items ≡ true = yes.0.1.0 in
        let declared : all_declared v items ≡ true = yes.0.1.1.0 in
        let Q : (ℕ → ℕ) → Type 0 = λ u. (k.meaning code).meets items u ≡ true in
        subst (λ v. Laid k v (λ u. P u × ((k.meaning code).meets items u ≡ true))) yes.1
        (row_laid k law v code items P Q formed (names_below (length v.ranges) items (declared_below v l.beside items declared))
        (λ u w sol alike q. (law code).same_meets items w u formed (named_same v w u alike items declared) ∙ q) (λ w sol met. met) l)

    module _ (one : k.meaning 1 ≡ plus) (two : k.meaning 2 ≡ leq) (three : k.meaning 3 ≡ same) where
      totalling_laid : (relation : ℕ) (target : Item) (items : List Item) (x : ℕ) (v' : View) → totalling v relation target items ≡ Ok (x, v') → Laid k v' (λ u. P u × (related relation (sum_of u items) (u (variable_of target)) ≡ true))
      totalling_laid relation target items x v' e =
          let w : View = totalled v relation (variable_of target) items in
          let yes = answered_yes (total_questions v w relation target items) _ x w v' e in
          let some = (and_parts (leb 1 (length items)) _ (and_parts (is_variable target) _ yes.0.1.0).1).0 in
          let declared = and_parts (is_declared v (variable_of target)) (all_declared v items) yes.0.1.1.0 in
          subst (λ v. Laid k v (λ u. P u × (related relation (sum_of u items) (u (variable_of target)) ≡ true))) yes.1
          (total_laid k law one two three v relation (variable_of target) items P (leb-true 1 (length items) some) declared.0 declared.1 (leb-true (highs v.ranges items) 255 yes.0.1.1.1.0) l)

      step_laid : (c : Call) (a : Answer) (v' : View) → Step k v c a v' → Laid k v' (Asked k P c a)
      step_laid (Declare low high) a v' = asks_laid (Declare low high) (declaring v low high) a v' (λ x. declare_laid low high x v')
      step_laid (Post code items) a v' = asks_laid (Post code items) (posting k v code (vec_items items)) a v' (λ x. post_laid code (vec_items items) x v')
      step_laid (Total relation target items) a v' = asks_laid (Total relation target items) (totalling v relation target (vec_items items)) a v' (λ x. totalling_laid relation target (vec_items items) x v')
      step_laid Settle a v' = settle_laid a v'

module _ (k : Catalogue) (law : LawfulAll k) (one : k.meaning 1 ≡ plus) (two : k.meaning 2 ≡ leq) (three : k.meaning 3 ≡ same) where
  steps_laid : (P : (ℕ → ℕ) → Type 0) (v : View) (cs : List Call) (answers : List Answer) (v' : View) → Steps k v cs answers v' → Laid k v P → Laid k v' (λ u. P u × HoldsAll k u cs answers)
  steps_laid P v [] [] v' s l = subst (λ v. Laid k v (λ u. P u × Unit {0})) s (laid_as P (λ u. P u × Unit {0}) (λ u p. p.0) (λ u p. (p, tt)) l)
  steps_laid P v [] (a ∷ more) v' s l = absurd s
  steps_laid P v (c ∷ cs) [] v' s l = absurd s
  steps_laid P v (c ∷ cs) (a ∷ more) v' s l =
      laid_as (λ u. Asked k P c a u × HoldsAll k u cs more) (λ u. P u × HoldsAll k u (c ∷ cs) (a ∷ more))
      (λ u p. ((p.0, p.1.0), p.1.1)) (λ u p. (p.0.0, (p.0.1, p.1)))
      (steps_laid (Asked k P c a) s.0 cs more v' s.1.1 (step_laid k P v l law one two three c a s.0 s.1.0))

-- what holds of each item of a map
all_mapped : {X Y : Type 0} (P : Y → Type 0) (f : X → Y) (xs : List X) → AllByRecursion P (map f xs) → AllByRecursion (λ x. P (f x)) xs
all_mapped P f [] h = tt
all_mapped P f (x ∷ xs) h = (h.0, all_mapped P f xs h.1)

-- values that are 0 from n on
abbrev cut : ℕ → (ℕ → ℕ) → ℕ → ℕ
cut n w x = cond (ltb x n) (w x) 0

cut_before : (n : ℕ) (w : ℕ → ℕ) (x : ℕ) → x < n → w x ≡ cut n w x
cut_before n w x l = grind (arith, nat_tests)

cut_past : (n : ℕ) (w : ℕ → ℕ) (x : ℕ) → n ≤ x → cut n w x ≡ 0
cut_past n w x l = grind (arith, nat_tests)

-- a variable that is not there is 0
past_low : (rs : List Range) (x : ℕ) → length rs ≤ x → low rs x ≡ 0
past_low rs x l = ap (λ (r : Range). r.low) (get_or_past rs x no_range l)

past_high : (rs : List Range) (x : ℕ) → length rs ≤ x → high rs x ≡ 0
past_high rs x l = ap (λ (r : Range). r.high) (get_or_past rs x no_range l)

module _ (k : Catalogue) (cs : List Call) (answers : List Answer) (v : View) (l : Laid k v (λ u. Unit {0} × HoldsAll k u cs answers)) where
  abbrev n : ℕ
  n = length v.ranges

  solves : (w : ℕ → ℕ) → Solved k v.ranges v.rows w → Solves (rules k v) (cut n w)
  solves w s = record {
    in_range = record {
      above = λ x. elim (cases_lt x n) [
        | inl b ↦ omega (arith, (s.inside x b).0, cut_before n w x b)
        | inr b ↦ omega (arith, past_low v.ranges x b)
      ];
      below = λ x. elim (cases_lt x n) [
        | inl b ↦ omega (arith, (s.inside x b).1, cut_before n w x b)
        | inr b ↦ omega (arith, cut_past n w x b)
      ];
    };
    meets = All-map (λ (r : Row). r.meets (cut n w) ≡ true) (posted_row k.meaning v.ranges) v.rows (l.stays w (cut n w) (cut_before n w) s.meets);
  }

  solved : (w : ℕ → ℕ) → Solves (rules k v) w → Solved k v.ranges v.rows w
  solved w s = record {
    inside = λ x b. (s.in_range.above x, s.in_range.below x);
    meets = all_mapped (λ (r : Row). r.meets w ≡ true) (posted_row k.meaning v.ranges) v.rows s.meets;
  }

  laid_solve : LayoutsSolve k cs answers v
  laid_solve = record {
    extends = λ u p.
        let o = l.extends u (λ x g. (p.above x g, p.below x g)) (tt, p.holds) in
        (cut n o.0, (solves o.0 o.1.0, λ x g. sym (cut_before n o.0 x (declared_there v l.beside x g)) ∙ o.1.1 x g));
    permitted = λ w s. record { above = λ x g. s.in_range.above x; below = λ x g. s.in_range.below x; holds = (l.holds w (solved w s)).1 };
    only = λ w w' s s' same x. elim (cases_lt x n) [
      | inl b ↦ l.only w w' (solved w s) (solved w' s') same x b
      | inr b ↦ omega (arith, past_high v.ranges x b, s.in_range.below x, s'.in_range.below x)
    ];
  }

pub layouts_solve : (k : Catalogue) → LawfulAll k → (cs : List Call) (answers : List Answer) (v : View) → Runs (based k) cs answers v → LayoutsSolve (based k) cs answers v
layouts_solve k law cs answers v run =
    laid_solve (based k) cs answers v (steps_laid (based k) (lawful_based k law) refl refl refl (λ u. Unit {0}) new_view cs answers v run (new_laid (based k)))
