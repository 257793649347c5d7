-- Each call keeps the invariant. Assumes nothing.
use Rattle.std.proofs.Common.{◌≡◌, ℕ, zero, suc, true, List, [], ◌∷◌, length, Ok, Err, vec_items, Result, sym, refl, ap, ◌∙◌, subst, arith}
use Rattle.std.proofs.lemmas.Bool.Decides.{nat_tests}
use Rattle.std.proofs.lemmas.Bool.{false≢true}
use Rattle.order.specs.declared.literal.Literal.{Literal}
use Rattle.order.specs.declared.literal.Literal.TheVariants.{False, True, Bit, Not}
use Rattle.order.specs.Literals.{opposite}
use Rattle.order.specs.Ranges.{range}
use Rattle.order.proofs.Signs.{equal_from_same}
use Rattle.ties.specs.Roots.{rank, root_at, root_by}
use Rattle.kinds.specs.declared.item.Item.{Item}
use Rattle.kinds.specs.Items.{variable_of}
use Rattle.linear.specs.Leq.{leq}
use Rattle.linear.specs.Plus.{plus}
use Rattle.linear.specs.Same.{same}
use Rattle.theory.specs.Rounds.{Rooted}
use Rattle.calls.specs.declared.call.Call.{Call}
use Rattle.calls.specs.declared.call.Call.TheVariants.{Declare, Post, Total, Settle}
use Rattle.calls.specs.declared.call.Reply.TheVariants.{Placed, Settled}
use Rattle.calls.specs.declared.refusal.Refusal.{Refusal}
use Rattle.calls.specs.Catalogues.{Catalogue, LawfulAll, based}
use Rattle.calls.specs.Declares.{declare_questions, declaring}
use Rattle.calls.specs.Invariant.{Invariant}
use Rattle.calls.specs.Posts.{post_questions, posting}
use Rattle.calls.specs.Runs.{Answer, Asks, TiesUp, Step, Steps, Keeping, CallsKeep}
use Rattle.calls.specs.Settles.{Triple, Settling}
use Rattle.calls.specs.Totals.{total_questions, totalled, totalling}
use Rattle.calls.specs.View.{View, new_view, with_variable, with_row}
use Rattle.calls.proofs.Answering.{answered_yes}
use Rattle.calls.proofs.BasedKinds.{lawful_based}
use Rattle.calls.proofs.Extending.{variable_keeps, row_keeps}
use Rattle.calls.proofs.Sitting.{names_below, declared_below}
use Rattle.calls.proofs.Totalling.{totalled_keeps}

-- in a new job each literal is its own root
new_bit : (n : ℕ) → root_at [] n ≡ Bit n
new_bit zero = refl
new_bit (suc n) = refl

new_root : (l : Literal) → root_by (root_at []) l ≡ l
new_root False = refl
new_root True = refl
new_root (Bit n) = new_bit n
new_root (Not n) = ap opposite (new_bit n)

new_rooted : Rooted (root_at [])
new_rooted = record {
  lower = λ n. omega (arith, ap rank (new_bit n));
  named = λ n h. grind (arith, nat_tests, new_bit n);
  fixed = λ n. new_root (root_at [] n);
}

pub new_keeps : (k : Catalogue) → Invariant k new_view
new_keeps k = record {
  beside = refl;
  seated = tt;
  rooted = new_rooted;
  sound = λ _ S closed x y h.
      let e : x ≡ y = sym (new_root x) ∙ equal_from_same (root_by (root_at []) x) (root_by (root_at []) y) h ∙ new_root y in
      ap (S x) (sym e) ∙ closed.ties.reflexive x;
  refused = λ e. absurd (false≢true e);
}

pub settle_keeps : (k : Catalogue) (v : View) (t : Triple) (v' : View) → Settling k v t v' → Invariant k v → Invariant k v'
settle_keeps k v t v' s inv = subst (Invariant k) (sym s.counted.after) (record {
  beside = inv.beside;
  seated = inv.seated;
  rooted = s.counted.rooted;
  sound = λ e S closed x y h. (s.ties e x y).0 h S closed;
  refused = s.verdict.0;
})

-- a call that asks questions keeps the invariant where its yes does
asks_keep : (k : Catalogue) (r : Result (ℕ × View) Refusal) (v : View) (a : Answer) (v' : View) → ((x : ℕ) → r ≡ Ok (x, v') → Invariant k v → Invariant k v') → Asks r v a v' → Invariant k v → Invariant k v'
asks_keep k r v (Ok (Placed x)) v' kept s inv = kept x s inv
asks_keep k r v (Ok (Settled b m n)) v' kept s inv = absurd s
asks_keep k r v (Err q) v' kept s inv = subst (Invariant k) (sym s.1) inv

ties_keep : (k : Catalogue) (v : View) (a : Answer) (v' : View) → TiesUp k v a v' → Invariant k v → Invariant k v'
ties_keep k v (Ok (Placed x)) v' s inv = absurd s
ties_keep k v (Ok (Settled b m n)) v' s inv = settle_keeps k v (b, m, n) v' s inv
ties_keep k v (Err q) v' s inv = absurd s

module _ (k : Catalogue) (law : LawfulAll k) where
  pub declare_keeps : (v : View) (low high x : ℕ) (v' : View) → declaring v low high ≡ Ok (x, v') → Invariant k v → Invariant k v'
  declare_keeps v low high x v' e inv =
      let w : View = with_variable v true (range low high) in
      subst (Invariant k) (answered_yes (declare_questions v low high) (length v.ranges) x w v' e).1 (variable_keeps k law v true (range low high) inv)

  pub post_keeps : (v : View) (code : ℕ) (items : List Item) (x : ℕ) (v' : View) → posting k v code items ≡ Ok (x, v') → Invariant k v → Invariant k v'
  post_keeps v code items x v' e inv =
      let yes = answered_yes (post_questions k v code items) (length v.rows) x (with_row v code items) v' e in
      subst (Invariant k) yes.1 (row_keeps k law v code items (record {
        apt = (yes.0.1.0, yes.0.1.1.1.1.0);
        there = names_below (length v.ranges) items (declared_below v inv.beside items yes.0.1.1.0);
      }) inv)

  module _ (one : k.meaning 1 ≡ plus) (two : k.meaning 2 ≡ leq) (three : k.meaning 3 ≡ same) where
    pub total_keeps : (v : View) (relation : ℕ) (target : Item) (items : List Item) (x : ℕ) (v' : View) → totalling v relation target items ≡ Ok (x, v') → Invariant k v → Invariant k v'
    total_keeps v relation target items x v' e inv =
        let w : View = totalled v relation (variable_of target) items in
        let yes = answered_yes (total_questions v w relation target items) _ x w v' e in
        let below = declared_below v inv.beside (target ∷ items) yes.0.1.1.0 in
        subst (Invariant k) yes.1 (totalled_keeps k law one two three v relation (variable_of target) items below.0 below.1 inv)

    pub step_keeps : (v : View) (c : Call) (a : Answer) (v' : View) → Step k v c a v' → Invariant k v → Invariant k v'
    step_keeps v (Declare low high) a v' = asks_keep k (declaring v low high) v a v' (λ x. declare_keeps v low high x v')
    step_keeps v (Post code items) a v' = asks_keep k (posting k v code (vec_items items)) v a v' (λ x. post_keeps v code (vec_items items) x v')
    step_keeps v (Total relation target items) a v' = asks_keep k (totalling v relation target (vec_items items)) v a v' (λ x. total_keeps v relation target (vec_items items) x v')
    step_keeps v Settle a v' = ties_keep k v a v'

    steps_keep : (v : View) (cs : List Call) (answers : List Answer) (v' : View) → Steps k v cs answers v' → Invariant k v → Invariant k v'
    steps_keep v [] [] v' s inv = subst (Invariant k) s inv
    steps_keep v [] (a ∷ more) v' s inv = absurd s
    steps_keep v (c ∷ cs) [] v' s inv = absurd s
    steps_keep v (c ∷ cs) (a ∷ more) v' s inv = steps_keep s.0 cs more v' s.1.1 (step_keeps v c a s.0 s.1.0 inv)

    keeping : Keeping k
    keeping = record {
      start = new_keeps k;
      step = step_keeps;
      runs = λ cs answers v s. steps_keep new_view cs answers v s (new_keeps k);
    }

pub calls_keep : CallsKeep
calls_keep k law = keeping (based k) (lawful_based k law) refl refl refl
