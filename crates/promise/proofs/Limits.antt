-- A job never has more than 4,096 bits, whatever calls it was given. Assumes nothing.
use Rattle.std.proofs.Common.{◌≡◌, ℕ, ◌+◌, ◌-◌, ◌≤◌, true, List, [], ◌∷◌, length, Ok, Err, vec_items, Result, sym, subst, arith, lit≤}
use Rattle.std.proofs.lemmas.Bool.{leb-true}
use Rattle.order.specs.Ranges.{range, total_bits}
use Rattle.kinds.specs.declared.item.Item.{Item}
use Rattle.kinds.specs.Items.{variable_of}
use Rattle.calls.specs.declared.call.Call.{Call}
use Rattle.calls.specs.declared.call.Call.TheVariants.{Declare, Post, Total, Settle}
use Rattle.calls.specs.declared.call.Reply.TheVariants.{Placed, Settled}
use Rattle.calls.specs.declared.refusal.Refusal.{Refusal}
use Rattle.calls.specs.Catalogues.{Catalogue}
use Rattle.calls.specs.Declares.{declare_questions, declaring}
use Rattle.calls.specs.Posts.{post_questions, posting}
use Rattle.calls.specs.Runs.{Answer, Asks, TiesUp, Step, Steps, Runs}
use Rattle.calls.specs.Totals.{total_questions, totalled, totalling}
use Rattle.calls.specs.View.{View, new_view, with_variable, with_row}
use Rattle.calls.proofs.Answering.{answered_yes}
use Rattle.calls.proofs.Summing.{bits_push}

abbrev FewBits : View → Type 0
FewBits v = total_bits v.ranges ≤ 4096

asks_few : (r : Result (ℕ × View) Refusal) (v : View) (a : Answer) (v' : View) → ((x : ℕ) → r ≡ Ok (x, v') → FewBits v → FewBits v') → Asks r v a v' → FewBits v → FewBits v'
asks_few r v (Ok (Placed x)) v' few s h = few x s h
asks_few r v (Ok (Settled b m n)) v' few s h = absurd s
asks_few r v (Err q) v' few s h = subst FewBits (sym s.1) h

ties_few : (k : Catalogue) (v : View) (a : Answer) (v' : View) → TiesUp k v a v' → FewBits v → FewBits v'
ties_few k v (Ok (Placed x)) v' s h = absurd s
ties_few k v (Ok (Settled b m n)) v' s h = subst FewBits (sym s.counted.after) h
ties_few k v (Err q) v' s h = absurd s

declare_few : (v : View) (low high x : ℕ) (v' : View) → declaring v low high ≡ Ok (x, v') → FewBits v → FewBits v'
declare_few v low high x v' e _ =
    let yes = answered_yes (declare_questions v low high) (length v.ranges) x (with_variable v true (range low high)) v' e in
    let room : total_bits v.ranges + (high - low) ≤ 4096 = leb-true (total_bits v.ranges + (high - low)) 4096 yes.0.1.1.0 in
    subst FewBits yes.1 (omega (arith, bits_push v.ranges (range low high)))

module _ (k : Catalogue) where
  post_few : (v : View) (code : ℕ) (items : List Item) (x : ℕ) (v' : View) → posting k v code items ≡ Ok (x, v') → FewBits v → FewBits v'
  post_few v code items x v' e h =
      subst FewBits (answered_yes (post_questions k v code items) (length v.rows) x (with_row v code items) v' e).1 h

  total_few : (v : View) (relation : ℕ) (target : Item) (items : List Item) (x : ℕ) (v' : View) → totalling v relation target items ≡ Ok (x, v') → FewBits v → FewBits v'
  total_few v relation target items x v' e _ =
      let w : View = totalled v relation (variable_of target) items in
      let yes = answered_yes (total_questions v w relation target items) _ x w v' e in
      subst FewBits yes.1 (leb-true (total_bits w.ranges) 4096 yes.0.1.1.1.1.1.0)

  step_few : (v : View) (c : Call) (a : Answer) (v' : View) → Step k v c a v' → FewBits v → FewBits v'
  step_few v (Declare low high) a v' = asks_few (declaring v low high) v a v' (λ x. declare_few v low high x v')
  step_few v (Post code items) a v' = asks_few (posting k v code (vec_items items)) v a v' (λ x. post_few v code (vec_items items) x v')
  step_few v (Total relation target items) a v' = asks_few (totalling v relation target (vec_items items)) v a v' (λ x. total_few v relation target (vec_items items) x v')
  step_few v Settle a v' = ties_few k v a v'

  steps_few : (v : View) (cs : List Call) (answers : List Answer) (v' : View) → Steps k v cs answers v' → FewBits v → FewBits v'
  steps_few v [] [] v' s h = subst FewBits s h
  steps_few v [] (a ∷ more) v' s h = absurd s
  steps_few v (c ∷ cs) [] v' s h = absurd s
  steps_few v (c ∷ cs) (a ∷ more) v' s h = steps_few s.0 cs more v' s.1.1 (step_few v c a s.0 s.1.0 h)

  pub runs_few : (cs : List Call) (answers : List Answer) (v : View) → Runs k cs answers v → total_bits v.ranges ≤ 4096
  runs_few cs answers v s = steps_few new_view cs answers v s (lit≤ tt)
