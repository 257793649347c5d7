-- Lists of calls, given in order to a new job: what each answers, and what the job holds then. Assumes nothing.
use Rattle.std.specs.Prelude.{◌≡◌, ℕ, List, [], ◌∷◌, Ok, Err, vec_items, Result}
use Rattle.calls.specs.declared.call.Call.{Call}
use Rattle.calls.specs.declared.call.Call.TheVariants.{Declare, Post, Total, Settle}
use Rattle.calls.specs.declared.call.Reply.{Reply}
use Rattle.calls.specs.declared.call.Reply.TheVariants.{Placed, Settled}
use Rattle.calls.specs.declared.refusal.Refusal.{Refusal}
use Rattle.calls.specs.Catalogues.{Catalogue, LawfulAll, based}
use Rattle.calls.specs.Declares.{declaring}
use Rattle.calls.specs.Invariant.{Invariant}
use Rattle.calls.specs.Posts.{posting}
use Rattle.calls.specs.Settles.{Settling}
use Rattle.calls.specs.Totals.{totalling}
use Rattle.calls.specs.View.{View, new_view}

-- what a call answers: a reply, or the first no
abbrev pub Answer : Type 0
Answer = Result Reply Refusal

-- a call that asks questions answers its place, or is refused and changes nothing
abbrev pub Asks : Result (ℕ × View) Refusal → View → Answer → View → Type 0
Asks r v (Ok (Placed x)) v' = r ≡ Ok (x, v')
Asks r v (Ok (Settled b m n)) v' = ⊥
Asks r v (Err q) v' = (r ≡ Err q) × (v' ≡ v)

-- a settling answers its three things
abbrev pub TiesUp : Catalogue → View → Answer → View → Type 0
TiesUp k v (Ok (Placed x)) v' = ⊥
TiesUp k v (Ok (Settled b m n)) v' = Settling k v (b, m, n) v'
TiesUp k v (Err q) v' = ⊥

-- one call: from the view v, with this answer, to the view v'
abbrev pub Step : Catalogue → View → Call → Answer → View → Type 0
Step k v (Declare low high) a v' = Asks (declaring v low high) v a v'
Step k v (Post code items) a v' = Asks (posting k v code (vec_items items)) v a v'
Step k v (Total relation target items) a v' = Asks (totalling v relation target (vec_items items)) v a v'
Step k v Settle a v' = TiesUp k v a v'

-- calls one after another, each with its answer
abbrev pub Steps : Catalogue → View → List Call → List Answer → View → Type 0
Steps k v [] [] v' = v ≡ v'
Steps k v [] (a ∷ more) v' = ⊥
Steps k v (c ∷ cs) [] v' = ⊥
Steps k v (c ∷ cs) (a ∷ more) v' = (w : View) × (Step k v c a w × Steps k w cs more v')

-- the calls, given in this order to a new job, answered so and left this view
abbrev pub Runs : Catalogue → List Call → List Answer → View → Type 0
Runs k cs answers v = Steps k new_view cs answers v

-- what each call keeps
pub record Keeping (k : Catalogue) : Type 0 where
  pub start : Invariant k new_view
  pub step : (v : View) (c : Call) (a : Answer) (v' : View) → Step k v c a v' → Invariant k v → Invariant k v'
  pub runs : (cs : List Call) (answers : List Answer) (v : View) → Runs k cs answers v → Invariant k v

-- for each job, which knows plus, leq and same, and any others that keep the laws
abbrev pub CallsKeep : Type 0
CallsKeep = (k : Catalogue) → LawfulAll k → Keeping (based k)
