-- One call more after others. Assumes nothing.
use Rattle.std.proofs.Common.{List, [], ◌∷◌, ◌++◌, sym, refl, subst}
use Rattle.calls.specs.declared.call.Call.{Call}
use Rattle.calls.specs.Catalogues.{Catalogue}
use Rattle.calls.specs.Runs.{Answer, Step, Steps}
use Rattle.calls.specs.View.{View}

pub steps_more : (k : Catalogue) (v u w : View) (cs : List Call) (answers : List Answer) (c : Call) (a : Answer) → Steps k v cs answers u → Step k u c a w → Steps k v (cs ++ c ∷ []) (answers ++ a ∷ []) w
steps_more k v u w [] [] c a h s = (w, (subst (λ x. Step k x c a w) (sym h) s, refl))
steps_more k v u w [] (b ∷ answers) c a h s = absurd h
steps_more k v u w (d ∷ cs) [] c a h s = absurd h
steps_more k v u w (d ∷ cs) (b ∷ answers) c a h s = (h.0, (h.1.0, steps_more k h.0 u w cs answers c a h.1.1 s))
