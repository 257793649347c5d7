-- The layouts and the satisfying assignments of the free bits are one for one. Assumes nothing.
use Rattle.std.proofs.Common.{◌≡◌, ℕ, List, sym, refl, ◌∙◌, subst}
use mathlib.Core.Path.{fun_ext}
use Rattle.order.specs.declared.literal.Literal.{Literal}
use Rattle.theory.specs.Values.{bits}
use Rattle.theory.specs.Rows.{Row}
use Rattle.theory.specs.Jobs.{Job, Solves}
use Rattle.theory.specs.Hidden.{Sums, full, ExtendOnce}
use Rattle.theory.specs.Promise.{values, SameFree, OneForOne, Layouts, LaysOut}
use Rattle.theory.proofs.Models.{none_solves}
use Rattle.theory.proofs.Promising.{one_for_one}
use Rattle.theory.proofs.Summing.{extend_once}

module _ (s : Sums) (others : List Row) (j : Job) (f : ℕ → Literal) (o : OneForOne j f) (e : ExtendOnce s others j) where
  -- a solution is its layout, with the sums
  whole : (v : ℕ → ℕ) → Solves j v → (x : ℕ) → v x ≡ full s v x
  whole v sol = e.only v v sol (λ x _. refl)

  pub layouts : Layouts s others j f
  layouts = record {
    to = λ v lay. o.to (full s v) (e.extends v lay);
    from = λ α h. e.layout (values j f α) (o.from α h);
    to_from = λ v lay x seen. o.to_from (full s v) (e.extends v lay) x ∙ e.keeps v x seen;
    from_to = λ α h. subst (λ v. SameFree j f (bits j.ranges v) α) (fun_ext (whole (values j f α) (o.from α h))) (o.from_to α h);
    same_free = λ α β h k same. o.same_free α β h k (λ x. e.only (values j f α) (values j f β) (o.from α h) same x ∙ sym (whole (values j f β) (o.from β k) x));
  }

-- the promise with hidden variables
pub lays_out : LaysOut
lays_out s others plus j laws adds = record {
  layouts = λ f fixed named sound. layouts s others j f (one_for_one j f laws fixed named sound) (extend_once s others plus j adds);
  no_layout = λ none v lay. none_solves j laws none (full s v) ((extend_once s others plus j adds).extends v lay);
}
