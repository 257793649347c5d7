-- The solutions and the satisfying assignments of the free bits are one for one. Assumes nothing.
use Rattle.std.proofs.Common.{◌≡◌, ℕ, suc, ◌+◌, ◌-◌, ◌<◌, ◌≤◌, Bool, true, not, ltb, leb, List, length, sym, refl, ap, ◌∙◌, inl, inr, arith}
use Rattle.std.proofs.lemmas.Bool.{cases_lt, and_from, and_parts, le-leb, leb-true, lt-ltb, ltb-true}
use Rattle.order.specs.declared.literal.Literal.{Literal}
use Rattle.order.specs.declared.literal.Literal.TheVariants.{False, True, Bit, Not}
use Rattle.order.specs.declared.range.Range.{Range}
use Rattle.order.specs.Bounds.{reach}
use Rattle.order.specs.Literals.{opposite, truth}
use Rattle.order.specs.Ranges.{low, high, width, first, total_bits}
use Rattle.order.proofs.Ranging.{first_rises}
use Rattle.ties.specs.Roots.{root_by, tied, there, Named, Fixed}
use Rattle.ties.proofs.Counts.{count_same}
use Rattle.ties.proofs.Equivalences.{root_by_twice, roots_tie}
use Rattle.cnf.proofs.Inside.{root_there}
use Rattle.theory.specs.Truth.{through}
use Rattle.theory.specs.Values.{value, Shows, bits}
use Rattle.theory.specs.Jobs.{Job, LawfulRows, Solves}
use Rattle.theory.specs.Closed.{Sound}
use Rattle.theory.specs.Promise.{values, Free, SameFree, OneForOne, Promises}
use Rattle.theory.proofs.Rooting.{truth_through}
use Rattle.theory.proofs.Order.{absent, reach_low, reach_high, reach_inside, says_value}
use Rattle.theory.proofs.Bits.{bits_show, bits_again}
use Rattle.theory.proofs.Reading.{reads, reads_from, shown_satisfies}
use Rattle.theory.proofs.Models.{model_keeps, none_solves}

-- assignments that are one on a job's bits
module _ (rs : List Range) (β γ : ℕ → Bool) (like : (n : ℕ) → 0 < n → n ≤ total_bits rs → β n ≡ γ n) where
  within : (x t : ℕ) → low rs x < t → t ≤ high rs x → first rs x + (t - low rs x) ≤ total_bits rs
  within x t l u = elim (cases_lt x (length rs)) [
    | inl h ↦ let g = first_rises rs x (length rs) h in omega arith
    | inr h ↦ let e = absent rs x h in omega arith
  ]

  pub reach_like : (x t : ℕ) → truth β (reach rs x t) ≡ truth γ (reach rs x t)
  reach_like x t = elim (cases_lt (low rs x) t) [
    | inr l ↦ rw (reach_low rs x t l)
    | inl l ↦ elim (cases_lt (high rs x) t) [
      | inl g ↦ rw (reach_high rs x t l g)
      | inr g ↦ rw (reach_inside rs x t l g) (like (first rs x + (t - low rs x)) (omega arith) (within x t l g))
    ]
  ]

  pub shows_like : (v : ℕ → ℕ) → Shows rs β v → Shows rs γ v
  shows_like v s x t = sym (reach_like x t) ∙ s x t

  pub value_like : (x : ℕ) → value rs β x ≡ value rs γ x
  value_like x = ap (λ n. low rs x + n) (count_same (λ k. β (first rs x + suc k)) (λ k. γ (first rs x + suc k)) (width rs x)
      (λ k l. let e : first rs x + ((low rs x + suc k) - low rs x) ≡ first rs x + suc k = omega arith in like (first rs x + suc k) (omega arith) (rw e at (within x (low rs x + suc k) (omega arith) (omega arith)))))

module _ (j : Job) (f : ℕ → Literal) (laws : LawfulRows j) where
  -- through the roots, the bits of a solution are as they were
  pub bits_through : Fixed f → Sound j (tied f) → (v : ℕ → ℕ) → Solves j v → Shows j.ranges (through f (bits j.ranges v)) v
  bits_through fixed sound v sol x t =
      let l : Literal = reach j.ranges x t in
      truth_through f (bits j.ranges v) l
      ∙ model_keeps j laws v sol (tied f) sound (root_by f l) l (roots_tie f (root_by f l) l (root_by_twice f fixed l))
      ∙ bits_show j.ranges v sol.in_range x t

  -- a root is free, or opposite to a free bit, or a constant
  root_like : (α β : ℕ → Bool) → SameFree j f α β → (l : Literal) → root_by f l ≡ l → there (total_bits j.ranges) l ≡ true → truth α l ≡ truth β l
  root_like α β e False own i = refl
  root_like α β e True own i = refl
  root_like α β e (Bit m) own i =
      let b = and_parts (ltb 0 m) (leb m (total_bits j.ranges)) i in
      e m (record { some = ltb-true 0 m b.0; within = leb-true m (total_bits j.ranges) b.1; own = own })
  root_like α β e (Not m) own i =
      let b = and_parts (ltb 0 m) (leb m (total_bits j.ranges)) i in
      ap not (e m (record { some = ltb-true 0 m b.0; within = leb-true m (total_bits j.ranges) b.1; own = turned (f m) m own }))
    where
      turned : (l : Literal) (m : ℕ) → opposite l ≡ Not m → l ≡ Bit m
      turned l m h = grind arith

  pub through_like : Fixed f → Named f → (α β : ℕ → Bool) → SameFree j f α β → (n : ℕ) → 0 < n → n ≤ total_bits j.ranges → through f α n ≡ through f β n
  through_like fixed named α β e n h l =
      let bits : ℕ = total_bits j.ranges in
      root_like α β e (f n) (fixed n) (root_there f named bits (Bit n) (and_from (ltb 0 n) (leb n bits) (lt-ltb 0 n h) (le-leb n bits l)))

  -- the free bits of a satisfying assignment are those of its values
  free_bits : (α : ℕ → Bool) (v : ℕ → ℕ) → Shows j.ranges (through f α) v → (n : ℕ) → Free j f n → bits j.ranges v n ≡ α n
  free_bits α v s n free = bits_again j.ranges (through f α) v s n free.some free.within ∙ ap (truth α) free.own

  -- so solutions and satisfying assignments are one for one
  pub one_for_one : Fixed f → Named f → Sound j (tied f) → OneForOne j f
  one_for_one fixed named sound = record {
    to = λ v sol. shown_satisfies j f laws (bits j.ranges v) v (bits_through fixed sound v sol) sol;
    from = λ α h. (reads_from j f laws α h).solves;
    to_from = λ v sol x. says_value j.ranges (through f (bits j.ranges v)) x (v x) (sol.in_range.above x) (sol.in_range.below x) (bits_through fixed sound v sol x);
    from_to = λ α h n free. free_bits α (values j f α) (reads_from j f laws α h).in_order n free;
    only_free = λ α β e h.
        let d = reads_from j f laws α h in
        shown_satisfies j f laws β (values j f α) (shows_like j.ranges (through f α) (through f β) (through_like fixed named α β e) (values j f α) d.in_order) d.solves;
    same_values = λ α β e x. value_like j.ranges (through f α) (through f β) (through_like fixed named α β e) x;
    same_free = λ α β h k e n free.
        sym (free_bits α (values j f α) (reads_from j f laws α h).in_order n free)
        ∙ free_bits β (values j f α) (λ x t. (reads_from j f laws β k).in_order x t ∙ ap (leb t) (sym (e x))) n free;
  }

-- the promise
pub promises : Promises
promises j laws = record {
  reads = λ f α. reads j f laws α;
  one_for_one = λ f. one_for_one j f laws;
  no_solution = none_solves j laws;
}
