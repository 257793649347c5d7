-- What satisfies the file is what reading accepts; assignments of the numbers and solutions are one for one. Assumes nothing.
use Rattle.std.proofs.Common.{◌≡◌, ℕ, zero, suc, ◌+◌, ◌-◌, ◌<◌, ◌≤◌, Bool, true, false, cond, not, ◌||◌, ◌⊎◌, List, [], ◌∷◌, map, length, Some, None, Decides, Option, sym, refl, ap, ◌∙◌, inl, inr, arith}
use Rattle.std.specs.List.{AllByRecursion}
use Rattle.std.proofs.ByRecursion.{All-from_get_or, All-get_or, All-map, All-weaker}
use Rattle.std.proofs.lemmas.Bool.Decides.{nat_tests}
use Rattle.std.proofs.lemmas.Bool.{cases_Bool, cond-true, cond-false}
use Rattle.std.proofs.lemmas.Bool.Decides.{Decides-at, Decides-like}
use Rattle.order.specs.declared.literal.Literal.{Literal}
use Rattle.order.specs.declared.range.Range.{Range}
use Rattle.order.specs.Bounds.{reach}
use Rattle.order.specs.Literals.{opposite, truth}
use Rattle.order.specs.Orders.{step, order}
use Rattle.order.specs.Ranges.{low, high, total_bits}
use Rattle.order.proofs.Signs.{truth_opposite}
use Rattle.ties.specs.Roots.{free_to}
use Rattle.kinds.specs.Meaning.{Meaning}
use Rattle.kinds.specs.Tests.{every, all_between}
use Rattle.kinds.proofs.Ranging.{all_between_from, between_all, all_between_at}
use Rattle.rows.specs.Rows.{Posted, posted}
use Rattle.cnf.proofs.Proper.{free_steps, free_some}
use Rattle.theory.specs.Truth.{all_true}
use Rattle.theory.specs.Values.{value, Shows, TrueBy, bit_below, bits}
use Rattle.theory.specs.Rows.{LawfulRow}
use Rattle.theory.specs.Jobs.{LawfulRows, Solves, output as theory_output}
use Rattle.theory.specs.Promise.{Satisfies, Read, SameFree, OneForOne, Promise}
use Rattle.theory.proofs.KindRows.{kinds_lawful}
use Rattle.theory.proofs.Order.{says_order}
use Rattle.theory.proofs.Reading.{value_in_range, orders_show}
use Rattle.theory.proofs.Promising.{reach_like, value_like, through_like, promises}
use Rattle.calls.specs.Catalogues.{Catalogue, LawfulAll}
use Rattle.calls.specs.Invariant.{Invariant}
use Rattle.calls.specs.Jobs.{posted_row, Sits}
use Rattle.calls.specs.Settles.{rules}
use Rattle.calls.specs.View.{View, free_bits}
use Rattle.calls.specs.Writes.{output}
use Rattle.promise.specs.declared.reading.ReadRefusal.{ReadRefusal}
use Rattle.promise.specs.declared.reading.ReadRefusal.TheVariants.{VoidJob, Unordered, Unmet}
use Rattle.promise.specs.Faithful.{satisfied}
use Rattle.promise.specs.Readings.{bit_truth, read_value, in_order, row_met, first_failing, at_fault, judged}
use Rattle.promise.proofs.Numbering.{bit_numbered, bit_of_number, number_of_bit, none_numbered}
use Rattle.promise.proofs.SatFile.{satisfied_output}

-- where none of n numbers fails, each passes, and back
module _ (p : ℕ → Bool) where
  none_fails : (a n : ℕ) → first_failing p a n ≡ None → every p a n ≡ true
  none_fails a zero h = refl
  none_fails a (suc n) h = grind (arith, none_fails (a + 1) n)

  passes_none : (a n : ℕ) → ((i : ℕ) → a ≤ i → i < a + n → p i ≡ true) → first_failing p a n ≡ None
  passes_none a zero h = refl
  passes_none a (suc n) h = grind (arith, h a, passes_none (a + 1) n (λ i l u. h i (omega arith) (omega arith)))

  every_from : (a n : ℕ) → ((i : ℕ) → a ≤ i → i < a + n → p i ≡ true) → every p a n ≡ true
  every_from a zero h = refl
  every_from a (suc n) h = grind (arith, h a, every_from (a + 1) n (λ i l u. h i (omega arith) (omega arith)))

  each_passes : (n : ℕ) → first_failing p 0 n ≡ None → (i : ℕ) → i < n → p i ≡ true
  each_passes n h i l = let e : n - 0 ≡ n = omega arith in all_between_at p 0 n (ap (every p 0) e ∙ none_fails 0 n h) i (omega arith) l

  none_from : (n : ℕ) → ((i : ℕ) → i < n → p i ≡ true) → first_failing p 0 n ≡ None
  none_from n h = passes_none 0 n (λ i _ l. h i (omega arith))

-- the two refusals that may come
faults_none : (q r : ℕ → ReadRefusal) (x y : Option ℕ) → at_fault q x (at_fault r y None) ≡ None → (x ≡ None) × (y ≡ None)
faults_none q r (Some n) y h = absurd (grind arith)
faults_none q r None (Some n) h = absurd (grind arith)
faults_none q r None None h = (refl, refl)

-- the bits of x are in order exactly where its order clauses are true
module _ (rs : List Range) (β : ℕ → Bool) (x : ℕ) where
  -- where X reaches t + 1 it reaches t
  abbrev steps-down : ℕ → Bool
  steps-down t = not (truth β (reach rs x (t + 1))) || truth β (reach rs x t)

  step_is : (t : ℕ) → (truth β (opposite (reach rs x (t + 1))) || (truth β (reach rs x t) || false)) ≡ steps-down t
  step_is t = grind (arith, truth_opposite β (reach rs x (t + 1)))

  ordered_clauses : in_order rs β x ≡ true → AllByRecursion (TrueBy rs β) (order rs x)
  ordered_clauses h = all_between_from (step x) (TrueBy rs β) (low rs x + 1) (high rs x) (λ t l u. (step_is t ∙ all_between_at steps-down (low rs x + 1) (high rs x) h t l u, tt))

  clauses_ordered : AllByRecursion (TrueBy rs β) (order rs x) → in_order rs β x ≡ true
  clauses_ordered h = every_from steps-down (low rs x + 1) (high rs x - (low rs x + 1)) (λ t l u. sym (step_is t) ∙ (between_all (step x) (TrueBy rs β) (low rs x + 1) (high rs x) h t l (omega arith)).0)

-- each variable's bits are in order exactly where they show values
module _ (rs : List Range) (β : ℕ → Bool) where
  ordered_shows : ((x : ℕ) → x < length rs → in_order rs β x ≡ true) → Shows rs β (value rs β)
  ordered_shows h = orders_show rs β (all_between_from (order rs) (TrueBy rs β) 0 (length rs) (λ x _ l. ordered_clauses rs β x (h x l)))

  shows_ordered : (u : ℕ → ℕ) → Shows rs β u → (x : ℕ) → in_order rs β x ≡ true
  shows_ordered u s x = clauses_ordered rs β x (says_order rs β x (u x) (s x))

-- each row is met at its place exactly where all rows are
module _ (m : ℕ → Meaning) (rs : List Range) (u : ℕ → ℕ) where
  unmapped : (ps : List Posted) → AllByRecursion (λ w. w.meets u ≡ true) (map (posted_row m rs) ps) → AllByRecursion (λ p. (m p.code).meets p.items u ≡ true) ps
  unmapped [] h = tt
  unmapped (p ∷ ps) h = (h.0, unmapped ps h.1)

module _ (k : Catalogue) (v : View) (u : ℕ → ℕ) where
  -- the row p is met
  abbrev Is-met : Posted → Type 0
  Is-met p = (k.meaning p.code).meets p.items u ≡ true

  places_met : ((p : ℕ) → p < length v.rows → row_met k v u p ≡ true) → AllByRecursion (λ w. w.meets u ≡ true) (rules k v).rows
  places_met h = All-map (λ w. w.meets u ≡ true) (posted_row k.meaning v.ranges) v.rows (All-from_get_or Is-met v.rows (posted [] 0) h)

  met_places : AllByRecursion (λ w. w.meets u ≡ true) (rules k v).rows → (p : ℕ) → p < length v.rows → row_met k v u p ≡ true
  met_places h p l = All-get_or Is-met v.rows p (posted [] 0) l (unmapped k.meaning v.ranges u v.rows h)

-- what an assignment of the numbers gives the bits
abbrev pub bits_by : View → (ℕ → Bool) → ℕ → Bool
bits_by v a n = a (free_to v.root n)

module _ (k : Catalogue) (v : View) (a : ℕ → Bool) where
  pub void_judged : v.void ≡ true → judged k v a ≡ Some VoidJob
  void_judged e = cond-true _ _ _ e

  pub judged_not_void : judged k v a ≡ None → v.void ≡ false
  judged_not_void h = grind (arith, void_judged)

  -- reading finds no fault exactly where the bits show values that meet each row
  pub judged_reads : judged k v a ≡ None → Read (rules k v) v.root (bits_by v a)
  judged_reads h =
      let both = faults_none Unordered Unmet (first_failing (in_order v.ranges (bit_truth v a)) 0 (length v.ranges)) (first_failing (row_met k v (read_value v a)) 0 (length v.rows)) (sym (cond-false _ _ _ (judged_not_void h)) ∙ h) in
      record {
        in_order = ordered_shows v.ranges (bit_truth v a) (each_passes (in_order v.ranges (bit_truth v a)) (length v.ranges) both.0);
        solves = record {
          in_range = value_in_range v.ranges (bit_truth v a);
          meets = places_met k v (read_value v a) (each_passes (row_met k v (read_value v a)) (length v.rows) both.1);
        };
      }

  pub reads_judged : v.void ≡ false → Read (rules k v) v.root (bits_by v a) → judged k v a ≡ None
  reads_judged e d =
      let ordered = none_from (in_order v.ranges (bit_truth v a)) (length v.ranges) (λ x _. shows_ordered v.ranges (bit_truth v a) (read_value v a) d.in_order x) in
      let met = none_from (row_met k v (read_value v a)) (length v.rows) (met_places k v (read_value v a) d.solves.meets) in
      cond-false _ _ _ e
      ∙ ap (λ o. at_fault Unordered o (at_fault Unmet (first_failing (row_met k v (read_value v a)) 0 (length v.rows)) None)) ordered
      ∙ ap (λ o. at_fault Unmet o None) met

  pub judged_solves : judged k v a ≡ None → Solves (rules k v) (read_value v a)
  judged_solves h = (judged_reads h).solves

-- the numbers that values give: each has the truth of the free bit that it numbers
abbrev pub numbers_of : View → (ℕ → ℕ) → ℕ → Bool
numbers_of v w m = bits v.ranges w (bit_numbered v.root m (total_bits v.ranges))

-- where they number no free bit they are false, whatever the values
no_bit : (rs : List Range) (w : ℕ → ℕ) (n : ℕ) → bit_below rs w n 0 ≡ false
no_bit rs w zero = refl
no_bit rs w (suc x) = grind (arith, nat_tests, no_bit rs w x)

pub numbers_outside : (v : View) (w : ℕ → ℕ) (m : ℕ) → (m ≡ 0) ⊎ (free_bits v < m) → numbers_of v w m ≡ false
numbers_outside v w m h =
    let f : ℕ → Literal = v.root in
    let n : ℕ = total_bits v.ranges in
    ap (bits v.ranges w) (none_numbered f n m (λ k s. let low = free_some f k s.some s.own in let up = free_steps f k n s.within in let e = s.number in elim h [
      | inl z ↦ omega arith
      | inr z ↦ omega arith
    ]))
    ∙ no_bit v.ranges w (length v.ranges)

module _ (k : Catalogue) (law : LawfulAll k) (v : View) (inv : Invariant k v) where
  pub lawful_rules : LawfulRows (rules k v)
  lawful_rules =
      All-map (LawfulRow v.ranges) (posted_row k.meaning v.ranges) v.rows
      (All-weaker (Sits k.meaning v.ranges) (λ p. LawfulRow v.ranges (posted_row k.meaning v.ranges p))
      (λ p s. kinds_lawful (k.meaning p.code) (law p.code) p.items v.ranges s.apt) v.rows inv.seated)

  promise : Promise (rules k v)
  promise = promises (rules k v) lawful_rules

  one_by_one : v.void ≡ false → OneForOne (rules k v) v.root
  one_by_one e = promise.one_for_one v.root inv.rooted.fixed inv.rooted.named (inv.sound e)

  -- reading finds no fault exactly where the file is satisfied
  pub accepts_satisfied : (a : ℕ → Bool) → v.void ≡ false → Decides (satisfied a (output k v)) (judged k v a ≡ None)
  accepts_satisfied a e =
      Decides-at (satisfied a (output k v)) (all_true (bits_by v a) (theory_output (rules k v) v.root)) (satisfied_output k v a e)
      (Decides-like (all_true (bits_by v a) (theory_output (rules k v) v.root)) (reads_judged k v a e) (judged_reads k v a) (promise.reads v.root (bits_by v a)))

  judged_satisfies : (a : ℕ → Bool) → judged k v a ≡ None → Satisfies (rules k v) v.root (bits_by v a)
  judged_satisfies a h = (promise.reads v.root (bits_by v a)).1 (judged_reads k v a h)

  -- a job with a solution is not void
  pub solved_not_void : (w : ℕ → ℕ) → Solves (rules k v) w → v.void ≡ false
  solved_not_void w sol = elim (cases_Bool v.void) [
    | inl e ↦ absurd (promise.no_solution (inv.refused e) w sol)
    | inr e ↦ e
  ]

  -- a free bit has the truth of its number
  numbers_free : (w : ℕ → ℕ) → SameFree (rules k v) v.root (bits v.ranges w) (bits_by v (numbers_of v w))
  numbers_free w n free = ap (bits v.ranges w) (sym (bit_of_number v.root (total_bits v.ranges) n free.some free.within free.own))

  -- the numbers of a solution are without fault
  pub numbers_judged : (w : ℕ → ℕ) → Solves (rules k v) w → judged k v (numbers_of v w) ≡ None
  numbers_judged w sol =
      let e : v.void ≡ false = solved_not_void w sol in
      let o : OneForOne (rules k v) v.root = one_by_one e in
      reads_judged k v (numbers_of v w) e
      ((promise.reads v.root (bits_by v (numbers_of v w))).0 (o.only_free (bits v.ranges w) (bits_by v (numbers_of v w)) (numbers_free w) (o.to w sol)))

  -- and give it back
  pub numbers_read : (w : ℕ → ℕ) → Solves (rules k v) w → (x : ℕ) → read_value v (numbers_of v w) x ≡ w x
  numbers_read w sol x =
      let o : OneForOne (rules k v) v.root = one_by_one (solved_not_void w sol) in
      sym (o.same_values (bits v.ranges w) (bits_by v (numbers_of v w)) (numbers_free w) x) ∙ o.to_from w sol x

  -- so each solution comes of an assignment without fault
  pub solution_assignment : (w : ℕ → ℕ) → Solves (rules k v) w → (v.void ≡ false) × (judged k v (numbers_of v w) ≡ None) × ((x : ℕ) → read_value v (numbers_of v w) x ≡ w x)
  solution_assignment w sol = (solved_not_void w sol, numbers_judged w sol, numbers_read w sol)

  -- assignments without fault that give the same values are one on the numbers of the file
  pub same_numbers : (a b : ℕ → Bool) → judged k v a ≡ None → judged k v b ≡ None → ((x : ℕ) → read_value v a x ≡ read_value v b x) → (m : ℕ) → 1 ≤ m → m ≤ free_bits v → a m ≡ b m
  same_numbers a b h g e m l u =
      let s = number_of_bit v.root (total_bits v.ranges) m l u in
      let o : OneForOne (rules k v) v.root = one_by_one (judged_not_void k v a h) in
      let i : a (free_to v.root s.0) ≡ b (free_to v.root s.0) =
      o.same_free (bits_by v a) (bits_by v b) (judged_satisfies a h) (judged_satisfies b g) e s.0 (record { some = s.1.some; within = s.1.within; own = s.1.own }) in
      sym (ap a s.1.number) ∙ i ∙ ap b s.1.number

  -- assignments that are one on the numbers of the file are read alike
  module _ (a b : ℕ → Bool) (like : (m : ℕ) → 1 ≤ m → m ≤ free_bits v → a m ≡ b m) where
    like_free : SameFree (rules k v) v.root (bits_by v a) (bits_by v b)
    like_free n free = like (free_to v.root n) (omega (arith, free_some v.root n free.some free.own)) (free_steps v.root n (total_bits v.ranges) free.within)

    like_bits : (n : ℕ) → 0 < n → n ≤ total_bits v.ranges → bit_truth v a n ≡ bit_truth v b n
    like_bits = through_like (rules k v) v.root lawful_rules inv.rooted.fixed inv.rooted.named (bits_by v a) (bits_by v b) like_free

    pub values_like : (x : ℕ) → read_value v a x ≡ read_value v b x
    values_like = value_like v.ranges (bit_truth v a) (bit_truth v b) like_bits

    like_order : (x : ℕ) → in_order v.ranges (bit_truth v a) x ≡ in_order v.ranges (bit_truth v b) x
    like_order x =
        let r : (t : ℕ) → truth (bit_truth v a) (reach v.ranges x t) ≡ truth (bit_truth v b) (reach v.ranges x t) = reach_like v.ranges (bit_truth v a) (bit_truth v b) like_bits x in
        λ i. all_between (λ t. not (r (t + 1) i) || r t i) (low v.ranges x + 1) (high v.ranges x)

    pub assignment_like : judged k v a ≡ judged k v b
    assignment_like = λ i. cond v.void (Some VoidJob)
        (at_fault Unordered (first_failing (λ x. like_order x i) 0 (length v.ranges))
        (at_fault Unmet (first_failing (row_met k v (λ x. values_like x i)) 0 (length v.rows)) None))
