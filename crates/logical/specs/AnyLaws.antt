-- The laws of bounds of which at least one holds. Assumes nothing.
use Rattle.std.specs.Prelude.{◌≡◌, ℕ, ◌≤◌, true, List, [], ◌∷◌, length, take, ◌==◌, refl}
use Rattle.std.proofs.Common.{sym, ap, subst, arith, lit≤}
use Rattle.std.specs.List.{AllByRecursion}
use Rattle.std.proofs.ByRecursion.{All-weaker}
use Rattle.std.proofs.lemmas.List.{length-map, take_all}
use Rattle.std.proofs.lemmas.Bool.{false≢true, or_right}
use Rattle.std.proofs.lemmas.Bool.Decides.{nat_tests}
use Rattle.order.specs.declared.bound.Bound.{Bound}
use Rattle.order.specs.Bounds.{holds}
use Rattle.kinds.specs.declared.item.Item.{Item}
use Rattle.kinds.specs.Items.{variable_of, names}
use Rattle.kinds.specs.Meaning.{Lawful, some_holds, Met, Own}
use Rattle.logical.specs.Any.{bound_of, bounds, at_least_one}

bound_variable : (i : Item) → variable_of i ≡ (bound_of i).variable
bound_variable i = grind arith

-- the variable of a row's first item is the row's own, and so is each of the other items'
own_first : (i : Item) (items : List Item) → Own (i ∷ items) (bound_of i)
own_first i items = let e = bound_variable i in grind (arith, nat_tests)

own_bounds : (items : List Item) → AllByRecursion (Own items) (bounds items)
own_bounds [] = tt
own_bounds (i ∷ items) = (own_first i items, All-weaker (Own items) (Own (i ∷ items)) (λ b o. or_right (variable_of i == b.variable) (names items b.variable) o) (bounds items) (own_bounds items))

-- a bound holds by its own variable's value
holds_same : (u v : ℕ → ℕ) (b : Bound) → u b.variable ≡ v b.variable → holds u b ≡ holds v b
holds_same u v b e = cc

some_same : (u v : ℕ → ℕ) (c : List Bound) → AllByRecursion (λ b. u b.variable ≡ v b.variable) c → some_holds u c ≡ some_holds v c
some_same u v [] h = refl
some_same u v (b ∷ c) h = let e = holds_same u v b h.0 in let r = some_same u v c h.1 in cc

module _ (items : List Item) (formed : at_least_one.formed items ≡ true) where
  few : length items ≤ 64
  few = grind (arith, nat_tests)

  -- the clause has all the bounds
  whole : bounds (take 64 items) ≡ bounds items
  whole = ap bounds (take_all 64 items few)

  whole_says : (P : List Bound → Type 0) → P (bounds items) → P (bounds (take 64 items))
  whole_says P h = subst P (sym whole) h

pub any_lawful : Lawful at_least_one
any_lawful = record {
  sound = λ items rs v apt within m. (whole_says items apt.0 (Met v) m, tt);
  complete = λ items rs v apt within all. subst (Met v) (whole items apt.0) all.0;
  paired = λ items rs v apt within m. tt;
  spent = λ items rs v apt within tied kept s. absurd (false≢true s);
  own_clauses = λ items rs apt. (whole_says items apt.0 (AllByRecursion (Own items)) (own_bounds items), tt);
  own_pairings = λ items rs apt. tt;
  same_clauses = λ items rs rs' apt same. refl;
  same_pairings = λ items rs rs' apt same. refl;
  same_fits = λ items rs rs' apt same. refl;
  same_meets = λ items u v formed same. some_same u v (bounds items) (All-weaker (Own items) (λ b. u b.variable ≡ v b.variable) (λ b o. same b.variable o) (bounds items) (own_bounds items));
  short = lit≤ tt;
  short_clauses = λ items rs apt. (whole_says items apt.0 (λ c. length c ≤ 64) (omega (arith, length-map items bound_of, few items apt.0)), tt);
  few_clauses = λ items rs apt. lit≤ tt;
  few_pairings = λ items rs apt. lit≤ tt;
  short_premises = λ items rs apt. tt;
}
