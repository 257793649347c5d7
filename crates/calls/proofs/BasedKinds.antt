-- The kinds that each job knows keep the laws. Assumes nothing.
use Rattle.std.proofs.Common.{ℕ, Bool, true, false, cond, eqb, refl, lit≤}
use Rattle.std.proofs.lemmas.Bool.{false≢true}
use Rattle.kinds.specs.Meaning.{Meaning, Lawful, no_kind}
use Rattle.linear.specs.LeqLaws.{leq_lawful}
use Rattle.linear.specs.PlusLaws.{plus_lawful}
use Rattle.linear.specs.SameLaws.{same_lawful}
use Rattle.linear.specs.Leq.{leq}
use Rattle.linear.specs.Plus.{plus}
use Rattle.linear.specs.Same.{same}
use Rattle.calls.specs.Catalogues.{Catalogue, LawfulAll, with_kind, based}

-- a kind that takes no row keeps the laws
pub no_kind_lawful : Lawful no_kind
no_kind_lawful = record {
  sound = λ items rs v apt. absurd (false≢true apt.0);
  complete = λ items rs v apt. absurd (false≢true apt.0);
  paired = λ items rs v apt. absurd (false≢true apt.0);
  spent = λ items rs v apt. absurd (false≢true apt.0);
  own_clauses = λ items rs apt. tt;
  own_pairings = λ items rs apt. tt;
  same_clauses = λ items rs rs' apt agree. refl;
  same_pairings = λ items rs rs' apt agree. refl;
  same_fits = λ items rs rs' apt. absurd (false≢true apt.0);
  same_meets = λ items u v formed same. refl;
  short = lit≤ tt;
  short_clauses = λ items rs apt. tt;
  few_clauses = λ items rs apt. lit≤ tt;
  few_pairings = λ items rs apt. lit≤ tt;
  short_premises = λ items rs apt. tt;
}

-- a lawful kind before lawful others
pub lawful_with : (n : ℕ) (m : Meaning) → Lawful m → (k : Catalogue) → LawfulAll k → LawfulAll (with_kind n m k)
lawful_with n m law k all code = either (eqb code n)
  where
    either : (b : Bool) → Lawful (cond b m (k.meaning code))
    either true = law
    either false = all code

pub lawful_based : (k : Catalogue) → LawfulAll k → LawfulAll (based k)
lawful_based k all =
    let three = lawful_with 3 same same_lawful k all in
    let two = lawful_with 2 leq leq_lawful (with_kind 3 same k) three in
    lawful_with 1 plus plus_lawful (with_kind 2 leq (with_kind 3 same k)) two
