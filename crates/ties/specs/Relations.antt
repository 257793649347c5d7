-- Sets of ties: which literals are equal, and the least such set. Assumes nothing.
use Rattle.std.specs.Prelude.{◌≡◌, Bool, true, false}
use Rattle.order.specs.declared.literal.Literal.{Literal}
use Rattle.order.specs.declared.literal.Literal.TheVariants.{False, True}
use Rattle.order.specs.Literals.{opposite}

abbrev pub Relation : Type 0
Relation = Literal → Literal → Bool

-- each literal is tied to itself, ties chain both ways, and opposites of tied ones are tied
pub record IsTies (S : Relation) : Type 0 where
  pub reflexive : (x : Literal) → S x x ≡ true
  pub symmetric : (x y : Literal) → S x y ≡ true → S y x ≡ true
  pub transitive : (x y z : Literal) → S x y ≡ true → S y z ≡ true → S x z ≡ true
  pub opposites : (x y : Literal) → S x y ≡ true → S (opposite x) (opposite y) ≡ true

-- S has every tie of R
abbrev pub Within : Relation → Relation → Type 0
Within R S = (x y : Literal) → R x y ≡ true → S x y ≡ true

-- R' is the least set of ties that holds R and ties a with b
pub record Least (R : Relation) (a b : Literal) (R' : Relation) : Type 0 where
  pub ties : IsTies R'
  pub more : Within R R'
  pub both : R' a b ≡ true
  pub least : (S : Relation) → IsTies S → Within R S → S a b ≡ true → Within R' S

-- false and true are not tied
abbrev pub Consistent : Relation → Type 0
Consistent R = R False True ≡ false
