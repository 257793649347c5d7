-- The roots of a clause, place by place. Assumes nothing.
use Rattle.std.proofs.Common.{◌≡◌, ℕ, ◌<◌, List, length, get_or, sym, ap, ◌∙◌, arith}
use lib.ListN.{length-map}
use Rattle.std.proofs.lemmas.List.{get_or-map}
use Rattle.order.specs.declared.bound.Bound.{Bound}
use Rattle.order.specs.declared.literal.Literal.{Literal}
use Rattle.order.specs.declared.range.Range.{Range}
use Rattle.order.specs.Bounds.{literal, literals}
use Rattle.ties.specs.Roots.{root_by}
use Rattle.cnf.specs.Numbered.{rooted}

module _ (rs : List Range) (f : ℕ → Literal) (c : List Bound) where
  length_literals : length (literals rs c) ≡ length c
  length_literals = simp length-map

  pub length_rooted : length (rooted rs f c) ≡ length c
  length_rooted = simp length-map

  -- the root that is fetched at place i
  pub rooted_at : (i : ℕ) (b : Bound) (d l r : Literal) → i < length c → l ≡ literal rs (get_or c i b) → r ≡ root_by f l → r ≡ get_or (rooted rs f c) i d
  rooted_at i b d l r lt el er =
      let long : i < length (literals rs c) = omega (arith, length_literals) in
      er ∙ ap (root_by f) (el ∙ sym (get_or-map (literal rs) c i b l lt)) ∙ sym (get_or-map (root_by f) (literals rs c) i l d long)
