-- Roots that agree at each bit. Assumes nothing.
use Rattle.std.proofs.Common.{◌≡◌, suc, List, length, sym, ap, ◌∙◌, arith}
use Rattle.std.proofs.lemmas.List.{get_or_default, same_lists}
use Rattle.order.specs.declared.literal.Literal.{Literal}
use Rattle.order.specs.declared.literal.Literal.TheVariants.{Bit}
use Rattle.ties.specs.Roots.{root_at}

-- as many roots, and the same for each bit
pub same_roots : (xs ys : List Literal) → length xs ≡ length ys → root_at xs ≡ root_at ys → xs ≡ ys
same_roots xs ys long e =
    same_lists xs ys long
    (λ k d lt. get_or_default xs k d (Bit (suc k)) lt ∙ ap (λ f. f (suc k)) e ∙ sym (get_or_default ys k d (Bit (suc k)) (omega arith)))
