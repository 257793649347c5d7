-- The truths of the bits, place by place. Assumes nothing.
use Rattle.std.proofs.Common.{◌≡◌, ℕ, zero, suc, ◌+◌, ◌≤◌, Bool, true, false, List, [], ◌∷◌, ◌++◌, length, get_or, sym, ap, ◌∙◌, inl, inr, arith}
use Rattle.std.proofs.lemmas.Bool.{cases_lt}
use Rattle.std.proofs.lemmas.Bool.Decides.{nat_tests}
use Rattle.std.proofs.lemmas.List.{get_or_append_left, get_or_push, length_push}
use Rattle.order.specs.declared.literal.Literal.{Literal}
use Rattle.order.specs.declared.literal.Literal.TheVariants.{Bit}
use Rattle.order.specs.Literals.{truth}
use Rattle.ties.specs.Roots.{there, Named}
use Rattle.ties.proofs.Moves.{root_there}
use Rattle.theory.specs.Truth.{through}
use Rattle.decode.specs.Bits.{bit_at}

-- the bits are those of F
abbrev pub AreBits : (ℕ → Bool) → List Bool → Type 0
AreBits F bs = (n : ℕ) → 1 ≤ n → n ≤ length bs → bit_at bs n ≡ F n

bits_push : (F : ℕ → Bool) (bs cs : List Bool) (b : Bool) → AreBits F bs → cs ≡ bs ++ b ∷ [] → b ≡ F (length bs + 1) → AreBits F cs
bits_push F bs cs b all push is zero l u = absurd (omega arith)
bits_push F bs cs b all push is (suc n) l u =
    ap (λ xs. get_or xs n false) push ∙ elim (cases_lt n (length bs)) [
      | inl lt ↦ get_or_append_left bs (b ∷ []) false n lt ∙ all (suc n) l (omega arith)
      | inr ge ↦
          let last : n ≡ length bs = omega (arith, ap length push, length_push bs b) in
          get_or_push bs b false n (sym last) ∙ is ∙ ap F (omega arith)
    ]

-- the root of a bit is there
pub bit_root_there : (f : ℕ → Literal) (most n : ℕ) (r : Literal) → Named f → 1 ≤ n → n ≤ most → r ≡ f n → there most r ≡ true
bit_root_there f most n r named l u e =
    let here : there most (Bit n) ≡ true = grind (arith, nat_tests) in
    ap (there most) e ∙ root_there f named most (Bit n) here

-- one turn of a loop that makes them
pub bits_turn : (f : ℕ → Literal) (α : ℕ → Bool) (bs cs : List Bool) (n : ℕ) (b : Bool) → length bs + 1 ≡ n → AreBits (through f α) bs → cs ≡ bs ++ b ∷ [] → b ≡ truth α (f n) → (length cs ≡ n) × AreBits (through f α) cs
bits_turn f α bs cs n b at all push is = (
  omega (arith, ap length push, length_push bs b),
  bits_push (through f α) bs cs b all push (is ∙ ap (through f α) (sym at)),
)

-- its end
pub bits_all : (F : ℕ → Bool) (bs cs : List Bool) (most : ℕ) → cs ≡ bs → length bs ≡ most → AreBits F bs → (length cs ≡ most) × ((n : ℕ) → 1 ≤ n → n ≤ most → bit_at cs n ≡ F n)
bits_all F bs cs most same long all = (ap length same ∙ long, λ n l u. ap (λ xs. bit_at xs n) same ∙ all n l (omega arith))
