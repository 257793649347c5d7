-- Counting the bits that are their own root. Assumes nothing.
use Rattle.std.proofs.Common.{◌≡◌, ℕ, zero, suc, ◌+◌, ◌<◌, ◌≤◌, Bool, true, false, cond, List, [], ◌∷◌, length, get_or, sym, refl, ap, ◌∙◌, inl, inr, arith}
use Rattle.std.proofs.lemmas.List.{get_or_default}
use Rattle.std.proofs.lemmas.List.Sums.{sum_by-cons}
use Rattle.std.specs.List.{count_by, range_with_len, zip}
use Rattle.std.proofs.lemmas.Bool.{cases_eq}
use Rattle.order.specs.declared.literal.Literal.{Literal}
use Rattle.order.specs.declared.literal.Literal.TheVariants.{False, Bit}
use Rattle.order.specs.Literals.{same}
use Rattle.ties.specs.Roots.{root_at, count_below, own, free, free_to}

abbrev pub one_if : Bool → ℕ
one_if b = cond b 1 0

pub count_same : (p q : ℕ → Bool) (n : ℕ) → ((k : ℕ) → k < n → p k ≡ q k) → count_below p n ≡ count_below q n
count_same p q zero h = refl
count_same p q (suc n) h =
    omega (arith, ap one_if (h n (omega arith)), count_same p q n (λ k lt. h k (omega arith)))

-- one that passed passes no more
pub count_less : (p q : ℕ → Bool) (m n : ℕ) → m < n → p m ≡ true → q m ≡ false → ((k : ℕ) → k < n → (k ≡ m → ⊥) → p k ≡ q k) → count_below p n ≡ count_below q n + 1
count_less p q m zero lt was is other = absurd (omega arith)
count_less p q m (suc n) lt was is other =
    elim (cases_eq n m) [
      | inl e ↦
          let u : one_if (p n) ≡ 1 = ap one_if (ap p e ∙ was) in
          let v : one_if (q n) ≡ 0 = ap one_if (ap q e ∙ is) in
          omega (arith, u, v, count_same p q n (λ k h. other k (omega arith) (λ z. omega arith)))
      | inr ne ↦
          omega (arith, ap one_if (other n (omega arith) ne), count_less p q m n (omega arith) was is (λ k h. other k (omega arith)))
    ]

-- a bit that was free is free no more
pub free_less : (f g : ℕ → Literal) (m n : ℕ) → 0 < m → m ≤ n → own f m ≡ true → own g m ≡ false → ((k : ℕ) → k ≤ n → (k ≡ m → ⊥) → own f k ≡ own g k) → free_to f n ≡ free_to g n + 1
free_less f g zero n some le was is other = absurd (omega arith)
free_less f g (suc m) n some le was is other =
    count_less (λ k. own f (suc k)) (λ k. own g (suc k)) m n (omega arith) was is (λ k lt ne. other (suc k) (omega arith) (λ e. ne (omega arith)))

-- whether a root beside the number of a bit is that bit
abbrev pub is_bit : ℕ × Literal → Bool
is_bit p = same p.1 (Bit p.0)

-- the roots of a stretch of bits that are those bits, and the free bits before it
count_stretch : (f : ℕ → Literal) (ys : List Literal) (m a : ℕ) → a ≡ suc m → ((k : ℕ) → k < length ys → f (a + k) ≡ get_or ys k False) → count_by is_bit (zip (range_with_len a (length ys)) ys) + free_to f m ≡ free_to f (m + length ys)
count_stretch f [] m a e roots = let none : m ≡ m + 0 = omega arith in omega (arith, ap (free_to f) none)
count_stretch f (y ∷ ys) m a e roots =
    let head = sum_by-cons (λ p. one_if (is_bit p)) (a, y) (zip (range_with_len (a + 1) (length ys)) ys) in
    let first : a + 0 ≡ suc m = omega (arith, e) in
    let root : y ≡ f (suc m) = sym (roots 0 (omega arith)) ∙ ap f first in
    let here : one_if (is_bit (a, y)) ≡ one_if (own f (suc m)) = ap (λ l. one_if (same l (Bit a))) root ∙ ap (λ n. one_if (same (f (suc m)) (Bit n))) e in
    let rest = count_stretch f ys (suc m) (a + 1) (omega (arith, e)) (λ k lt. (let next : a + 1 + k ≡ a + suc k = omega arith in ap f next ∙ roots (suc k) (omega (arith, lt)))) in
    let more : suc m + length ys ≡ m + suc (length ys) = omega arith in
    omega (arith, head, here, rest, ap (free_to f) more)

pub free_counted : (rs : List Literal) → count_by is_bit (zip (range_with_len 1 (length rs)) rs) ≡ free rs
free_counted rs =
    let all : 0 + length rs ≡ length rs = omega arith in
    let roots : (k : ℕ) → k < length rs → root_at rs (1 + k) ≡ get_or rs k False = λ k lt. (let next : 1 + k ≡ suc k = omega arith in ap (root_at rs) next ∙ get_or_default rs k (Bit (suc k)) False lt) in
    omega (arith, count_stretch (root_at rs) rs 0 1 refl roots, ap (free_to (root_at rs)) all)
