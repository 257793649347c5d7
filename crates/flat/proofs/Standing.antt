-- Spans within the items, and the lists that they stand for. Assumes nothing.
use Rattle.std.proofs.Common.{◌≡◌, ℕ, ◌+◌, ◌-◌, ◌<◌, ◌≤◌, List, [], ◌∷◌, ◌++◌, map, length, get_or, slice_get, slice_range, Option, Some, None, option_map, Bor, vec_items, vec_len, take, drop, sym, refl, ap, ◌∙◌, subst, arith}
use Rattle.std.specs.List.{All}
use Rattle.std.specs.Slice.{IsItemAt}
use Rattle.std.proofs.lemmas.Option.{slice_get-map, slice_get_past, slice_get_read}
use Rattle.std.proofs.lemmas.List.{drop_at, get_or-map, length-append, length-map, map_push, take_all, take-append-le}
use Rattle.std.proofs.lemmas.List.Elements.{All-head, All-push, All-rest, All-same, All-tail, All-weaker}
use Rattle.std.proofs.lemmas.List.Sums.{sum_by_push}
use Rattle.std.proofs.lemmas.Slice.{between_is}
use Rattle.flat.specs.declared.lists.Lists.{Lists}
use Rattle.flat.specs.declared.lists.Span.{Span}
use Rattle.flat.specs.Spans.{Headed, headed, IsWithin, list_at, items_in}
use Rattle.flat.specs.Views.{lists_of}

module _ {H : Type 0} where
  -- the first span and the others
  pub first_within : (n : ℕ) (s : Span H) (others ss : List (Span H)) → ss ≡ s ∷ others → All (IsWithin n) ss → IsWithin n s
  first_within n s others ss e w = All-head (IsWithin n) s others (All-same (IsWithin n) (s ∷ others) ss (sym e) w)

  pub others_within : (n : ℕ) (s : Span H) (others ss : List (Span H)) → ss ≡ s ∷ others → All (IsWithin n) ss → All (IsWithin n) others
  others_within n s others ss e w = All-rest (IsWithin n) s others ss e w

module _ {H T : Type 0} where
  -- more items behind change no list
  list_longer : (items more : List T) (s : Span H) → s.to ≤ length items → list_at (items ++ more) s ≡ list_at items s
  list_longer items more s h =
      ap (headed s.head) (between_is (items ++ more) s.«from» s.to ∙ ap (drop s.«from») (take-append-le s.to items more h) ∙ sym (between_is items s.«from» s.to))

  lists_longer : (items more : List T) (ss : List (Span H)) → All (IsWithin (length items)) ss → map (list_at (items ++ more)) ss ≡ map (list_at items) ss
  lists_longer items more [] w = refl
  lists_longer items more (s ∷ ss) w =
      let here = list_longer items more s (All-head (IsWithin (length items)) s ss w).1 in
      let rest = lists_longer items more ss (All-tail (IsWithin (length items)) s ss w) in
      cc

  -- the list at a place, and its head
  pub list_found : (items : List T) (ss : List (Span H)) (k : ℕ) (s : Span H) → k < length ss → s ≡ get_or ss k s → slice_range items s.«from» s.to ≡ get_or (map (λ (l : Headed H T). l.items) (map (list_at items) ss)) k []
  list_found items ss k s lt is =
      ap (λ (x : Span H). slice_range items x.«from» x.to) is
      ∙ sym (get_or-map (λ (l : Headed H T). l.items) (map (list_at items) ss) k (list_at items s) [] (omega (arith, length-map ss (list_at {H = H} {T = T} items))) ∙ ap (λ (l : Headed H T). l.items) (get_or-map (list_at items) ss k s (list_at items s) lt))

  pub head_found : (items : List T) (ss : List (Span H)) (k : ℕ) (found : Option (Bor (Span H))) (r : Option H) → IsItemAt ss k found → r ≡ option_map (λ (s : Bor (Span H)). s.now.head) found → r ≡ slice_get (map (λ (l : Headed H T). l.head) (map (list_at items) ss)) k
  head_found items ss k found r at is =
      rw (slice_get-map, slice_get-map)
      (elim found as (λ (o : Option (Bor (Span H))). IsItemAt ss k o → r ≡ option_map (λ (s : Bor (Span H)). s.now.head) o → r ≡ option_map (λ (l : Headed H T). l.head) (option_map (list_at items) (slice_get ss k))) [
        | None ↦ λ a e. rw (slice_get_past ss k a.3) e
        | Some s ↦ λ a e. rw (slice_get_read ss (length ss) k s.now refl a.3.0 (a.3.1 s.now)) e
      ] at is)

-- a list is added to l: `new` and `more` are the items and the spans after it
module _ {H T : Type 0} (l : Lists H T) (list new : List T) (more : List (Span H)) (s : Span H) (extends : new ≡ vec_items l.items ++ list) (pushes : more ≡ vec_items l.spans ++ s ∷ []) (start : s.«from» ≡ vec_len l.items) (end : s.to ≡ length new) where
  long : vec_len l.items ≡ length (vec_items l.items)
  long = omega (arith, l.items.ok.0)

  longer : length new ≡ vec_len l.items + length list
  longer = ap length extends ∙ length-append (vec_items l.items) list ∙ ap (λ n. n + length list) (sym long)

  within : All (IsWithin (length (vec_items l.items))) (vec_items l.spans)
  within = subst (λ n. All (IsWithin n) (vec_items l.spans)) long l.within

  pub added_within : (n : ℕ) → n ≡ length new → All (IsWithin n) more
  added_within n same =
      rw pushes
      (All-push (IsWithin n) (vec_items l.spans) s (All-weaker (IsWithin (vec_len l.items)) (IsWithin n) (λ x h. (h.0, omega (arith, longer))) (vec_items l.spans) l.within) (omega (arith, longer), omega arith))

  pub added_lists : map (list_at new) more ≡ lists_of l ++ headed s.head list ∷ []
  added_lists =
      rw (extends, pushes)
      (map_push (list_at (vec_items l.items ++ list)) (vec_items l.spans) s
      ∙ ap (λ (ls : List (Headed H T)). ls ++ list_at (vec_items l.items ++ list) s ∷ []) (lists_longer (vec_items l.items) list (vec_items l.spans) within)
      ∙ ap (λ (x : List T). lists_of l ++ headed s.head x ∷ []) (ap (take (s.to - s.«from»)) (drop_at (vec_items l.items) list s.«from» (omega (arith, long))) ∙ take_all (s.to - s.«from») list (omega (arith, longer))))

  pub added_counted : (n : ℕ) → n ≡ length new → n ≡ items_in (map (list_at new) more)
  added_counted n same =
      omega (arith, longer, l.counted, ap (items_in {H = H} {T = T}) added_lists, sum_by_push (λ (k : Headed H T). length k.items) (lists_of l) (headed s.head list))
