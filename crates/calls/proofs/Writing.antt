-- What is written fits: a small header, few proper clauses, small costs, and a sink that takes it all. Assumes nothing.
use Rattle.std.proofs.Common.{◌≡◌, ℕ, zero, suc, ◌+◌, ◌-◌, ◌*◌, ◌<◌, ◌≤◌, Bool, true, false, cond, not, ◌||◌, ltb, leb, List, [], ◌∷◌, ◌++◌, map, length, is_some, Some, Ok, Err, Result, sym, refl, ap, ◌∙◌, mul-suc, arith, lit≤, length-append}
use Rattle.std.specs.List.{AllByRecursion}
use Rattle.std.proofs.lemmas.List.{append_assoc, append-nil}
use Rattle.std.proofs.lemmas.Bool.Decides.{nat_tests}
use Rattle.std.proofs.lemmas.Bool.{le-leb, ltb-false}
use Rattle.order.specs.declared.bound.Bound.{Bound}
use Rattle.order.specs.declared.literal.Literal.{Literal}
use Rattle.order.specs.declared.literal.Literal.TheVariants.{True}
use Rattle.order.specs.declared.range.Range.{Range}
use Rattle.order.specs.declared.variables.Variables.{Variables}
use Rattle.order.specs.Ranges.{total_bits}
use Rattle.order.specs.Variables.{ranges_of}
use Rattle.ties.specs.declared.classes.Ties.{Ties}
use Rattle.ties.specs.Roots.{free_to, root_at, Named, Fixed}
use Rattle.ties.specs.Views.{roots_of}
use Rattle.kinds.specs.Meaning.{Meaning, Lawful as LawfulKind}
use Rattle.rows.specs.declared.storage.Rows.{Rows}
use Rattle.rows.specs.Rows.{rows_of}
use Rattle.rows.proofs.Posting.{rows_small}
use Rattle.sink.specs.declared.header.Header.{Header}
use Rattle.sink.specs.declared.lit.Lit.{Lit}
use Rattle.sink.specs.Sinks.{Costs, State, Lawful, proper_header, proper_clause, takes_header, with_header, takes_clause, with_clause, capped}
use Rattle.cnf.specs.Numbered.{lit, written_clause, written_all, rooted}
use Rattle.cnf.specs.Reduced.{has, struck, opposed}
use Rattle.cnf.specs.Passed.{total_cost, with_clauses}
use Rattle.cnf.proofs.Proper.{all_proper}
use Rattle.calls.specs.declared.refusal.Refusal.{Refusal}
use Rattle.calls.specs.declared.refusal.Refusal.TheVariants.{HeaderPresent, NoSpace}
use Rattle.calls.specs.Catalogues.{Catalogue}
use Rattle.calls.specs.Jobs.{Seated}
use Rattle.calls.specs.Questions.{Question, ask, first_no, verdict}
use Rattle.calls.specs.View.{View, free_bits}
use Rattle.calls.specs.Writes.{clauses_of, written_of, writing}
use Rattle.calls.proofs.Asking.{all_yes}
use Rattle.calls.proofs.Clausing.{Short, clauses_short, clauses_few, variables_small}

-- a file of n variables and the clauses ws that a sink can take
pub record Proper (n : ℕ) (ws : List (List Lit)) : Type 0 where
  pub small : n ≤ 4096
  pub few : length ws < 2147483648
  pub fits : AllByRecursion (λ w. proper_clause n w ≡ true) ws

-- a clause is written once or not at all
one_at_most : {X Y : Type 0} (g : X → Y) (b : Bool) (x : X) → length (map g (cond b [] (x ∷ []))) ≤ 1
one_at_most g true x = lit≤ tt
one_at_most g false x = lit≤ tt

module _ (rs : List Range) (f : ℕ → Literal) where
  clause_few : (c : List Bound) → length (written_clause rs f c) ≤ 1
  clause_few c = one_at_most (map (lit f)) (has (rooted rs f c) True || opposed (rooted rs f c)) (struck (rooted rs f c))

  pub written_few : (cs : List (List Bound)) → length (written_all rs f cs) ≤ length cs
  written_few [] = lit≤ tt
  written_few (c ∷ cs) = omega (arith, length-append (written_clause rs f c) (written_all rs f cs), clause_few c, written_few cs)

free_few : (f : ℕ → Literal) (n : ℕ) → free_to f n ≤ n
free_few f zero = lit≤ tt
free_few f (suc n) = grind (arith, free_few f n)

-- the file of short clauses that are few
pub all_written_proper : (rs : List Range) (f : ℕ → Literal) → Named f → Fixed f → total_bits rs ≤ 4096 → (cs : List (List Bound)) → AllByRecursion Short cs → length cs < 2147483648 → Proper (free_to f (total_bits rs)) (written_all rs f cs)
all_written_proper rs f named fixed bits cs short few = record {
  small = omega (arith, free_few f (total_bits rs));
  few = omega (arith, written_few rs f cs);
  fits = all_proper rs f named fixed cs short;
}

-- a sink with a header and room for all clauses takes all
takes_all : (u : Costs) (h : Header) (ws : List (List Lit)) (s : State) → s.header ≡ Some h → AllByRecursion (λ w. proper_clause h.variables w ≡ true) ws → total_cost u ws ≤ s.left → with_clauses u s ws ≡ record { header = s.header; clauses = s.clauses ++ ws; left = s.left - total_cost u ws }
takes_all u h [] s e all fits = λ i. record { header = s.header; clauses = sym (append-nil s.clauses) i; left = left i }
  where
    left : s.left ≡ s.left - 0
    left = omega arith
takes_all u h (w ∷ ws) s e all fits =
    let room : u.clause w ≤ s.left = omega arith in
    let yes : takes_clause u s w ≡ true = grind (arith, nat_tests) in
    let z : State = record { header = s.header; clauses = s.clauses ++ w ∷ []; left = s.left - u.clause w } in
    let one : with_clause u s w ≡ z = ap (λ b. cond b z s) yes in
    let rest = takes_all u h ws z e all.1 (omega arith) in
    let left : (s.left - u.clause w) - total_cost u ws ≡ s.left - (u.clause w + total_cost u ws) = omega arith in
    ap (λ z. with_clauses u z ws) one ∙ rest
    ∙ (λ i. record { header = s.header; clauses = append_assoc s.clauses (w ∷ []) ws i; left = left i })

-- a sink takes a header that fits
takes_header_all : (u : Costs) (h : Header) (s : State) → is_some s.header ≡ false → proper_header h ≡ true → u.header h ≤ s.left → with_header u s h ≡ record { header = Some h; clauses = s.clauses; left = s.left - u.header h }
takes_header_all u h s none proper fits =
    let yes : takes_header u s h ≡ true = grind (arith, nat_tests) in
    ap (λ b. cond b (record { header = Some h; clauses = s.clauses; left = s.left - u.header h }) s) yes

-- a file of n variables and the clauses ws: its header, its cost, and what writing it comes to
abbrev head : ℕ → List (List Lit) → Header
head n ws = record { variables = n; clauses = length ws }

abbrev file_cost : Costs → ℕ → List (List Lit) → ℕ
file_cost u n ws = u.header (head n ws) + total_cost u ws

abbrev questions : Costs → ℕ → List (List Lit) → State → List Question
questions u n ws s = ask (not (is_some s.header)) HeaderPresent ∷ ask (leb (file_cost u n ws) s.left) NoSpace ∷ []

abbrev after : Costs → ℕ → List (List Lit) → State → State
after u n ws s = record { header = Some (head n ws); clauses = ws; left = s.left - file_cost u n ws }

abbrev filing : Costs → ℕ → List (List Lit) → State → Result (Header × State) Refusal
filing u n ws s = verdict (first_no (questions u n ws s)) (head n ws) (after u n ws s)

-- clauses cost little
total_small : (u : Costs) → Lawful u → (n : ℕ) → n ≤ 4096 → (ws : List (List Lit)) → AllByRecursion (λ w. proper_clause n w ≡ true) ws → total_cost u ws ≤ 1024 * length ws
total_small u law n h [] all = lit≤ tt
total_small u law n h (w ∷ ws) all = omega (arith, law.small_clause n w h all.0, total_small u law n h ws all.1, mul-suc 1024 (length ws))

-- what was made of a proper file before it is written: its header, and what it costs in all
pub record Measured (u : Costs) (n : ℕ) (ws : List (List Lit)) (h : Header) (t : ℕ) : Type 0 where
  pub proper : Proper n ws
  pub header : h ≡ head n ws
  pub cost : t ≡ file_cost u n ws

module _ (n : ℕ) (ws : List (List Lit)) (p : Proper n ws) where
  pub header_proper : proper_header (head n ws) ≡ true
  header_proper = grind (arith, nat_tests)

  -- costs that stay at the largest number do not come there
  module _ (u : Costs) (law : Lawful u) where
    pub clauses_small : total_cost u ws ≤ 2199023255552
    clauses_small = omega (arith, total_small u law n p.small ws p.fits, p.few)

    pub measured : (h : Header) (a b t : ℕ) → h ≡ head n ws → a ≡ u.header h → capped b ≡ capped (total_cost u ws) → t ≡ capped (a + b) → Measured u n ws h t
    measured h a b t made first rest sum =
        let same : u.header h ≡ u.header (head n ws) = ap u.header made in
        record {
          proper = p;
          header = made;
          cost = omega (arith, law.small_header (head n ws) header_proper, clauses_small);
        }

module _ {u : Costs} {n : ℕ} {ws : List (List Lit)} {h : Header} {t : ℕ} (m : Measured u n ws h t) (s : State) (none : is_some s.header ≡ false) where
  -- there is no room for the whole file
  pub no_room : ltb s.left t ≡ true → filing u n ws s ≡ Err NoSpace
  no_room over = grind (arith, nat_tests, m.cost)

  -- the whole file is written
  pub whole : (s' s'' : State) → s.clauses ≡ [] → ltb s.left t ≡ false → s' ≡ with_header u s h → s'' ≡ with_clauses u s' ws → filing u n ws s ≡ Ok (h, s'')
  whole s' s'' empty room e e' =
      let fits : file_cost u n ws ≤ s.left = omega (arith, m.cost, ltb-false s.left t room) in
      let headed = e ∙ ap (with_header u s) m.header ∙ takes_header_all u (head n ws) s none (header_proper n ws m.proper) (omega arith) in
      let z : State = record { header = Some (head n ws); clauses = s.clauses; left = s.left - u.header (head n ws) } in
      let taken = takes_all u (head n ws) ws z refl m.proper.fits (omega arith) in
      let left : (s.left - u.header (head n ws)) - total_cost u ws ≡ s.left - file_cost u n ws = omega arith in
      let all : after u n ws s ≡ s'' = sym (e' ∙ ap (λ z. with_clauses u z ws) headed ∙ taken ∙ (λ i. record { header = Some (head n ws); clauses = empty i ++ ws; left = left i })) in
      let yes = all_yes (questions u n ws s) (ap not none, (le-leb (file_cost u n ws) s.left fits, tt)) in
      ap (λ o. verdict o (head n ws) (after u n ws s)) yes ∙ (λ i. Ok (sym m.header i, all i))

-- the file of a job, by whether it is void
pub file_by : (k : Catalogue) (u : Costs) (v : View) (s : State) {b : Bool} → v.void ≡ b → writing k u v s ≡ filing u (cond b 0 (free_bits v)) (cond b ([] ∷ []) (written_of k.meaning v.ranges v.root v.rows)) s
file_by k u v s e = ap (λ b. filing u (cond b 0 (free_bits v)) (cond b ([] ∷ []) (written_of k.meaning v.ranges v.root v.rows)) s) e

-- the file of a void job, and what was counted of it
void_proper : Proper 0 ([] ∷ [])
void_proper = record { small = lit≤ tt; few = lit≤ tt; fits = (refl, tt) }

pub void_measured : (u : Costs) → Lawful u → (a b t : ℕ) → a ≡ u.header (head 0 ([] ∷ [])) → b ≡ capped (u.clause []) → t ≡ capped (a + b) → Measured u 0 ([] ∷ []) (head 0 ([] ∷ [])) t
void_measured u law a b t first rest sum = measured 0 ([] ∷ []) void_proper u law _ a b t refl first (omega arith) sum

-- the file of a job that is not void, and what was counted of it
module _ (m : ℕ → Meaning) (law : (code : ℕ) → LawfulKind (m code)) (v : Variables) (q : Ties) (r : Rows) where
  abbrev variables : ℕ
  variables = free_to (root_at (roots_of q)) (total_bits (ranges_of v))

  abbrev all-clauses : List (List Bound)
  all-clauses = clauses_of m (ranges_of v) (root_at (roots_of q)) (rows_of r)

  abbrev file : List (List Lit)
  file = written_of m (ranges_of v) (root_at (roots_of q)) (rows_of r)

  module _ (seated : Seated m (ranges_of v) (rows_of r)) where
    pub job_short : AllByRecursion Short all-clauses
    job_short = clauses_short m law (ranges_of v) (root_at (roots_of q)) (rows_of r) seated

    pub job_proper : Proper variables file
    unfolding written_of
    job_proper =
        all_written_proper (ranges_of v) (root_at (roots_of q)) q.named q.fixed (variables_small v) all-clauses job_short
        (omega (arith, clauses_few m law (ranges_of v) (root_at (roots_of q)) (rows_of r) seated, variables_small v, rows_small r))

    pub job_measured : (u : Costs) → Lawful u → {free clauses count cost a t : ℕ} → free ≡ variables → clauses ≡ length file → (clauses < 4294967296 → count ≡ clauses) → cost ≡ total_cost u file → a ≡ u.header (record { variables = free; clauses = count }) → t ≡ capped (a + cost) → Measured u variables file (record { variables = free; clauses = count }) t
    job_measured u lawful is_free is-clauses exact is-cost first sum =
        let same = exact (omega (arith, is-clauses, job_proper.few)) in
        measured _ _ job_proper u lawful _ _ _ _ (λ i. record { variables = is_free i; clauses = (same ∙ is-clauses) i }) first (ap capped is-cost) sum
