-- A list of clauses, shown to the costs and to a sink. Assumes nothing.
use Rattle.std.proofs.Common.{◌≡◌, ◌+◌, ◌≤◌, List, [], ◌∷◌, ◌++◌, length, sym, refl, ap, ◌∙◌, subst, arith, length-append}
use Rattle.std.specs.List.{AllByRecursion}
use Rattle.order.specs.declared.bound.Bound.{Bound}
use Rattle.order.specs.Variables.{ranges_of}
use Rattle.order.specs.Visits.{After}
use Rattle.sink.specs.declared.lit.Lit.{Lit}
use Rattle.sink.specs.Sinks.{Costs, State, capped, with_clause}
use Rattle.cnf.specs.declared.encode.Encoder.{Encoder}
use Rattle.cnf.specs.declared.cost.Costing.{Costing}
use Rattle.cnf.specs.declared.put.Putting.{Putting}
use Rattle.cnf.specs.declared.roots.Roots.{Ghosts}
use Rattle.cnf.specs.Encoded.{root_in, encoded, encoded_all, EncodesSame}
use Rattle.cnf.specs.Numbered.{written_all}
use Rattle.cnf.specs.Passed.{total_cost, with_clauses, Counted, Put}

total_append : (k : Costs) (cs ds : List (List Lit)) → total_cost k (cs ++ ds) ≡ total_cost k cs + total_cost k ds
total_append k [] ds = omega arith
total_append k (c ∷ cs) ds = omega (arith, total_append k cs ds)

with_append : (k : Costs) (s : State) (cs ds : List (List Lit)) → with_clauses k s (cs ++ ds) ≡ with_clauses k (with_clauses k s cs) ds
with_append k s [] ds = refl
with_append k s (c ∷ cs) ds = with_append k (with_clause k s c) cs ds

module _ {R : Type 0} {g : Ghosts R} where
  encoded_same : (e e' : Encoder R g) (cs : List (List Bound)) → EncodesSame e e' → encoded_all e' cs ≡ encoded_all e cs
  encoded_same e e' cs same =
      ap (λ v. written_all (ranges_of v.now) (root_in e'.numbering) cs) same.variables
      ∙ ap (λ n. written_all (ranges_of e.variables.now) (root_in n) cs) same.numbering

  -- the costs of all that is written
  pub record Counted-all {S : Type 0} (k : Costs) (s : Costing R S g) (cs : List (List Bound)) (t : Costing R S g) : Type 0 where
    pub lender : t.encoder.ghost_name ≡ s.encoder.ghost_name
    pub encoder : EncodesSame s.encoder.now t.encoder.now
    pub clauses : capped t.tally.clauses ≡ capped (s.tally.clauses + length (encoded_all s.encoder.now cs))
    pub cost : capped t.tally.cost ≡ capped (s.tally.cost + total_cost k (encoded_all s.encoder.now cs))

  pub counted_all : {S : Type 0} (k : Costs) (cs : List (List Bound)) (s t : Costing R S g) → AllByRecursion (λ c. length c ≤ 64) cs → After (Counted k) s cs t → Counted-all k s cs t
  counted_all k [] s t short h = subst (Counted-all k s []) h (record {
    lender = refl;
    encoder = record { variables = refl; numbering = refl };
    clauses = omega arith;
    cost = omega arith;
  })
  counted_all k (c ∷ cs) s t short h =
      let one = h.1.0 in
      let rest = counted_all k cs h.0 t short.1 h.1.1 in
      let later = encoded_same s.encoder.now h.0.encoder.now cs one.encoder in
      let first = encoded s.encoder.now c in
      record {
        lender = rest.lender ∙ one.lender;
        encoder = record { variables = rest.encoder.variables ∙ one.encoder.variables; numbering = rest.encoder.numbering ∙ one.encoder.numbering };
        clauses = omega (arith, rest.clauses, one.clauses short.0, ap length later, length-append first (encoded_all s.encoder.now cs));
        cost = omega (arith, rest.cost, one.cost short.0, ap (total_cost k) later, total_append k first (encoded_all s.encoder.now cs));
      }

  -- a sink that was given all that is written
  pub record Put-all {S : Type 0} (k : Costs) (state : S → State) (s : Putting R S g) (cs : List (List Bound)) (t : Putting R S g) : Type 0 where
    pub lender : t.sink.ghost_name ≡ s.sink.ghost_name
    pub sink : state t.sink.now ≡ with_clauses k (state s.sink.now) (encoded_all s.encoder.now cs)

  pub put_all : {S : Type 0} (k : Costs) (state : S → State) (cs : List (List Bound)) (s t : Putting R S g) → AllByRecursion (λ c. length c ≤ 64) cs → After (Put k state) s cs t → Put-all k state s cs t
  put_all k state [] s t short h = subst (Put-all k state s []) h (record { lender = refl; sink = refl })
  put_all k state (c ∷ cs) s t short h =
      let one = h.1.0 in
      let rest = put_all k state cs h.0 t short.1 h.1.1 in
      let later = encoded_same s.encoder.now h.0.encoder.now cs one.encoder in
      record {
        lender = rest.lender ∙ one.lender;
        sink =
            rest.sink
            ∙ ap (with_clauses k (state h.0.sink.now)) later
            ∙ ap (λ z. with_clauses k z (encoded_all s.encoder.now cs)) (one.sink short.0)
            ∙ sym (with_append k (state s.sink.now) (encoded s.encoder.now c) (encoded_all s.encoder.now cs));
      }
