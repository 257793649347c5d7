-- What is written of a job that is lent to an encoder fits. Assumes nothing.
use Rattle.std.proofs.Common.{◌≡◌, ℕ, ◌+◌, ◌^◌, ◌<◌, ◌≤◌, true, leb, ltb, length, ap, arith}
use Rattle.std.proofs.lemmas.Bool.{and_from, le-leb, lt-ltb}
use Rattle.order.specs.Orders.{orders}
use Rattle.order.specs.Ranges.{total_bits}
use Rattle.order.specs.Variables.{ranges_of}
use Rattle.ties.specs.declared.classes.Ties.{Ties}
use Rattle.ties.specs.Roots.{free_to}
use Rattle.sink.specs.declared.header.Header.{Header}
use Rattle.sink.specs.Sinks.{Costs, Lawful, capped, proper_header}
use Rattle.cnf.specs.contracts.roots.TiesRoots.TheImpl.{ghosts}
use Rattle.cnf.specs.declared.encode.Encoder.{Encoder}
use Rattle.cnf.specs.Encoded.{encoder_ranges, encoder_root, root_in, EncodesSame}
use Rattle.cnf.specs.Passed.{total_cost}
use Rattle.cnf.proofs.NumberSteps.{free_few}
use Rattle.calls.proofs.Clausing.{orders_short, orders_few, variables_small}
use Rattle.calls.proofs.Writing.{Proper, Measured, written_few, all_written_proper, header_proper as proper_takes, clauses_small, measured}
use Rattle.job.specs.Views.{encoder_view}
use Rattle.job.specs.View.{View}
use Rattle.job.specs.Writes.{output, header_of}

pub view_same : (e e' : Encoder Ties ghosts) → EncodesSame e e' → encoder_view e' ≡ encoder_view e
view_same e e' same = λ i. record { ranges = ranges_of (same.variables i).now; root = root_in (same.numbering i) }

-- of any view: there are no more clauses than bits, and a sink takes the header
pub output_few : (v : View) → length (output v) ≤ total_bits v.ranges
unfolding output
output_few v = omega (arith, written_few v.ranges v.root (orders v.ranges), orders_few v.ranges (length v.ranges))

pub header_proper : (v : View) → total_bits v.ranges ≤ 4096 → proper_header (header_of v) ≡ true
header_proper v small =
    let low = free_few v.root (total_bits v.ranges) in
    let few = output_few v in
    and_from (leb (header_of v).variables 4096) (ltb (header_of v).clauses 2147483648) (le-leb (header_of v).variables 4096 (omega arith)) (lt-ltb (header_of v).clauses 2147483648 (omega arith))

module _ (e : Encoder Ties ghosts) where
  abbrev free : ℕ
  free = free_to (encoder_root e) (total_bits (encoder_ranges e))

  pub output_proper : Proper free (output (encoder_view e))
  unfolding output
  output_proper =
      let rs = encoder_ranges e in
      let ties = e.numbering.roots.now in
      let bits = variables_small e.variables.now in
      all_written_proper rs (encoder_root e) ties.named ties.fixed bits (orders rs) (orders_short rs) (omega (arith, orders_few rs (length rs), bits))

  -- the header that the code makes, and what all costs, which is little
  pub job_measured : (k : Costs) → Lawful k → (n m cost a : ℕ) → n ≡ free → m ≡ length (output (encoder_view e)) → cost ≡ total_cost k (output (encoder_view e)) → a ≡ k.header (record { variables = n; clauses = m }) → (a + cost < 2 ^ 64) × Measured k free (output (encoder_view e)) (record { variables = n; clauses = m }) (a + cost)
  job_measured k law n m cost a is-free is-clauses is-cost is-header =
      let ws = output (encoder_view e) in
      let head : ◌≡◌ {A = Header} (record { variables = n; clauses = m }) (record { variables = free; clauses = length ws }) = λ i. record { variables = is-free i; clauses = is-clauses i } in
      let small : a + cost < 2 ^ 64 = omega (arith, law.small_header (record { variables = free; clauses = length ws }) (proper_takes free ws output_proper), is-header, ap k.header head, is-cost, clauses_small free ws output_proper k law) in
      (small, measured free ws output_proper k law _ a cost (a + cost) head is-header (ap capped is-cost) (omega arith))
