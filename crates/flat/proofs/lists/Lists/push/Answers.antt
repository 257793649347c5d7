use Rattle.std.proofs.Common.{◌≡◌, length, vec_items, vec_len, arith}
use Rattle.flat.specs.declared.lists.Span.{Span}
use Rattle.flat.proofs.Standing.{added_within, added_lists, added_counted}
use Rattle.flat.proofs.lists.Lists.push.Goals as goal

pub invariant_of-self-2 : goal.invariant_of-self-2
invariant_of-self-2 g c =
    let new = c.extend_from_slice.new.self in
    let span : Span g.row.H.Denot = record { head = c.args.head; «from» = c.len-from.result; to = c.len.result } in
    let long : vec_len new ≡ length (vec_items new) = omega (arith, new.ok.0) in
    let end : c.len.result ≡ length (vec_items new) = omega arith in
    record {
      within = added_within c.reserve.new.self c.args.list.now (vec_items new) (vec_items c.push_reserved.new.self) span c.in_ok-extend_from_slice.ensures.items c.push_reserved.ensures.items c.len-from.ensures end (vec_len new) long;
      counted = added_counted c.reserve.new.self c.args.list.now (vec_items new) (vec_items c.push_reserved.new.self) span c.in_ok-extend_from_slice.ensures.items c.push_reserved.ensures.items c.len-from.ensures end (vec_len new) long;
    }

pub returns-clause-lists : goal.returns-clause-lists
returns-clause-lists g c =
    let new = c.extend_from_slice.new.self in
    let span : Span g.row.H.Denot = record { head = c.args.head; «from» = c.len-from.result; to = c.len.result } in
    let end : c.len.result ≡ length (vec_items new) = omega (arith, new.ok.0) in
    rw (← c.reserve.ensures.same)
    (added_lists c.reserve.new.self c.args.list.now (vec_items new) (vec_items c.push_reserved.new.self) span c.in_ok-extend_from_slice.ensures.items c.push_reserved.ensures.items c.len-from.ensures end)
