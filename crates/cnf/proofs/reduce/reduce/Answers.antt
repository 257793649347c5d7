use Rattle.std.proofs.Common.{◌+◌, ◌<◌, length, vec_items, vec_len, sym, ap, ◌∙◌, subst, arith}
use Rattle.order.specs.declared.literal.Literal.{Literal}
use Rattle.order.specs.declared.literal.Literal.TheVariants.{False}
use Rattle.cnf.specs.declared.role.Role.TheVariants.{Settles, Idle, New}
use Rattle.cnf.specs.declared.room.Room.{Room}
use Rattle.cnf.specs.Numbered.{rooted}
use Rattle.cnf.specs.Roles.{Plays}
use Rattle.cnf.proofs.Keeping.{Kept, role_settles, role_idle, role_new}
use Rattle.cnf.proofs.Rooting.{length_rooted, rooted_at}
use Rattle.cnf.proofs.reduce.reduce.Goals as goal
use Rattle.cnf.proofs.reduce.reduce.Goals.{in-Idle, in-New}

pub returns-in-Settles-clause-value : goal.returns-in-Settles-clause-value
returns-in-Settles-clause-value g c =
    let rs = c.args.variables.now.ranges.items in
    let f = g.R.Roots.root c.args.roots.now in
    let here = rooted_at rs f c.args.clause.now c.loop-bound.bound-index _ False _ c.root_of-l.result c.loop-bound-test.true c.literal.ensures c.root_of-l.ensures in
    let lt : c.loop-bound.bound-index < length (rooted rs f c.args.clause.now) = omega (arith, length_rooted rs f c.args.clause.now) in
    role_settles _ c.loop-bound.bound-index _ False c.root_of-l.result here lt c.loop-bound.invariant.kept (subst (λ d. Plays d c.root_of-l.result Settles) c.deref.ensures.value c.in-Settles.ensures)

pub loop-bound-preserved : goal.loop-bound-preserved
loop-bound-preserved g c =
    let rs = c.args.variables.now.ranges.items in
    let f = g.R.Roots.root c.args.roots.now in
    let here = rooted_at rs f c.args.clause.now c.loop-bound.bound-index _ False _ c.root_of-l.result c.loop-bound-test.true c.literal.ensures c.root_of-l.ensures in
    let lt : c.loop-bound.bound-index < length (rooted rs f c.args.clause.now) = omega (arith, length_rooted rs f c.args.clause.now) in
    let old = c.loop-bound.invariant in
    elim c.match-role_of.branch [
      | in-Idle w ↦
          let out = ap (λ (r : Room Literal). r.literals) w.room-is in
          let plays = subst (λ d. Plays d c.root_of-l.result Idle) c.deref.ensures.value w.in-Idle.ensures in
          record {
            kept = subst (λ v. Kept (rooted rs f c.args.clause.now) (c.loop-bound.bound-index + 1) (vec_items v)) (sym out) (role_idle _ _ _ False _ here lt old.kept plays);
            short = omega (arith, ap vec_len out, old.short);
          }
      | in-New w ↦
          let out = ap (λ (r : Room Literal). r.literals) w.room-is in
          let plays = subst (λ d. Plays d c.root_of-l.result New) c.deref.ensures.value w.in-New.ensures in
          record {
            kept = subst (Kept (rooted rs f c.args.clause.now) (c.loop-bound.bound-index + 1)) (sym (ap vec_items out ∙ w.push_reserved.ensures.items)) (role_new _ _ _ False _ here lt old.kept plays);
            short = omega (arith, ap vec_len out, old.short, w.push_reserved.ensures.len);
          }
    ]
