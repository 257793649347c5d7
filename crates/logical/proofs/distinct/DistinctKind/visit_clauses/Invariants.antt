use Rattle.std.proofs.Common.{length}
use Rattle.logical.specs.Distinct.{apart_later, all_apart}
use Rattle.kinds.proofs.Loops.{Leads}
use Rattle.logical.proofs.distinct.DistinctKind.visit_clauses.Given as goal

abbrev pub invariant-loop-p : goal.invariant-loop-p
invariant-loop-p g l =
    Leads g.V.Visitor.step (apart_later l.items l.ranges) l.p (length l.items) l.visitor (all_apart l.items l.ranges) l.initial.visitor
