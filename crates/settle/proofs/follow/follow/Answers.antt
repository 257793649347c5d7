use Rattle.std.proofs.Common.{sym}
use Rattle.order.specs.Variables.{ranges_of}
use Rattle.ties.specs.Views.{roots_of}
use Rattle.settle.proofs.Following.{follows_none, follows_tie}
use Rattle.settle.proofs.follow.follow.Goals as goal

pub returns-then-not-stand-clause-followed : goal.returns-then-not-stand-clause-followed
returns-then-not-stand-clause-followed c long =
    follows_none (ranges_of c.args.variables.now) c.args.ties.now c.args.premise.now c.args.gives (sym c.if-not-stand.ensures)

pub returns-clause-followed : goal.returns-clause-followed
returns-clause-followed c long =
    follows_tie (ranges_of c.args.variables.now) c.args.ties.now (roots_of c.tie.new.ties) c.args.premise.now c.args.gives long (sym c.if-not-stand.ensures) c.tie.result (rw (c.literal.ensures, c.literal-2.ensures) at c.tie.ensures.tying)
