use Rattle.settle.proofs.Heeding.{heeds_nothing, heeds_one}
use Rattle.settle.proofs.heed.heed.Goals as goal

pub returns-in-Nothing-clause-heeded : goal.returns-in-Nothing-clause-heeded
returns-in-Nothing-clause-heeded c long = heeds_nothing _ _ _ c.in-Nothing.ensures

pub returns-in-One-clause-heeded : goal.returns-in-One-clause-heeded
returns-in-One-clause-heeded c long = heeds_one _ _ c.args.ties.now _ c.in-One.u long c.in-One.ensures c.tie.result c.tie.ensures.tying
