use Rattle.settle.proofs.LeftSteps.{goes_on, is_enough, nothing_left, one_left}
use Rattle.settle.proofs.left.left_of.Goals as goal

pub returns-in_default : goal.returns-in_default
returns-in_default c = is_enough _ _ _ _ _ c.loop-bound.invariant _ _ c.loop-bound-test.true c.root_of.ensures c.in_default.ensures

pub loop-bound-preserved : goal.loop-bound-preserved
loop-bound-preserved c = goes_on _ _ _ _ _ c.loop-bound.invariant _ _ c.loop-bound-test.true c.root_of.ensures _ c.in-Some.ensures

pub returns-in-False : goal.returns-in-False
returns-in-False c = nothing_left _ _ _ _ _ c.loop-bound.invariant c.loop-bound-test.false c.in-False.is

pub returns-in_default-last : goal.returns-in_default-last
returns-in_default-last c = one_left _ _ _ _ _ c.loop-bound.invariant c.loop-bound-test.false c.in_default-last.not-False
