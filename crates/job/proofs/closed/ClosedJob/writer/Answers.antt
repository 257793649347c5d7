use Rattle.job.proofs.closed.ClosedJob.writer.Goals as goal

pub returns : goal.returns
returns c = λ i. record { ranges = c.in_ok-new.ensures.ranges i; root = c.in_ok-new.ensures.roots i }
