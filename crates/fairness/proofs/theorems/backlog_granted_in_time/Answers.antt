-- The theorem is the contract.
-- Assumes nothing.
use Rattle.fairness.proofs.Backlog.{backlog_granted_in_time}
use Rattle.fairness.proofs.theorems.backlog_granted_in_time.Goals as goal

pub returns : goal.returns
returns c = backlog_granted_in_time
