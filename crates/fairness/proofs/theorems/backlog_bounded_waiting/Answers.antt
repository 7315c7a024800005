-- The theorem is the contract.
-- Assumes nothing.
use Rattle.fairness.proofs.Waiting.{backlog_bounded_waiting}
use Rattle.fairness.proofs.theorems.backlog_bounded_waiting.Goals as goal

pub returns : goal.returns
returns c = backlog_bounded_waiting
