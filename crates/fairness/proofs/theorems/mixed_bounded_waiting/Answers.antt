-- The theorem is the contract.
-- Assumes nothing.
use Rattle.fairness.proofs.Waiting.{mixed_bounded_waiting}
use Rattle.fairness.proofs.theorems.mixed_bounded_waiting.Goals as goal

pub returns : goal.returns
returns c = mixed_bounded_waiting
