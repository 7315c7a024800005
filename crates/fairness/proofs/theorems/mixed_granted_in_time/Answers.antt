-- The theorem is the contract.
-- Assumes nothing.
use Rattle.fairness.proofs.Waiting.{mixed_granted_in_time}
use Rattle.fairness.proofs.theorems.mixed_granted_in_time.Goals as goal

pub returns : goal.returns
returns c = mixed_granted_in_time
