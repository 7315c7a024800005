-- The theorem is the contract.
-- Assumes nothing.
use Rattle.fairness.proofs.Waiting.{granted_in_time}
use Rattle.fairness.proofs.theorems.granted_in_time.Goals as goal

pub returns : goal.returns
returns c = granted_in_time
