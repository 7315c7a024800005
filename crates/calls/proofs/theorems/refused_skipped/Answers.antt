-- The theorem is the contract.
-- Assumes nothing.
use Rattle.calls.proofs.EveryCall.{refused_skipped}
use Rattle.calls.proofs.theorems.refused_skipped.Goals as goal

pub returns : goal.returns
returns c = refused_skipped
