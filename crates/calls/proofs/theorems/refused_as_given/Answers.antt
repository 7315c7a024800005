-- The theorem is the contract.
-- Assumes nothing.
use Rattle.calls.proofs.EveryCall.{refused_as_given}
use Rattle.calls.proofs.theorems.refused_as_given.Goals as goal

pub returns : goal.returns
returns c = refused_as_given
