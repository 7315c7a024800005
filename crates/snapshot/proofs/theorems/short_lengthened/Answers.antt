-- The theorem is the contract.
-- Assumes nothing.
use Rattle.snapshot.proofs.RoundTrips.{short_lengthened}
use Rattle.snapshot.proofs.theorems.short_lengthened.Goals as goal

pub returns : goal.returns
returns c = short_lengthened
