-- The theorem is the contract.
-- Assumes nothing.
use Rattle.snapshot.proofs.RoundTrips.{short_read_alike}
use Rattle.snapshot.proofs.theorems.short_read_alike.Goals as goal

pub returns : goal.returns
returns c = short_read_alike
