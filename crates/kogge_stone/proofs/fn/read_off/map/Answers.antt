-- The closure of `read_off` counts nothing.
-- Assumes nothing.
use Rattle.std.specs.Prelude.{◌≡◌, refl}
use Rattle.tracer.specs.Trace.{trace, end, runs, leaves}
use Rattle.kogge_stone.proofs.fn.read_off.map.Code as code

-- Read off the code: the place is turned into a station
one_station : trace (code.function).body end ≡ runs "kogge_stone::station" (leaves end)
one_station = refl
