-- `grant` counts by the network.
-- Assumes nothing.
use Rattle.std.specs.Prelude.{◌≡◌, refl}
use Rattle.tracer.specs.Trace.{trace, end, computes, runs, leaves, either}
use Rattle.kogge_stone.proofs.KoggeStoneRoundRobin.grant.Code as code

-- Read off the code: a small cycle counts once and so does a large one, and nothing else is done
one_round : trace (code.function).body end
    ≡ computes (either (runs "kogge_stone::count_round" (leaves end)) end (runs "kogge_stone::count_round" (leaves end)))
one_round = refl
