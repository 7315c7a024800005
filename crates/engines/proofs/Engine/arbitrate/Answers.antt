-- The engine that is named decides, once.
-- Assumes nothing.
use Rattle.std.specs.Prelude.{◌≡◌, refl, [], ◌∷◌}
use mir.Syntax.{Symbol, Opd, copy, place, variant, field}
use Rattle.tracer.specs.Trace.{named, Trace, trace, end, calls, runs, leaves, chooses, case}
use Rattle.engines.proofs.Engine.arbitrate.Code as code

-- the parameter `self`, by its variant: 0 is the scan, 1 the tree, 2 the thermometer arbiter, 3 the Kogge-Stone arbiter
abbrev engine : Opd
engine = copy (place 1 (variant 0 ∷ field 0 ∷ []))

-- what the arbiters of the round-robin rule have alike, of one of them
abbrev arbitrated : Symbol → Symbol → Symbol → Symbol → Trace
arbitrated state settle grant ask =
    calls (named "arbiter::engine::RoundRobin::arbitrate" (state ∷ settle ∷ grant ∷ ask ∷ "core::clone::Clone+copy::clone" ∷ [])) end

-- Read off the code: one call, of the named engine's arbitration
one_engine : trace (code.function).body end
    ≡ chooses engine
    (case (0 ∷ [])
    (arbitrated "scan::ScanRoundRobin::state" "scan::ScanRoundRobin::settle" "scan::ScanRoundRobin::grant" "scan::ScanArbiter::ask")
    (case (1 ∷ []) (runs "tree::Tree::arbitrate" end)
    (case (2 ∷ [])
    (arbitrated "thermometer::ThermometerRoundRobin::state" "thermometer::ThermometerRoundRobin::settle" "thermometer::ThermometerRoundRobin::grant" "thermometer::ThermometerArbiter::ask")
    (case (3 ∷ [])
    (arbitrated "kogge_stone::KoggeStoneRoundRobin::state" "kogge_stone::KoggeStoneRoundRobin::settle" "kogge_stone::KoggeStoneRoundRobin::grant" "kogge_stone::KoggeStoneArbiter::ask")
    end))))
    (leaves end)
one_engine = refl
