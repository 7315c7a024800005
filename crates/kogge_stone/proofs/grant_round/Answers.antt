-- `grant_round` meets its contract: two runs are all stations.
-- Assumes nothing.
use Prim.Native.Nat.{◌-◌}
use mathlib.Core.Path.{◌≡◌, refl}
use native.Mathlib.Omega.{arith}
use lib.ListN.{length}
use Rattle.kogge_stone.proofs.Grants as Grants
use Rattle.tracer.specs.Trace.{trace, end, runs, leaves}
use Rattle.kogge_stone.proofs.grant_round.Code as code
use Rattle.kogge_stone.proofs.grant_round.Goals as goal

-- Read off the code: there are two runs, of the stations from the head on and of those before it
two_runs : trace (code.function).body end
    ≡ runs "core::slice::reads::slice+T::split_at"
    (runs "core::slice::reads::slice+T::split_at"
    (runs "core::slice::slice+T::split_at_mut" (runs "kogge_stone::grant_run" (runs "kogge_stone::grant_run" (leaves end)))))
two_runs = refl

pub returns : goal.returns
returns c =
    let a = c.args in
    let requests = c.split_at.ensures in
    let counts = c.split_at-2.ensures in
    let high : length c.split_at.result.1.now ≡ length a.requests.now - a.first = omega (arith, c) in
    rw (c.grant_run.ensures, c.grant_run-2.ensures, requests.front, requests.back, counts.front, counts.back, high)
    (Grants.rounded a.full a.first a.requests.now a.counts.now (omega (arith, c)) (omega (arith, c)))
