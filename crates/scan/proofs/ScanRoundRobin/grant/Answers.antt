-- `grant` meets its contract: two runs are one walk round.
-- Assumes nothing.
use Rattle.std.proofs.Common.{length, ◌∙◌, arith, refl}
use Rattle.rules.proofs.Walk.Laws.{Walked}
use Rattle.arbiter.specs.Decisions.{requested}
use Rattle.arbiter.specs.Decisions.Laws as DecisionsLaws
use Rattle.std.specs.Prelude.{◌≡◌, List}
use mir.Syntax.{Symbol}
use Rattle.tracer.specs.Trace.{named, trace, end, calls, runs, leaves}
use Rattle.scan.proofs.ScanRoundRobin.grant.Code as code
use Rattle.scan.proofs.ScanRoundRobin.grant.Goals as goal

-- Read off the code: the stations are walked once round. The grants are cleared, and then there are two runs, and no loop beside them
two_runs : (drops : List Symbol)
    × (trace (code.function).body end
    ≡ calls (named "core::slice::edits::slice+T::fill" drops)
    (runs "arbiter::first_station"
    (runs "scan::walk_run"
    (runs "scan::walk_run" (runs "arbiter::engine::ServedCycle::pending" (runs "arbiter::decide" (leaves end)))))))
two_runs = (_, refl)

walked : (c : goal.After-decide)
    → let y = c.args.cycle.now in
    let walk = c.walk_run-walk in
    Walked (length y.requests.now) y.picks y.head (requested y.requests.now) walk.result.count walk.result.last walk.new.grants
walked c =
    let y = c.args.cycle.now in
    DecisionsLaws.round _ _ _ _ y.head_bound c.first_station-first.ensures (c.fill.ensures.after (λ _ e. e)) y.grants_len c.walk_run-half.ensures c.walk_run-walk.ensures

pub returns-clause-value : goal.returns-clause-value
returns-clause-value c =
    let y = c.args.cycle.now in
    let w = walked c in
    c.decide.ensures
    ∙ DecisionsLaws.walked _ _ _ _ y.picked (omega (arith, y.head_bound)) w
    (c.pending-more.ensures ∙ DecisionsLaws.pending_bytes _ _ _ y.requests.now (omega (arith, y.head_bound)) refl y.bits w.counted w.bytes)

pub returns-clause-grants_after : goal.returns-clause-grants_after
returns-clause-grants_after c = (walked c).bytes
