-- `grant` meets its contract: two runs are one walk round.
-- Assumes nothing.
use Rattle.std.proofs.Common.{List, length, ◌≡◌, refl, ap, ◌∙◌, arith}
use Rattle.std.specs.Int.Count.{ones}
use Rattle.rules.specs.Walk as Walks
use Rattle.rules.proofs.Walk.Laws.{Walked}
use Rattle.std.specs.Prelude.{None}
use Rattle.rules.proofs.Thermometer.Laws.{zero_ones, zero_is_code}
use Rattle.arbiter.specs.Decisions.{requested, counted}
use Rattle.arbiter.specs.Decisions.Laws as DecisionsLaws
use Rattle.thermometer.proofs.Runs.Laws.{hands_code, to_counts}
use mir.Syntax.{Symbol}
use Rattle.tracer.specs.Trace.{named, trace, end, calls, runs, leaves}
use Rattle.thermometer.proofs.ThermometerRoundRobin.grant.Code as code
use Rattle.thermometer.proofs.ThermometerRoundRobin.grant.Goals as goal

-- Read off the code: a count goes once round. The grants are cleared, and then there are two runs, and no loop beside them
two_runs : (drops : List Symbol)
    × (trace (code.function).body end
    ≡ calls (named "core::slice::edits::slice+T::fill" drops)
    (runs "arbiter::first_station"
    (runs "thermometer::count_run" (runs "thermometer::count_run" (runs "thermometer::adder::count" (runs "arbiter::decide" (leaves end)))))))
two_runs = (_, refl)

pub count_run-half-requires-clause-code_value : goal.count_run-half-requires-clause-code_value
count_run-half-requires-clause-code_value c = zero_is_code c.args.cycle.now.picks

-- the code that the first run hands on
pub count_run-walk-requires-clause-code_value : goal.count_run-walk-requires-clause-code_value
count_run-walk-requires-clause-code_value c =
    hands_code _ _ _ _ _ _ _ _ (zero_is_code c.args.cycle.now.picks) (omega (arith, c)) c.count_run-half.ensures

-- the two runs, told by counts
high : (c : goal.After-decide)
    → let y = c.args.cycle.now in
    let half = c.count_run-half in
    Walks.Ran y.picks (requested y.requests.now) c.first_station-first.result (length y.requests.now) 0 None c.fill.new.self (ones half.result.code) half.result.last half.new.grants
high c = rw zero_ones at (to_counts _ _ _ _ _ _ _ _ (zero_is_code c.args.cycle.now.picks) (omega (arith, c)) c.count_run-half.ensures)

low : (c : goal.After-decide)
    → let y = c.args.cycle.now in
    let half = c.count_run-half in
    let walk = c.count_run-walk in
    Walks.Ran y.picks (requested y.requests.now) 0 c.first_station-first.result (ones half.result.code) half.result.last half.new.grants (ones walk.result.code) walk.result.last walk.new.grants
low c =
    let coded = hands_code _ _ _ _ _ _ _ _ (zero_is_code c.args.cycle.now.picks) (omega (arith, c)) c.count_run-half.ensures in
    to_counts _ _ _ _ _ _ _ _ coded (omega arith) c.count_run-walk.ensures

walked : (c : goal.After-decide)
    → let y = c.args.cycle.now in
    let walk = c.count_run-walk in
    Walked (length y.requests.now) y.picks y.head (requested y.requests.now) (ones walk.result.code) walk.result.last walk.new.grants
walked c =
    let y = c.args.cycle.now in
    DecisionsLaws.round _ _ _ _ y.head_bound c.first_station-first.ensures (c.fill.ensures.after (λ _ e. e)) y.grants_len (high c) (low c)

pub returns-clause-value : goal.returns-clause-value
returns-clause-value c =
    let y = c.args.cycle.now in
    let n = length y.requests.now in
    let walk = c.count_run-walk in
    let over =
    DecisionsLaws.over n y.picks y.head (requested y.requests.now) y.head_bound c.first_station-first.ensures (c.fill.ensures.after (λ _ e. e)) y.grants_len (high c) (low c)
    (rw zero_ones at c.count_run-half.ensures.more)
    walk.ensures.more in
    c.decide.ensures
    ∙ ap (λ x. counted n y.head x walk.result.last walk.result.more) c.count-count.ensures
    ∙ DecisionsLaws.walked _ _ _ _ y.picked (omega (arith, y.head_bound)) (walked c) over

pub returns-clause-grants_after : goal.returns-clause-grants_after
returns-clause-grants_after c = (walked c).bytes
