-- `read_off` meets its contract: what is read off the running codes is what the rule grants and decides.
-- Assumes nothing.
use Rattle.std.proofs.Common.{rules, ◌≡◌, [], ◌∷◌, Some, length, get_or, drop, refl, ◌∙◌}
use Rattle.rules.specs.Lists.{before}
use Rattle.kogge_stone.specs.Steps.{station}
use Rattle.kogge_stone.proofs.Counts as Counts
use Rattle.tracer.specs.Trace.{named, trace, end, computes, calls, runs, leaves, either}
use Rattle.kogge_stone.proofs.read_off.Code as code
use Rattle.kogge_stone.proofs.read_off.Goals as goal

-- Read off the code: nothing is counted again. The grants are written by the counts, and the last code and the place where it is first
-- reached tell the rest
no_count : trace (code.function).body end
    ≡ runs "arbiter::first_station"
    (runs "kogge_stone::grant_round"
    (computes
    (runs "thermometer::adder::count"
    (computes
    (either (runs "arbiter::idle" (leaves end)) end
    (computes
    (computes
    (runs "kogge_stone::first_place"
    (calls (named "core::option::Option::map" ("kogge_stone::fn::read_off::map+FnOnce::call_once" ∷ "kogge_stone::Destruct++none::drop" ∷ []))
    (runs "arbiter::decide" (leaves end)))))))))))
no_count = refl

pub returns-then-count-eq0 : goal.returns-then-count-eq0
returns-then-count-eq0 c =
    let y = c.args.cycle.now in
    let read =
    Counts.idles y.picks _ y.head y.requests.now y.picked c.requires.picks_value c.args.picks.coded y.head_bound _ c.requires.counts_value
    _ c.first_station-first.ensures _ c.grant_round.ensures _ c.count-count.ensures c.if-count-eq0.true in
    record { value = c.idle.ensures ∙ read.0; same_picks = refl; same_head = refl; same_requests = refl; same_reference = refl; grants_after = read.1 }

pub returns : goal.returns
returns c =
    let y = c.args.cycle.now in
    let some = Counts.placed_some y.picks _ y.head y.requests.now y.picked c.requires.picks_value c.args.picks.coded y.head_bound _ c.requires.counts_value
    _ c.first_station-first.ensures _ c.grant_round.ensures _ c.count-count.ensures _ c.first_place-position.ensures in
    let last : c.map.result ≡ Some (station (length y.requests.now) c.first_station-first.result (length (before (get_or c.args.counts.now (length y.requests.now) 0) (drop 1 c.args.counts.now)))) = search rules in
    let read =
    Counts.decides y.picks _ y.head y.requests.now y.picked c.requires.picks_value c.args.picks.coded y.head_bound _ c.requires.counts_value
    _ c.first_station-first.ensures _ c.grant_round.ensures _ c.count-count.ensures c.if-count-eq0.false _ (rw c.requires.counts_value) c.args.more c.requires.more_value in
    record { value = c.decide.ensures ∙ rw last read.0; same_picks = refl; same_head = refl; same_requests = refl; same_reference = refl; grants_after = read.1 }
