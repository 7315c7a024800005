-- `arbitrate` meets its contract: where both groups of questions pass, all do, and the highest byte is in hand.
-- Assumes nothing.
use Rattle.std.proofs.Common.{◌≡◌, ◌∙◌, sym, ap, List, length, replicate}
use Rattle.arbiter.specs.Answers.{decided}
use Rattle.arbiter.specs.Decisions.Laws.{quiet_decides, quiet_grants}
use Rattle.search.specs.Places.{highest}
use Rattle.arbiter.specs.Questions.Laws.{cycle_read, read_passed, ready, of_requests}
use mathlib.Core.Path.{refl}
use mir.Syntax.{Opd, Symbol}
use Rattle.tracer.specs.Trace.{named, bound, trace, end, computes, calls, runs, leaves, either, tries_result, tries_result_by}
use Rattle.arbiter.proofs.engine.RoundRobin.arbitrate.Code as code
use Rattle.arbiter.proofs.engine.RoundRobin.arbitrate.Goals as goal

-- Read off the code, for every arbiter that grants by the rule: a cycle that is not refused and in which somebody asks calls the
-- arbiter's `grant` once, and nothing is repeated
one_count : (on : Opd) × (on₂ : Opd) × (drops : List Symbol)
    × (trace (code.function).body end
    ≡ runs "arbiter::question::state"
    (tries_result on
    (runs "arbiter::question::cycle"
    (tries_result_by "arbiter::question::RefusalFromRefusedReading::from" on₂
    (computes
    (either (calls (named "core::slice::edits::slice+T::fill" drops) (runs "arbiter::idle" (leaves end))) end
    (calls (bound 0 2) (leaves end))))))))
one_count = (_, _, _, refl)

pub returns-then-high-eq0 : goal.returns-then-high-eq0
returns-then-high-eq0 g c =
    let s = c.args.state.now in
    let requests = c.args.requests.now in
    let k = read_passed _ s.width requests _ (sym c.state.ensures ∙ c.in_ok-state.was) (cycle_read s.width requests _ (sym c.cycle.ensures ∙ c.in_ok-high.was)) in
    let r = ready s requests (length c.args.grants.now) k.0 in
    let quiet : highest requests ≡ 0 = sym k.1 ∙ c.if-high-eq0.true in
    let zeros : c.fill.new.self ≡ replicate (length c.args.grants.now) 0 = c.fill.ensures.after (λ y e. e) in
    record {
      value = rw k.0 (ap (decided s) (c.idle.ensures ∙ quiet_decides s.width s.picks s.head requests quiet));
      grants_after = rw k.0 (zeros ∙ rw r.lends.room (quiet_grants s.width s.picks s.head requests quiet));
    }

pub invariant_of-cycle : goal.invariant_of-cycle
invariant_of-cycle g c =
    let s = c.args.state.now in
    let requests = c.args.requests.now in
    let k = read_passed _ s.width requests _ (sym c.state.ensures ∙ c.in_ok-state.was) (cycle_read s.width requests _ (sym c.cycle.ensures ∙ c.in_ok-high.was)) in
    let r = of_requests (ready s requests _ k.0) in
    record {
      width_bound = r.allows.most;
      picked = r.allows.picked;
      picks_bound = r.allows.few;
      picks_le_width = r.allows.fit;
      head_bound = r.allows.station;
      grants_len = r.lends.room;
      bits = r.lends.wires;
    }
