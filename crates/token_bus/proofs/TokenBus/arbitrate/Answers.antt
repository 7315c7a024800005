-- `arbitrate` meets its contract: where all questions pass, the highest byte is in hand.
-- Assumes nothing.
use Rattle.std.proofs.Common.{◌≡◌, ◌∙◌, sym, ap, length, replicate}
use Rattle.arbiter.specs.Questions.Laws.{cycle_read, of_requests}
use Rattle.arbiter.specs.Answers.{decided}
use Rattle.arbiter.specs.Decisions.{headed}
use Rattle.token_bus.specs.Calls.Laws.{asked, ready, as_ready, token_is, found_none, idle_decides, idle_grants}
use Rattle.token_bus.proofs.TokenBus.arbitrate.Goals as goal

pub returns-then-high-eq0 : goal.returns-then-high-eq0
returns-then-high-eq0 c =
    let a = c.args in
    let size = length a.grants.now in
    let k = asked a.state.now a.requests.now size a.acknowledge (sym c.state.ensures ∙ c.in_ok-state.was) (cycle_read a.state.now.width a.requests.now _ (sym c.cycle.ensures ∙ c.in_ok-high.was)) (sym c.acknowledge.ensures ∙ c.in_ok-acknowledge.was) in
    let r = ready a.state.now a.requests.now size a.acknowledge k.0 in
    let none = sym (found_none _ _ a.requests.now r.allows.station (sym k.1 ∙ c.if-high-eq0.true)) in
    let zeros : c.fill.new.self ≡ replicate size 0 = c.fill.ensures.after (λ y e. e) in
    let token = token_is a.state.now r.before in
    record {
      value = rw k.0 (ap (decided a.state.now) (c.headed.ensures ∙ ap headed token ∙ idle_decides _ _ a.requests.now r.allows.station _ none));
      grants_after = rw k.0 (zeros ∙ rw r.lends.room (idle_grants _ _ a.requests.now r.allows.station none));
    }

pub invariant_of-cycle : goal.invariant_of-cycle
invariant_of-cycle c =
    let a = c.args in
    let k = asked a.state.now a.requests.now (length a.grants.now) a.acknowledge (sym c.state.ensures ∙ c.in_ok-state.was) (cycle_read a.state.now.width a.requests.now _ (sym c.cycle.ensures ∙ c.in_ok-high.was)) (sym c.acknowledge.ensures ∙ c.in_ok-acknowledge.was) in
    let r = of_requests (as_ready a.state.now a.requests.now _ a.acknowledge k.0) in
    record {
      width_bound = r.allows.most;
      picked = r.allows.picked;
      picks_bound = r.allows.few;
      picks_le_width = r.allows.fit;
      head_bound = r.allows.station;
      grants_len = r.lends.room;
      bits = r.lends.wires;
    }
