-- `advance` meets its contract: it decides once, and takes what is decided.
-- Assumes nothing.
use Rattle.std.proofs.Common.{◌∙◌, ap}
use Rattle.arbiter.specs.declared.Answer.{Answer}
use Rattle.arbiter.specs.declared.Granted.{Granted}
use mathlib.Core.Path.{refl, ◌≡◌}
use Rattle.tracer.specs.Trace.{bound, trace, end, calls, runs, leaves}
use Rattle.arbiter.proofs.engine.RoundRobin.advance.Code as code
use Rattle.arbiter.proofs.engine.RoundRobin.advance.Goals as goal

-- Read off the code: a cycle reads the state, decides once, and takes what is decided
one_arbitration : trace (code.function).body end
    ≡ calls (bound 0 0) (runs "arbiter::engine::RoundRobin::arbitrate" (calls (bound 0 1) (leaves end)))
one_arbitration = refl

pub returns : goal.returns
returns g c =
    let arbitrated = rw c.state.ensures at c.arbitrate-decided.ensures in
    record {
      value = c.settle.ensures.value ∙ ap (λ (o : Answer Granted). o.outcome) arbitrated.value;
      state_after = c.settle.ensures.state_after ∙ ap (λ (o : Answer Granted). o.state) arbitrated.value;
      grants_after = arbitrated.grants_after;
    }
