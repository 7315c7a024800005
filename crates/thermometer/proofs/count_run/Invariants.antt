-- `count_run` meets its contract: at each station the run up to it is done, and the code is the running code before it.
-- Assumes nothing.
use mathlib.Core.Path.{◌≡◌}
use mathlib.Core.Bool.{true}
use lib.Count.{ones}
use Rattle.rules.specs.Thermometer.{is_code}
use Rattle.rules.specs.Walk as Walks
use Rattle.arbiter.specs.Decisions.{requested}
use Rattle.thermometer.specs.Runs.{code_at}
use lib.Dec.{ltb}
use Rattle.rules.proofs.Thermometer.Cuts.{Reach}
use Rattle.rules.specs.Walk.{reached}
use Rattle.thermometer.proofs.count_run.Given as goal

abbrev pub invariant-loop-i : goal.invariant-loop-i
invariant-loop-i l =
    (l.walk.more ≡ l.initial.walk.more) × Reach l.picks (ltb l.picks (reached (requested l.requests) l.from l.i (ones l.initial.walk.code))) l.reach
    × (is_code l.picks l.walk.code ≡ true) × (l.walk.code ≡ code_at l.picks l.requests l.from l.to l.initial.walk.code l.i)
    × Walks.Ran l.picks (requested l.requests) l.from l.i (ones l.initial.walk.code) l.initial.walk.last l.initial.grants (ones l.walk.code) l.walk.last l.grants
