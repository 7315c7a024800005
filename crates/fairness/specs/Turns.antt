-- The turns of the packed scan and of cycles with messages waiting are those of the engines: the packed scan's are the plain scan's, and those
-- of a cycle with messages are its engine's.
-- Assumes nothing.
use Rattle.std.specs.Prelude.{ℕ, ◌≡◌, List, map, Option, None, Some}
use Rattle.arbiter.specs.declared.Answer.{Answer}
use Rattle.arbiter.specs.declared.Granted.{Granted}
use Rattle.arbiter.specs.declared.State.{State}
use Rattle.engines.specs.declared.Engine.{Engine}
use Rattle.engines.specs.declared.Engine.TheVariants.{Scan}
use Rattle.calls.specs.Calls.{Cycle, engine_cycle, bus_cycle, packed_cycle, backlog_cycle, Call, cycle, cycle_that, Made, Step, run, served, Each}
use Rattle.fairness.specs.Kinds.{has_engine, by_rule, any_picks}

-- the engine that a cycle is by: the packed scan's is the plain scan, and the bus has none
abbrev pub engine_of : Cycle → Option Engine
engine_of (engine_cycle e requests grants nodes) = Some e
engine_of (packed_cycle requests grants) = Some Scan
engine_of (backlog_cycle e arrivals waiting grants nodes) = Some e
engine_of (bus_cycle requests grants byte) = None

-- the engine of a call: only a cycle has one
abbrev pub by_engine : Call → Option Engine
by_engine (cycle c) = engine_of c
by_engine _ = None

-- a turn: the engine, the state that the cycle is given, who asks and who is granted, a byte for each station, and the answer
pub record Turn : Type 0 where
  pub engine : Option Engine
  pub given : State
  pub requests : List ℕ
  pub grants : List ℕ
  pub answer : Answer Granted

abbrev pub turn : Made → Turn
turn m = record { engine = by_engine m.call; given = m.given; requests = m.requests; grants = m.grants; answer = m.answer }

-- the turns of a list from the state s: those of its served cycles, in order
abbrev pub turns : State → List Step → List Turn
turns s steps = map turn (served (run s steps))

-- Whatever cycles by the round-robin rule a list mixes, with whatever pick counts: there is a list of cycles by the engines alone that takes
-- the same turns
abbrev pub TurnsOfEngines : Type 0
TurnsOfEngines =
    (s : State) (steps : List Step) → Each (any_picks by_rule.is) steps
    → (others : List Step) × Each (λ k. cycle_that has_engine k.call) others × (turns s others ≡ turns s steps)
