-- The kinds of lists of calls of which the wait rule is said.
-- Assumes nothing.
use Rattle.std.specs.Prelude.{ℕ, ◌≡◌, Bool, true, false, ◌&&◌, ◌||◌, eqb}
use Rattle.arbiter.specs.declared.State.{State}
use Rattle.arbiter.specs.Answers.{number}
use Rattle.engines.specs.declared.Engine.{Engine}
use Rattle.engines.specs.Calls as EngineCalls
use Rattle.packed_scan.specs.Calls as PackedCalls
use Rattle.token_bus.specs.Calls as BusCalls
use Rattle.calls.specs.Calls.{Cycle, engine_cycle, bus_cycle, packed_cycle, Call, image_write, snapshot_write, cycle_that, Step}
use Rattle.calls.specs.Messages.{has_messages}

-- a kind: which calls are of it, and what it is for a state to be served by it
pub record Kind : Type 1 where
  pub is : Call → Bool
  pub Serves : State → Type 0

-- a cycle is by an engine, is by the packed scan, or is on the bus
abbrev pub has_engine : Cycle → Bool
has_engine (engine_cycle e requests grants nodes) = true
has_engine _ = false

abbrev pub has_packed : Cycle → Bool
has_packed (packed_cycle requests grants) = true
has_packed _ = false

abbrev pub has_bus : Cycle → Bool
has_bus (bus_cycle requests grants byte) = true
has_bus _ = false

-- it grants by the round-robin rule: it is by an engine, has messages waiting, or is by the packed scan
abbrev pub grants_by_rule : Cycle → Bool
grants_by_rule c = has_engine c || has_messages c || has_packed c

-- a call writes to a buffer what the state holds, and returns the state as it was
abbrev pub writes_state : Call → Bool
writes_state (image_write former) = true
writes_state (snapshot_write former) = true
writes_state _ = false

-- the calls of a kind: cycles that pass the test, and between them calls that write to a buffer what the state holds
abbrev pub among : (Cycle → Bool) → Call → Bool
among test c = writes_state c || cycle_that test c

-- an engine serves a state: it opens with it
abbrev pub EngineServes : Engine → State → Type 0
EngineServes e s = number (EngineCalls.opening e s.width s.picks s.head) ≡ 0

-- some engine does
abbrev pub SomeServes : State → Type 0
SomeServes s = (e : Engine) × EngineServes e s

-- lists by the engines, any of the four in each cycle
abbrev pub by_engines : Kind
by_engines = record { is = among has_engine; Serves = SomeServes }

-- lists with messages waiting, by any of the engines, whatever the waiting numbers of each cycle
abbrev pub with_messages : Kind
with_messages = record { is = among has_messages; Serves = SomeServes }

-- lists by the packed scan
abbrev pub packed : Kind
packed = record { is = among has_packed; Serves = λ s. number (PackedCalls.opening s.width s.picks s.head) ≡ 0 }

-- lists of all cycles that grant by the round-robin rule, in any mixture
abbrev pub by_rule : Kind
by_rule = record { is = among grants_by_rule; Serves = SomeServes }

-- lists on the bus
abbrev pub on_bus : Kind
on_bus = record { is = among has_bus; Serves = λ s. number (BusCalls.opening s.width s.picks s.head) ≡ 0 }

-- a call of a list passes the test, with any pick count
abbrev pub any_picks : (Call → Bool) → Step → Bool
any_picks is k = is k.call

-- or with this one
abbrev pub picks_of : ℕ → (Call → Bool) → Step → Bool
picks_of m is k = is k.call && eqb k.picks m
