-- Calls, what they come to, and lists of them. A call stands here without the state that it is given, so that in a list each gets the
-- one that was handed on. What a call answers and writes is said by the definition that its contract cites.
-- Assumes nothing.
use Rattle.std.specs.Prelude.{ℕ, ◌≡◌, Bool, true, false, ◌&&◌, List, [], ◌∷◌, eqb}
use Rattle.rules.specs.Head.{Head}
use Rattle.rules.specs.Lists.{filter}
use Rattle.rules.specs.Packing.{unpack}
use Rattle.arbiter.specs.declared.Answer.{Answer}
use Rattle.arbiter.specs.declared.Granted.{Granted}
use Rattle.arbiter.specs.declared.State.{State}
use Rattle.arbiter.specs.Answers.{Effect, nothing, with_picks, number, no_cycle}
use Rattle.search.specs.Places.{one_at}
use Rattle.one_hot.specs.Calls as OneHotCalls
use Rattle.packed_scan.specs.Calls as PackedCalls
use Rattle.snapshot.specs.Calls as SnapshotCalls
use Rattle.token_bus.specs.Calls as BusCalls
use Rattle.engines.specs.declared.Engine.{Engine}
use Rattle.engines.specs.Calls as EngineCalls
use Rattle.backlog.specs.Calls as BacklogCalls

-- a cycle: the requests, and the bytes that the grant buffer holds before. An engine is lent a node buffer too, which only the tree
-- looks at; the bus gets an acknowledge byte; the packed scan's two buffers are packed; the backlog gets arrivals and waiting numbers
-- in place of requests
pub data Cycle : Type 0 where
  engine_cycle : Engine → List ℕ → List ℕ → List ℕ → Cycle
  bus_cycle : List ℕ → List ℕ → ℕ → Cycle
  packed_cycle : List ℕ → List ℕ → Cycle
  backlog_cycle : Engine → List ℕ → List ℕ → List ℕ → List ℕ → Cycle

-- a call: an opening takes a width, a pick count and a head; reading takes bytes, and writing those that the buffer holds before
pub data Call : Type 0 where
  cycle : Cycle → Call
  engine_opening : Engine → ℕ → ℕ → Head → Call
  bus_opening : ℕ → ℕ → Head → Call
  packed_opening : ℕ → ℕ → Head → Call
  image_read : List ℕ → Call
  image_write : List ℕ → Call
  snapshot_read : List ℕ → Call
  snapshot_write : List ℕ → Call

-- a call is a cycle that passes the test
abbrev pub cycle_that : (Cycle → Bool) → Call → Bool
cycle_that test (cycle c) = test c
cycle_that test _ = false

-- the messages of a cycle, a number for each station: those that arrive, those that wait before it, and those that wait after it
pub record Messages : Type 0 where
  pub arrivals : List ℕ
  pub waiting : List ℕ
  pub remaining : List ℕ

-- those of a call that knows none
abbrev pub no_messages : Messages
no_messages = record { arrivals = []; waiting = []; remaining = [] }

-- a call that was made: the call; the state that it was given, which is `nothing` where it makes one; its answer; of a cycle the
-- requests, and the grants afterwards, a byte for each station, and the messages; and the buffers that it may write, as they were lent
-- and as it left them
pub record Made : Type 0 where
  pub call : Call
  pub given : State
  pub answer : Answer Granted
  pub requests : List ℕ
  pub grants : List ℕ
  pub messages : Messages
  pub lent : List (List ℕ)
  pub left : List (List ℕ)

-- a cycle that is given this state
abbrev pub ran : State → Cycle → Made
ran s (engine_cycle e requests grants nodes) =
    let o = EngineCalls.cycle e s requests grants nodes in
    record {
      call = cycle (engine_cycle e requests grants nodes);
      given = s;
      answer = o.answer;
      requests = requests;
      grants = o.grants;
      messages = no_messages;
      lent = grants ∷ nodes ∷ [];
      left = o.grants ∷ o.nodes ∷ [];
    }
ran s (bus_cycle requests grants byte) =
    let o = BusCalls.cycle s requests grants byte in
    record {
      call = cycle (bus_cycle requests grants byte);
      given = s;
      answer = o.answer;
      requests = requests;
      grants = o.written;
      messages = no_messages;
      lent = grants ∷ [];
      left = o.written ∷ [];
    }
ran s (packed_cycle requests grants) =
    let o = PackedCalls.cycle s requests grants in
    record {
      call = cycle (packed_cycle requests grants);
      given = s;
      answer = o.answer;
      requests = unpack s.width requests;
      grants = unpack s.width o.written;
      messages = no_messages;
      lent = grants ∷ [];
      left = o.written ∷ [];
    }
ran s (backlog_cycle e arrivals waiting grants nodes) =
    let o = BacklogCalls.cycle e s arrivals waiting grants nodes in
    record {
      call = cycle (backlog_cycle e arrivals waiting grants nodes);
      given = s;
      answer = o.answer;
      requests = BacklogCalls.requests (BacklogCalls.arrived waiting arrivals);
      grants = o.grants;
      messages = record { arrivals = arrivals; waiting = waiting; remaining = o.waiting };
      lent = waiting ∷ grants ∷ nodes ∷ [];
      left = o.waiting ∷ o.grants ∷ o.nodes ∷ [];
    }

-- a call that is no cycle, and what it may write
abbrev pub other : Call → State → Answer (Unit {0}) → List (List ℕ) → List (List ℕ) → Made
other c s a lent left =
    record {
      call = c;
      given = s;
      answer = no_cycle a;
      requests = [];
      grants = [];
      messages = no_messages;
      lent = lent;
      left = left;
    }

-- one that writes no buffer
abbrev pub unwriting : Call → State → Answer (Unit {0}) → Made
unwriting c s a = other c s a [] []

-- one that writes a buffer, which held these bytes
abbrev pub writing : Call → State → Effect (Unit {0}) → List ℕ → Made
writing c s o former = other c s o.answer (former ∷ []) (o.written ∷ [])

-- what any call comes to that is given this state
abbrev pub made : State → Call → Made
made s (cycle c) = ran s c
made s (engine_opening e n m h) = unwriting (engine_opening e n m h) nothing (EngineCalls.opening e n m h)
made s (bus_opening n m h) = unwriting (bus_opening n m h) nothing (BusCalls.opening n m h)
made s (packed_opening n m h) = unwriting (packed_opening n m h) nothing (PackedCalls.opening n m h)
made s (image_read bytes) = unwriting (image_read bytes) s (OneHotCalls.read s bytes)
made s (image_write former) = writing (image_write former) s (OneHotCalls.write s former) former
made s (snapshot_read bytes) = unwriting (snapshot_read bytes) nothing (SnapshotCalls.read bytes)
made s (snapshot_write former) = writing (snapshot_write former) s (SnapshotCalls.write s former) former

-- a step of a list: a call, and the pick count that its state gets
pub record Step : Type 0 where
  pub picks : ℕ
  pub call : Call

-- a list of calls: each is given the state that the one before returned, a refused one too
abbrev pub run : State → List Step → List Made
run s [] = []
run s (k ∷ ks) = let m = made (with_picks s k.picks) k.call in m ∷ run m.answer.state ks

-- a call is a cycle, and no question refused it
abbrev pub was_served : Made → Bool
was_served m = cycle_that (λ _. true) m.call && eqb (number m.answer) 0

-- the served cycles of a list, in order: what stood between two of them was refused, or is no cycle
abbrev pub served : List Made → List Made
served ms = filter was_served ms

-- station w asks: its request is 1
abbrev pub asks : ℕ → Made → Bool
asks w m = one_at m.requests w

-- station w is granted: its grant is 1
abbrev pub granted : ℕ → Made → Bool
granted w m = one_at m.grants w

-- all of a list pass the test
abbrev pub Each : {A : Type 0} → (A → Bool) → List A → Type 0
Each p [] = Unit {0}
Each p (x ∷ xs) = (p x ≡ true) × Each p xs
