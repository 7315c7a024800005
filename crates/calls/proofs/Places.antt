-- No call names a place but by 8, 10, 14 and 16: each question that it asks is one of these, or names none.
-- Assumes nothing.
use Rattle.std.specs.Prelude.{ℕ, ◌≡◌, refl, Bool, true, false, cond, ◌||◌, List, [], ◌∷◌, eqb, length, None, Some, Result, Ok, Err}
use Rattle.rules.specs.Head.{Head}
use Rattle.rules.specs.Lists.{member}
use Rattle.arbiter.specs.declared.Answer.{Answer}
use Rattle.arbiter.specs.declared.Granted.{Granted}
use Rattle.arbiter.specs.declared.State.{State}
use Rattle.arbiter.specs.declared.refusal.Buffer.TheVariants.{Snapshot}
use Rattle.arbiter.specs.declared.refusal.Refusal.{Refusal}
use Rattle.arbiter.specs.declared.refusal.Refusal.TheVariants.{HeadRange}
use Rattle.arbiter.specs.Refusals.{number, place}
use Rattle.arbiter.specs.Questions as Questions
use Rattle.arbiter.specs.Questions.{Verdict, refuse_unless, refuse_at_first, ◌then◌}
use Rattle.arbiter.specs.Cycle as RoundRobinCalls
use Rattle.arbiter.specs.Answers as Answers
use Rattle.arbiter.specs.Answers.{Effect, no_cycle, number_of, place_of, if_passed}
use Rattle.engines.specs.TreeCalls
use Rattle.engines.specs.TreeCalls.{TreeEffect}
use Rattle.token_bus.specs.Calls as BusCalls
use Rattle.packed_scan.specs.Calls as PackedCalls
use Rattle.snapshot.specs.Calls as SnapshotCalls
use Rattle.engines.specs.declared.Engine.{Engine}
use Rattle.engines.specs.declared.Engine.TheVariants.{Scan, Tree, Thermometer, KoggeStone}
use Rattle.engines.specs.Calls as EngineCalls
use Rattle.backlog.specs.Calls as BacklogCalls
use Rattle.backlog.specs.Calls.{BacklogEffect}
use Rattle.calls.specs.Calls.{Cycle, engine_cycle, bus_cycle, packed_cycle, backlog_cycle, Call, cycle, engine_opening, bus_opening, packed_opening, image_read, image_write, snapshot_read, snapshot_write, ran, made}
use Rattle.calls.specs.EveryCall.{placing, PlaceZero}

-- a result whose place is 0 but for the questions that name one
record Sparse {A : Type 0} (r : Result A Refusal) : Type 0 where
  at : (member (number_of r) placing ≡ true → ⊥) → place_of r ≡ 0

passes : {A : Type 0} {a : A} → Sparse (Ok a)
passes = record { at = λ _. refl }

-- a question that names no place, and one that is among these
unless : (yes : Bool) (refusal : Refusal) → place refusal ≡ 0 → Sparse (refuse_unless yes refusal)
unless true refusal none = passes
unless false refusal none = record { at = λ _. none }

at_first : (refusal : ℕ → Refusal) (ps : List ℕ) → ((p : ℕ) → member (number (refusal p)) placing ≡ true) → Sparse (refuse_at_first refusal ps)
at_first refusal [] among = passes
at_first refusal (p ∷ ps) among = record { at = λ n. absurd (n (among p)) }

-- one question after another
both : (v : Verdict) {w : Verdict} → Sparse v → Sparse w → Sparse (v then w)
both (Ok _) p q = q
both (Err refusal) p q = p

-- one or another
either : (b : Bool) {v w : Verdict} → Sparse v → Sparse w → Sparse (cond b v w)
either true p q = p
either false p q = q

-- what a call comes to that asks these questions: refused, it answers with the refusal
asks : {A : Type 0} (outcome : A → Result Granted Refusal) (v : Verdict) (a : A) (b : Refusal → A)
    → ((refusal : Refusal) → outcome (b refusal) ≡ Err refusal) → Sparse v → Sparse (outcome a) → Sparse (outcome (if_passed v a b))
asks outcome (Ok _) a b same p q = q
asks outcome (Err refusal) a b same p q = rw (same refusal) (record { at = p.at })

-- the outcome of a call that is no cycle, of one that writes a buffer, and of a cycle
abbrev of_answer : Answer (Unit {0}) → Result Granted Refusal
of_answer a = (no_cycle a).outcome

abbrev of_writing : Effect (Unit {0}) → Result Granted Refusal
of_writing o = of_answer o.answer

abbrev of_effect : Effect Granted → Result Granted Refusal
of_effect o = o.answer.outcome

-- the questions about a state
head : (n : ℕ) (h : Head) → Sparse (Questions.head n h)
head n None = passes
head n (Some h) = unless _ _ refl

state : (s : State) → Sparse (Questions.state_questions s)
state s = both _ (both _ (unless _ _ refl) (unless _ _ refl)) (head s.width s.head)

tree_state : (s : State) → Sparse (TreeCalls.state_questions s)
tree_state s = both _ (both _ (both _ (unless _ _ refl) (unless _ _ refl)) (unless _ _ refl)) (head s.width s.head)

engine_state : (e : Engine) (s : State) → Sparse (EngineCalls.state_questions e s)
engine_state Scan s = state s
engine_state Tree s = tree_state s
engine_state Thermometer s = state s
engine_state KoggeStone s = state s

token : (n : ℕ) (h : Head) → Sparse (BusCalls.token_question n h)
token n None = unless false _ refl
token n (Some t) = unless _ _ refl

bus_state : (s : State) → Sparse (BusCalls.state_questions s)
bus_state s = both _ (both _ (unless _ _ refl) (unless _ _ refl)) (token s.width s.head)

packed_state : (s : State) → Sparse (PackedCalls.state_questions s)
packed_state s = both _ (both _ (unless _ _ refl) (unless _ _ refl)) (head s.width s.head)

-- those of a cycle after them
lent : (n : ℕ) (requests : List ℕ) (size : ℕ) → Sparse (Questions.cycle_questions n requests size)
lent n requests size = both _ (both _ (unless _ _ refl) (unless _ _ refl)) (at_first _ _ (λ p. refl))

nodes : (e : Engine) (n size : ℕ) → Sparse (EngineCalls.nodes_question e n size)
nodes Scan n size = passes
nodes Tree n size = unless _ _ refl
nodes Thermometer n size = passes
nodes KoggeStone n size = passes

backlog_lent : (e : Engine) (n : ℕ) (arrivals waiting : List ℕ) (grantsSize nodesSize : ℕ)
    → Sparse (BacklogCalls.lent_questions e n arrivals waiting grantsSize nodesSize)
backlog_lent e n arrivals waiting grantsSize nodesSize =
    both _ (both _ (both _ (both _ (unless _ _ refl) (unless _ _ refl)) (unless _ _ refl)) (nodes e n nodesSize)) (at_first _ _ (λ p. refl))

-- those of reading a snapshot
picks : (n m : ℕ) → Sparse (Questions.picks n m)
picks n m = unless _ _ refl

stray : (mark station : ℕ) → Sparse (refuse_unless (eqb mark 1 || eqb station 0) HeadRange)
stray mark station = unless _ _ refl

short_snapshot : (bytes : List ℕ) → Sparse (SnapshotCalls.short_questions bytes)
short_snapshot bytes =
    let f = SnapshotCalls.short_fields bytes in
    both (Questions.bits Snapshot 3 bytes) (at_first _ _ (λ p. refl))
    (both _ (both _ (picks f.width f.picks) (head f.width (SnapshotCalls.marked f.station f.mark))) (stray f.mark f.station))

long_snapshot : (bytes : List ℕ) → Sparse (SnapshotCalls.long_questions bytes)
long_snapshot bytes =
    let f = SnapshotCalls.long_fields bytes in
    both (Questions.bits Snapshot 5 bytes) (at_first _ _ (λ p. refl)) (both _ (state (SnapshotCalls.state f)) (stray f.mark f.station))

snapshot : (bytes : List ℕ) → Sparse (SnapshotCalls.questions bytes)
snapshot bytes = both (SnapshotCalls.read_length (length bytes)) (unless _ _ refl) (either _ (short_snapshot bytes) (long_snapshot bytes))

-- the cycles
by_rule : (s : State) (requests former : List ℕ) → Sparse (RoundRobinCalls.cycle s requests former).answer.outcome
by_rule s requests former = asks of_effect _ _ _ (λ r. refl) (both _ (state s) (lent s.width requests (length former))) passes

by_engine : (e : Engine) (s : State) (requests former formerNodes : List ℕ)
    → Sparse (EngineCalls.cycle e s requests former formerNodes).answer.outcome
unfolding TreeCalls.cycle
by_engine Scan s requests former formerNodes = by_rule s requests former
by_engine Tree s requests former formerNodes =
    asks (λ (o : TreeEffect). o.answer.outcome) _ _ _ (λ r. refl)
    (both _ (both _ (both _ (both _ (tree_state s) (unless _ _ refl)) (unless _ _ refl)) (unless _ _ refl)) (at_first _ _ (λ p. refl))) passes
by_engine Thermometer s requests former formerNodes = by_rule s requests former
by_engine KoggeStone s requests former formerNodes = by_rule s requests former

of_cycle : (s : State) (c : Cycle) → Sparse (ran s c).answer.outcome
unfolding BacklogCalls.cycle
of_cycle s (engine_cycle e requests grants nodes) = by_engine e s requests grants nodes
of_cycle s (bus_cycle requests grants byte) =
    asks of_effect _ _ _ (λ r. refl) (both _ (both _ (bus_state s) (lent s.width requests (length grants))) (unless _ _ refl)) passes
of_cycle s (packed_cycle requests grants) =
    asks of_effect _ _ _ (λ r. refl)
    (both _ (both _ (both _ (packed_state s) (unless _ _ refl)) (unless _ _ refl)) (at_first _ _ (λ p. refl))) passes
of_cycle s (backlog_cycle e arrivals waiting grants nodes) =
    asks (λ (o : BacklogEffect). o.answer.outcome) _ _ _ (λ r. refl)
    (both _ (engine_state e s) (backlog_lent e s.width arrivals waiting (length grants) (length nodes)))
    (by_engine e s _ grants nodes)

-- every call
of_call : (s : State) (c : Call) → Sparse (made s c).answer.outcome
of_call s (cycle c) = of_cycle s c
of_call s (engine_opening e n m h) = asks of_answer _ _ _ (λ r. refl) (engine_state e (Answers.made n m h)) passes
of_call s (bus_opening n m h) = asks of_answer _ _ _ (λ r. refl) (bus_state (Answers.made n m h)) passes
of_call s (packed_opening n m h) = asks of_answer _ _ _ (λ r. refl) (packed_state (Answers.made n m h)) passes
of_call s (image_read bytes) =
    asks of_answer _ _ _ (λ r. refl)
    (both _ (both _ (both _ (state s) (unless _ _ refl)) (at_first _ _ (λ p. refl))) (at_first _ _ (λ p. refl))) passes
of_call s (image_write former) = asks of_writing _ _ _ (λ r. refl) (both _ (state s) (unless _ _ refl)) passes
of_call s (snapshot_read bytes) = asks of_answer _ _ _ (λ r. refl) (snapshot bytes) passes
of_call s (snapshot_write former) = asks of_writing _ _ _ (λ r. refl) (both _ (state s) (unless _ _ refl)) passes

pub place_zero : PlaceZero
place_zero s c = (of_call s c).at
