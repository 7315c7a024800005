-- The states and answers that calls return.
-- Assumes nothing.
use Rattle.std.specs.Prelude.{ℕ, Bool, false, List, None, Result, Ok, Err}
use Rattle.rules.specs.Head.{Head}
use Rattle.arbiter.specs.declared.Answer.{Answer}
use Rattle.arbiter.specs.declared.Decision.{Decision}
use Rattle.arbiter.specs.declared.Granted.{Granted}
use Rattle.arbiter.specs.declared.State.{State}
use Rattle.arbiter.specs.declared.refusal.Refusal.{Refusal}
use Rattle.arbiter.specs.Questions.{Verdict}
use Rattle.arbiter.specs.Refusals as Refusals
pub mod Laws

-- the state that a width, a pick count and a head make
abbrev pub made : ℕ → ℕ → Head → State
made n m h = record { width = n; picks = m; head = h }

-- a state with another head
abbrev pub moved : State → Head → State
moved s h = record s { head = h }

-- a state with another pick count
abbrev pub with_picks : State → ℕ → State
with_picks s m = record s { picks = m }

-- what a call that makes a state returns where it is refused: no station, no pick and no head
abbrev pub nothing : State
nothing = made 0 0 None

-- the number of what a call came to: 0 where it was served, and else that of the question that refused
abbrev pub number_of : {A : Type 0} → Result A Refusal → ℕ
number_of (Ok a) = 0
number_of (Err refusal) = Refusals.number refusal

-- its place: 0 where it was served, or where the question names none
abbrev pub place_of : {A : Type 0} → Result A Refusal → ℕ
place_of (Ok a) = 0
place_of (Err refusal) = Refusals.place refusal

-- the count of grants of a cycle: 0 where it was refused
abbrev pub count_of : Result Granted Refusal → ℕ
count_of (Ok granted) = granted.count
count_of (Err refusal) = 0

-- whether more are pending after it: no where it was refused
abbrev pub more_of : Result Granted Refusal → Bool
more_of (Ok granted) = granted.more
more_of (Err refusal) = false

-- the same of an answer, which has the state beside its outcome
abbrev pub number : {T : Type 0} → Answer T → ℕ
number a = number_of a.outcome

abbrev pub place : {T : Type 0} → Answer T → ℕ
place a = place_of a.outcome

abbrev pub count : Answer Granted → ℕ
count a = count_of a.outcome

abbrev pub more : Answer Granted → Bool
more a = more_of a.outcome

-- a call that is no cycle grants no one, and no more are pending
abbrev pub without_grants : Result (Unit {0}) Refusal → Result Granted Refusal
without_grants (Ok _) = Ok (record { count = 0; more = false })
without_grants (Err refusal) = Err refusal

-- the answer of a call that is no cycle, as a cycle's: count 0, and no more pending
abbrev pub no_cycle : Answer (Unit {0}) → Answer Granted
no_cycle a = record { state = a.state; outcome = without_grants a.outcome }

-- a served call that is no cycle: the state alone
abbrev pub served : State → Answer (Unit {0})
served s = record { state = s; outcome = Ok tt }

-- a refused call: the state as given
abbrev pub refused : {T : Type 0} → Refusal → State → Answer T
refused refusal s = record { state = s; outcome = Err refusal }

-- a served cycle given the state s: the state with the next head, and what is granted
abbrev pub decided : State → Decision → Answer Granted
decided s d = record { state = moved s d.next; outcome = Ok (record { count = d.count; more = d.more }) }

-- a cycle that was given the state s
abbrev pub answered : State → Result Decision Refusal → Answer Granted
answered s (Ok d) = decided s d
answered s (Err refusal) = refused refusal s

-- one thing where no question refuses, another, by the refusal, where one does
abbrev pub if_passed : {A : Type 0} → Verdict → A → (Refusal → A) → A
if_passed (Ok _) a b = a
if_passed (Err refusal) a b = b refusal

-- a call that makes a state, or refuses to
abbrev pub opens : Result State Refusal → Answer (Unit {0})
opens (Ok s) = served s
opens (Err refusal) = refused refusal nothing

-- a call that makes this state
abbrev pub opened : Verdict → State → Answer (Unit {0})
opened v s = if_passed v (served s) (λ refusal. refused refusal nothing)

-- what a call that writes a buffer leaves: its answer, and the bytes that the buffer then holds
pub record Effect (T : Type 0) : Type 0 where
  pub answer : Answer T
  pub written : List ℕ

-- a call given the state s, which answers so and writes these bytes if it is served; refused it writes nothing
abbrev pub writes : {T : Type 0} → Verdict → State → Answer T → List ℕ → List ℕ → Effect T
writes v s answer bytes former =
    if_passed v
    (record { answer = answer; written = bytes })
    (λ refusal. record { answer = refused refusal s; written = former })
