-- A line model with messages waiting, over the engines that grant by the round-robin rule. It has a number for each station, of messages
-- waiting, and the engine's cycle in it is the engine's own definition.
-- Assumes nothing.
use Rattle.std.specs.Prelude.{ℕ, ◌+◌, ◌-◌, List, map, eqb, ltb, length, get_or}
use Rattle.rules.specs.Lists.{bit, range}
use Rattle.arbiter.specs.declared.Answer.{Answer}
use Rattle.arbiter.specs.declared.Granted.{Granted}
use Rattle.arbiter.specs.declared.State.{State}
use Rattle.arbiter.specs.declared.refusal.Refusal.TheVariants.{WaitingLength, Overflow}
use Rattle.arbiter.specs.Questions as Questions
use Rattle.arbiter.specs.Questions.{Verdict, refuse_unless, refuse_at_first, ◌then◌}
use Rattle.arbiter.specs.Answers.{refused, if_passed}
use Rattle.search.specs.Places.{places, one_at}
use Rattle.engines.specs.declared.Engine.{Engine}
use Rattle.engines.specs.Calls as EngineCalls
pub mod Laws
pub mod Known

-- a cycle adds the arrivals: the waiting numbers with a byte of arrivals for each station
unfoldable pub arrived : List ℕ → List ℕ → List ℕ
arrived waiting arrivals = map (λ w. get_or waiting w 0 + get_or arrivals w 0) (range 0 (length waiting))

-- it lets every station ask whose number is not 0: the requests that these numbers make
unfoldable pub requests : List ℕ → List ℕ
requests numbers = map (λ w. bit (ltb 0 (get_or numbers w 0))) (range 0 (length numbers))

-- and it takes one from each granted station
unfoldable pub taken : List ℕ → List ℕ → List ℕ
taken numbers grants = map (λ w. get_or numbers w 0 - bit (one_at grants w)) (range 0 (length numbers))

-- the most messages that may wait at a station
abbrev pub max_waiting : ℕ
max_waiting = 4294967295

-- 15: is there a waiting number for each station?
abbrev pub waiting_length : ℕ → ℕ → Verdict
waiting_length n size = refuse_unless (eqb size n) WaitingLength

-- 16: does no number, the arrivals added, pass the most? A refusal names the lowest station whose number would
abbrev pub overflow : List ℕ → Verdict
overflow numbers = refuse_at_first Overflow (places (ltb max_waiting) 0 numbers)

-- the questions about what a cycle is lent, with a grant and a node buffer of these lengths: 5 of the arrivals, 6, 15, for the tree 7, and
-- 16 last. 8 is not asked
abbrev pub lent_questions : Engine → ℕ → List ℕ → List ℕ → ℕ → ℕ → Verdict
lent_questions e n arrivals waiting grantsSize nodesSize =
    Questions.read_length n (length arrivals)
    then Questions.write_length n grantsSize
    then waiting_length n (length waiting)
    then EngineCalls.nodes_question e n nodesSize
    then overflow (arrived waiting arrivals)

-- the questions of a cycle: those about its state, 1, 3 and 4, the tree 2 after 1, come first
abbrev pub questions : Engine → State → List ℕ → List ℕ → ℕ → ℕ → Verdict
questions e s arrivals waiting grantsSize nodesSize =
    EngineCalls.state_questions e s then lent_questions e s.width arrivals waiting grantsSize nodesSize

-- what a cycle leaves: its answer, the waiting numbers, and the bytes that the two buffers then hold
pub record BacklogEffect : Type 0 where
  pub answer : Answer Granted
  pub waiting : List ℕ
  pub grants : List ℕ
  pub nodes : List ℕ

-- a cycle, with the buffers' former bytes: the engine's own with the requests that there are after the arrivals; refused it writes
-- nothing
unfoldable pub cycle : Engine → State → List ℕ → List ℕ → List ℕ → List ℕ → BacklogEffect
cycle e s arrivals waiting former formerNodes =
    let numbers = arrived waiting arrivals in
    let o = EngineCalls.cycle e s (requests numbers) former formerNodes in
    if_passed (questions e s arrivals waiting (length former) (length formerNodes))
    (record { answer = o.answer; waiting = taken numbers o.grants; grants = o.grants; nodes = o.nodes })
    (λ refusal. record { answer = refused refusal s; waiting = waiting; grants = former; nodes = formerNodes })
