-- What lists with messages waiting keep: what arrives and what waits at the start is together what is granted and what waits at the
-- end.
-- Assumes nothing.
use Rattle.std.specs.Prelude.{ℕ, ◌+◌, ◌≡◌, Bool, true, false, List, [], ◌∷◌, get_or}
use Rattle.std.specs.List.{sum, sum_by}
use Rattle.rules.specs.Lists.{filter, count}
use Rattle.arbiter.specs.declared.State.{State}
use Rattle.arbiter.specs.Answers as Answers
use Rattle.calls.specs.Calls.{Cycle, backlog_cycle, cycle_that, Made, Step, run, served, granted}

-- a cycle is one with messages waiting
abbrev pub has_messages : Cycle → Bool
has_messages (backlog_cycle e arrivals waiting grants nodes) = true
has_messages _ = false

-- the served cycles of a list that are such ones, whatever calls stand between them
abbrev pub message_cycles : State → List Step → List Made
message_cycles s steps = filter (λ m. cycle_that has_messages m.call) (served (run s steps))

-- each of some cycles finds the waiting numbers that the one before left, and the first these. That a refused call between leaves the
-- numbers as it was given them is `refused_as_given`
abbrev pub Finds : List ℕ → List Made → Type 0
Finds start [] = Unit {0}
Finds start (m ∷ ms) = (m.messages.waiting ≡ start) × Finds m.messages.remaining ms

-- the numbers that the last one left
abbrev pub now_waiting : List ℕ → List Made → List ℕ
now_waiting start [] = start
now_waiting start (m ∷ ms) = now_waiting m.messages.remaining ms

-- for each station
abbrev pub EachKept : Type 0
EachKept =
    (s : State) (steps : List Step) (start : List ℕ) (w : ℕ) → let cycles = message_cycles s steps in
    Finds start cycles
    → sum_by (λ m. get_or m.messages.arrivals w 0) cycles + get_or start w 0
    ≡ count (granted w) cycles + get_or (now_waiting start cycles) w 0

-- and for all together: the grants of a cycle are those that it counts
abbrev pub AllKept : Type 0
AllKept =
    (s : State) (steps : List Step) (start : List ℕ) → let cycles = message_cycles s steps in
    Finds start cycles
    → sum_by (λ m. sum m.messages.arrivals) cycles + sum start
    ≡ sum_by (λ m. Answers.count m.answer) cycles + sum (now_waiting start cycles)
