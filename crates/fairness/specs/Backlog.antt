-- The wait rule with messages waiting: who has a message waiting asks, so what is said of who asks is said of who has one; and where the
-- waiting numbers are kept from cycle to cycle, no message is lost.
-- Assumes nothing.
use Rattle.std.specs.Prelude.{ℕ, ◌<◌, ◌≡◌, Bool, true, List, ◌∷◌, ◌++◌, ◌⊎◌, ltb, length, get_or, take}
use Rattle.rules.specs.Lists.{count}
use Rattle.arbiter.specs.declared.State.{State}
use Rattle.backlog.specs.Calls.{arrived}
use Rattle.calls.specs.Calls.{Cycle, Made, ran, Step, run, served, asks, granted}
use Rattle.calls.specs.Messages.{has_messages, Finds}
use Rattle.fairness.specs.Kinds.{with_messages}
use Rattle.fairness.specs.Waiting.{Of, Least, ceiling}

-- station w has a message waiting: its number is not 0 once the arrivals are in
abbrev pub has_message : ℕ → Made → Bool
has_message w m = ltb 0 (get_or (arrived m.messages.waiting m.messages.arrivals) w 0)

-- it asks exactly if it has one
abbrev pub MessageAsks : Type 0
MessageAsks = (s : State) (c : Cycle) (w : ℕ) → has_messages c ≡ true → asks w (ran s c) ≡ has_message w (ran s c)

-- In a list in which each served cycle finds the waiting numbers that the one before left, a message is never lost: a station that has
-- one in a cycle is granted within this many cycles, that one included, unless the list ends sooner
abbrev pub BacklogGrantedWithin : State → ℕ → Type 0
BacklogGrantedWithin s limit =
    (steps : List Step) (start : List ℕ) → let cycles = served (run s steps) in
    Of with_messages s steps
    → Finds start cycles
    → (w : ℕ) (past : List Made) (first : Made) (rest : List Made)
    → cycles ≡ past ++ (first ∷ rest)
    → has_message w first ≡ true
    → (0 < count (granted w) (take limit (first ∷ rest))) ⊎ (length (first ∷ rest) < limit)

-- N/m rounded up of them are enough, and fewer are not
abbrev pub BacklogGrantedInTime : Type 0
BacklogGrantedInTime = (s : State) → with_messages.Serves s → Least (BacklogGrantedWithin s) (ceiling s.width s.picks)
