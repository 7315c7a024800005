-- The wait rule: over every list of calls of a kind, from any state, whoever asks. What a call answers and writes is what its engine
-- promises.
-- Assumes nothing.
use Rattle.std.specs.Prelude.{ℕ, ◌+◌, ◌-◌, ◌/◌, ◌≤◌, ◌<◌, ◌≡◌, Bool, true, false, ◌&&◌, List, [], ◌∷◌, ◌++◌, ◌⊎◌, eqb, length, take}
use Rattle.std.specs.List.{sum_by}
use Rattle.rules.specs.Lists.{count}
use Rattle.arbiter.specs.declared.State.{State}
use Rattle.arbiter.specs.Answers.{with_picks}
use Rattle.calls.specs.Calls.{Cycle, bus_cycle, cycle_that, Made, Step, run, served, asks, granted, Each}
use Rattle.fairness.specs.Kinds.{Kind, SomeServes, by_rule, on_bus, any_picks, picks_of}

-- a list of a kind from the state s: all its calls are of the kind, and have the state's pick count
abbrev pub Of : Kind → State → List Step → Type 0
Of k s steps = Each (picks_of s.picks k.is) steps

-- k is the least number of which the claim is true
pub record Least (claim : ℕ → Type 0) (k : ℕ) : Type 0 where
  pub holds : claim k
  pub least : (j : ℕ) → claim j → k ≤ j

-- so there is one such number at most, whatever the claim
abbrev pub OneLeastOfAny : Type 1
OneLeastOfAny = (claim : ℕ → Type 0) (j k : ℕ) → Least claim j → Least claim k → j ≡ k

-- so a contract says it: of tests, since a statement about all claims is too large for one
abbrev pub OneLeast : Type 0
OneLeast = (test : ℕ → Bool) (j k : ℕ) → Least (λ n. test n ≡ true) j → Least (λ n. test n ≡ true) k → j ≡ k

-- From a state that the kind does not serve every cycle is refused, and nothing is then counted
abbrev pub UnservedRefused : Kind → Type 0
UnservedRefused k = (s : State) (steps : List Step) → Of k s steps → (k.Serves s → ⊥) → served (run s steps) ≡ []

-- A wait of station w, in a list from the state s whose calls pass the test: served cycles that follow one another, in all of which the
-- station asks and in none of which it is granted, whatever was served before them and after them
pub record Wait (test : Step → Bool) (s : State) (w : ℕ) (waiting : List Made) : Type 0 where
  pub steps : List Step
  pub pass : Each test steps
  pub past : List Made
  pub rest : List Made
  pub are : served (run s steps) ≡ past ++ (waiting ++ rest)
  pub asking : Each (asks w) waiting
  pub ungranted : count (granted w) waiting ≡ 0

-- the pick counts of a wait add up to less than the limit, and nobody is granted twice in it
pub record FewPicks (limit : ℕ) (waiting : List Made) : Type 0 where
  pub short : sum_by (λ m. m.given.picks) waiting < limit
  pub once : (v : ℕ) → count (granted v) waiting ≤ 1

-- so it is in every list from the state s of cycles by the round-robin rule, each with a pick count of its own
abbrev pub PicksBelow : State → ℕ → Type 0
PicksBelow s limit = (w : ℕ) (waiting : List Made) → Wait (any_picks by_rule.is) s w waiting → FewPicks limit waiting

-- They add up to less than N
abbrev pub PicksBounded : Type 0
PicksBounded = (s : State) → 0 < s.width → PicksBelow s s.width

-- and with no smaller number would that be true, where some engine serves the state with one pick
abbrev pub PicksNoFewer : Type 0
PicksNoFewer = (s : State) → SomeServes (with_picks s 1) → Least (PicksBelow s) s.width

-- N/m rounded up
abbrev pub ceiling : ℕ → ℕ → ℕ
ceiling n m = (n + (m - 1)) / m

-- a wait in a list of a kind from the state s
abbrev pub WaitOf : Kind → State → ℕ → List Made → Type 0
WaitOf k s w waiting = Wait (picks_of s.picks k.is) s w waiting

-- they have fewer cycles than the limit
abbrev pub Shorter : Kind → State → ℕ → Type 0
Shorter k s limit = (w : ℕ) (waiting : List Made) → WaitOf k s w waiting → length waiting < limit

-- They are fewer than N/m rounded up, and with no smaller number would that be true
abbrev pub BoundedWaiting : Kind → Type 0
BoundedWaiting k = (s : State) → k.Serves s → Least (Shorter k s) (ceiling s.width s.picks)

-- from any state, no station is granted so many times in them
abbrev pub GrantedFewer : Kind → ℕ → Type 0
GrantedFewer k times =
    (s : State) (w : ℕ) (waiting : List Made) → WaitOf k s w waiting → (v : ℕ) → count (granted v) waiting < times

-- No station is granted twice in them; once it may be
abbrev pub NotTwice : Kind → Type 0
NotTwice k = Least (GrantedFewer k) 2

-- a station asks in each cycle until one grants it
abbrev pub AsksUntilGranted : ℕ → List Made → Type 0
AsksUntilGranted w [] = Unit {0}
AsksUntilGranted w (m ∷ ms) = (asks w m ≡ true) × (granted w m ≡ false → AsksUntilGranted w ms)

-- such a station, from any served cycle on, is granted within this many served cycles, the first included, unless the list ends
-- sooner
abbrev pub GrantedWithin : Kind → State → ℕ → Type 0
GrantedWithin k s limit =
    (steps : List Step) (w : ℕ) (past : List Made) (first : Made) (rest : List Made)
    → Of k s steps
    → served (run s steps) ≡ past ++ (first ∷ rest)
    → AsksUntilGranted w (first ∷ rest)
    → (0 < count (granted w) (take limit (first ∷ rest))) ⊎ (length (first ∷ rest) < limit)

-- What follows for it: N/m rounded up of them are enough, and fewer are not
abbrev pub GrantedInTime : Kind → Type 0
GrantedInTime k = (s : State) → k.Serves s → Least (GrantedWithin k s) (ceiling s.width s.picks)

-- a cycle is acknowledged: on the bus, with the acknowledge byte 1
abbrev pub acknowledges : Cycle → Bool
acknowledges (bus_cycle requests grants byte) = eqb byte 1
acknowledges _ = false

abbrev pub acknowledged : Made → Bool
acknowledged m = cycle_that acknowledges m.call

-- The bus. Take any served cycles that follow one another, in all of which a station asks, unacknowledged ones too, and exactly so many
-- of which are acknowledged: one of these grants it
abbrev pub GrantedAcknowledged : State → ℕ → Type 0
GrantedAcknowledged s exactly =
    (steps : List Step) (w : ℕ) (past cycles rest : List Made)
    → Of on_bus s steps
    → served (run s steps) ≡ past ++ (cycles ++ rest)
    → Each (asks w) cycles
    → count acknowledged cycles ≡ exactly
    → 0 < count (λ m. acknowledged m && granted w m) cycles

-- for N this is true, and for no smaller number
abbrev pub BusBoundedWaiting : Type 0
BusBoundedWaiting = (s : State) → on_bus.Serves s → Least (GrantedAcknowledged s) s.width
