-- What holds of every call, whatever it is given. What a call answers and writes is said by the definition that its contract cites.
-- Assumes nothing.
use Rattle.std.specs.Prelude.{ℕ, ◌<◌, ◌≡◌, Bool, true, false, ◌&&◌, List, [], ◌∷◌, eqb, get_or, Some}
use Rattle.std.specs.List.{list_any}
use Rattle.rules.specs.Lists.{range, count, member}
use Rattle.arbiter.specs.declared.State.{State}
use Rattle.arbiter.specs.Answers as Answers
use Rattle.arbiter.specs.Answers.{moved, with_picks, number, place, more, number_of, place_of}
use Rattle.search.specs.Places.{one_at}
use Rattle.thermometer.specs.Adder as Adder
use Rattle.calls.specs.Calls.{Cycle, Call, cycle, Made, ran, made, Step, run, served}

-- no served cycle ends without a head: it returns the state that it was given with a station for a head
abbrev pub HeadAfter : Type 0
HeadAfter =
    (s : State) (c : Cycle) → let r = ran s c in
    number r.answer ≡ 0 → (k : ℕ) × (k < r.given.width) × (r.answer.state ≡ moved r.given (Some k))

-- a served call counts the grants that are 1, so one that is no cycle counts none
abbrev pub GrantsCounted : Type 0
GrantsCounted =
    (s : State) (c : Call) → let r = made s c in
    number r.answer ≡ 0 → Answers.count r.answer ≡ count (λ b. eqb b 1) r.grants

-- some station asks, by its request, and is not granted, by its grant
abbrev pub left_asking : Made → Bool
left_asking r = list_any (λ w. one_at r.requests w && eqb (get_or r.grants w 0) 0) (range 0 r.given.width)

-- a cycle's answer says that more are pending exactly if some station asks and is not granted; a refusal says no, and so does a call that is
-- no cycle
abbrev pub MorePending : Type 0
MorePending = (s : State) (c : Call) → let r = made s c in more r.answer ≡ (eqb (number r.answer) 0 && left_asking r)

-- a refusal counts nothing, returns the state as given, and writes nothing
abbrev pub RefusedAsGiven : Type 0
RefusedAsGiven =
    (s : State) (c : Call) → let r = made s c in
    (number r.answer ≡ 0 → ⊥) → (Answers.count r.answer ≡ 0) × (r.answer.state ≡ r.given) × (r.left ≡ r.lent)

-- so in a list a refused cycle changes nothing for the calls that come after it
abbrev pub RefusedSkipped : Type 0
RefusedSkipped =
    (s : State) (m : ℕ) (c : Cycle) (steps : List Step)
    → (number (ran (with_picks s m) c).answer ≡ 0 → ⊥)
    → served (run s (record { picks = m; call = cycle c } ∷ steps)) ≡ served (run s steps)

-- the questions of these calls that name a place
abbrev pub placing : List ℕ
placing = 8 ∷ 10 ∷ 14 ∷ 16 ∷ []

-- the place of an answer is 0 for all others
abbrev pub PlaceZero : Type 0
PlaceZero = (s : State) (c : Call) → let r = made s c in (member (number r.answer) placing ≡ true → ⊥) → place r.answer ≡ 0

-- the adder's answer names no place; refused, it has code 0 and has cut nothing off
abbrev pub AdderAnswers : Type 0
AdderAnswers =
    (m a b : ℕ) → let s = Adder.sum m a b in
    (place_of s ≡ 0) × ((number_of s ≡ 0 → ⊥) → (Adder.code_of s ≡ 0) × (Adder.cut_of s ≡ false))
