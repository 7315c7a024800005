-- What a served cycle keeps: what waited and what arrived is together what is granted and what is left waiting.
-- Assumes nothing.
use Rattle.std.specs.Prelude.{ℕ, ◌+◌, ◌≡◌, List, get_or}
use Rattle.std.specs.List.{sum}
use Rattle.rules.specs.Lists.{bit}
use Rattle.arbiter.specs.declared.State.{State}
use Rattle.arbiter.specs.Answers as Answers
use Rattle.arbiter.specs.Answers.{number}
use Rattle.search.specs.Places.{one_at}
use Rattle.engines.specs.declared.Engine.{Engine}
use Rattle.backlog.specs.Calls.{cycle}

-- for each station, which is granted one message where its grant is 1
abbrev pub KeptAtEach : Type 0
KeptAtEach =
    (e : Engine) (s : State) (arrivals waiting grants nodes : List ℕ) → let o = cycle e s arrivals waiting grants nodes in
    number o.answer ≡ 0 → (w : ℕ) → get_or waiting w 0 + get_or arrivals w 0 ≡ bit (one_at o.grants w) + get_or o.waiting w 0

-- and for all together: the grants of a cycle are those that it counts
abbrev pub KeptInAll : Type 0
KeptInAll =
    (e : Engine) (s : State) (arrivals waiting grants nodes : List ℕ) → let o = cycle e s arrivals waiting grants nodes in
    number o.answer ≡ 0 → sum arrivals + sum waiting ≡ Answers.count o.answer + sum o.waiting
