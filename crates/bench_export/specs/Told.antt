-- What the exported calls are given and tell, as numbers.
-- Assumes nothing.
use Rattle.std.specs.Prelude.{ℕ, List, [], ◌∷◌, cond, eqb, None, Some, unwrap_or, is_some}
use Rattle.rules.specs.Lists.{bit}
use Rattle.arbiter.specs.declared.Answer.{Answer}
use Rattle.arbiter.specs.declared.Granted.{Granted}
use Rattle.arbiter.specs.declared.State.{State}
use Rattle.arbiter.specs.Answers.{made, number, place, count, more}

-- the state of a width, picks, whether there is a head (0 is none), and the head
abbrev pub given : ℕ → ℕ → ℕ → ℕ → State
given n m kind h = made n m (cond (eqb kind 0) None (Some h))

-- an answer: number, place, count, width, picks, 1 if there is a head, the head or 0, and 1 if more are pending
abbrev pub told : Answer Granted → List ℕ
told a =
    number a
    ∷ place a
    ∷ count a
    ∷ a.state.width
    ∷ a.state.picks
    ∷ bit (is_some a.state.head)
    ∷ unwrap_or a.state.head 0
    ∷ bit (more a)
    ∷ []
