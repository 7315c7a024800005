-- Opening and one cycle by the round-robin rule, with any input: the calls of the plain scan, the thermometer arbiter and the Kogge-Stone
-- arbiter. The tree grants by the same rule.
-- Assumes nothing.
use Rattle.std.specs.Prelude.{ℕ, Bool, List, length}
use Rattle.rules.specs.Head.{Head}
use Rattle.rules.specs.RoundRobin.{grants}
use Rattle.arbiter.specs.declared.Answer.{Answer}
use Rattle.arbiter.specs.declared.Granted.{Granted}
use Rattle.arbiter.specs.declared.State.{State}
use Rattle.arbiter.specs.Questions as Questions
use Rattle.arbiter.specs.Questions.{Verdict, ◌then◌}
use Rattle.arbiter.specs.Decisions.{requested, decision}
use Rattle.arbiter.specs.Answers.{Effect, made, decided, opened, writes}
pub mod Known

-- opening with a width, a pick count, and a head or none: it asks 1, 3 and 4
abbrev pub opening : ℕ → ℕ → Head → Answer (Unit {0})
opening n m h = let s = made n m h in opened (Questions.state_questions s) s

-- who asks: a station does if the call is given 1 for it
abbrev pub asking : State → List ℕ → ℕ → Bool
asking s requests = requested requests

-- the answer of a served cycle: how many are granted, the state with the next head, and whether more are pending
abbrev pub answer : State → List ℕ → Answer Granted
answer s requests = decided s (decision s.width s.picks s.head (asking s requests))

-- the grant buffer of a served cycle
abbrev pub granting : State → List ℕ → List ℕ
granting s requests = grants s.width s.picks s.head (asking s requests)

-- the questions of a cycle with these requests and a grant buffer of this length: 1, 3, 4, 5, 6 and 8
abbrev pub questions : State → List ℕ → ℕ → Verdict
questions s requests size = Questions.state_questions s then Questions.cycle_questions s.width requests size

-- a cycle, with the grant buffer's former bytes
abbrev pub cycle : State → List ℕ → List ℕ → Effect Granted
cycle s requests former = writes (questions s requests (length former)) s (answer s requests) (granting s requests) former
