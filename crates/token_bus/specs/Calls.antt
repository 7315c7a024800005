-- The token bus's calls with any input. The head of its state is the token.
-- Assumes nothing.
use Rattle.std.specs.Prelude.{ℕ, Bool, false, List, leb, ltb, length, None, Some}
use Rattle.rules.specs.Head.{Head}
use Rattle.rules.specs.RoundRobin.{start}
use Rattle.rules.specs.Bus as BusRule
use Rattle.rules.specs.Pending.{more}
use Rattle.arbiter.specs.declared.Answer.{Answer}
use Rattle.arbiter.specs.declared.Decision.{Decision}
use Rattle.arbiter.specs.declared.Granted.{Granted}
use Rattle.arbiter.specs.declared.State.{State}
use Rattle.arbiter.specs.declared.refusal.Refusal.TheVariants.{HeadRange, Acknowledge}
use Rattle.arbiter.specs.Questions as Questions
use Rattle.arbiter.specs.Questions.{Verdict, refuse_unless, ◌then◌}
use Rattle.arbiter.specs.Answers.{Effect, made, decided, opened, writes}
use Rattle.arbiter.specs.Cycle.{asking}
pub mod Laws
pub mod Known

-- 4 of the bus: is there a token, and is it a station?
abbrev pub token_question : ℕ → Head → Verdict
token_question n None = refuse_unless false HeadRange
token_question n (Some t) = refuse_unless (ltb t n) HeadRange

-- 9: is the acknowledge byte 0 or 1?
abbrev pub acknowledge : ℕ → Verdict
acknowledge byte = refuse_unless (leb byte 1) Acknowledge

-- 1, 3 and 4
abbrev pub state_questions : State → Verdict
state_questions s = Questions.width s.width then Questions.one_pick s.picks then token_question s.width s.head

-- opening with a width, a pick count, and a token or none, which 4 refuses
abbrev pub opening : ℕ → ℕ → Head → Answer (Unit {0})
opening n m h = let s = made n m h in opened (state_questions s) s

-- the token
abbrev pub token : State → ℕ
token s = start s.head

-- what a cycle decides, apart from any state: how many are granted, the next token, and whether more are pending
abbrev pub decision : ℕ → ℕ → Bool → (ℕ → Bool) → Decision
decision n t ack asks =
    let gs = BusRule.granted n t asks in record { count = length gs; next = Some (BusRule.next n t ack asks); more = more n asks gs }

-- the answer of a served cycle
abbrev pub answer : State → List ℕ → ℕ → Answer Granted
answer s requests byte = decided s (decision s.width (token s) (BusRule.acknowledged byte) (asking s requests))

-- the grant buffer of a served cycle
abbrev pub granting : State → List ℕ → List ℕ
granting s requests = BusRule.grants s.width (token s) (asking s requests)

-- the questions of a cycle with these requests, a grant buffer of this length and this acknowledge byte: 1, 3, 4, 5, 6, 8 and 9
abbrev pub questions : State → List ℕ → ℕ → ℕ → Verdict
questions s requests size byte = state_questions s then Questions.cycle_questions s.width requests size then acknowledge byte

-- a cycle, with the grant buffer's former bytes
abbrev pub cycle : State → List ℕ → List ℕ → ℕ → Effect Granted
cycle s requests former byte =
    writes (questions s requests (length former) byte) s (answer s requests byte) (granting s requests) former
