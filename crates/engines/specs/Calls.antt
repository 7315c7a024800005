-- The calls of the engines that grant by the round-robin rule, with any input: each is the named engine's own.
-- Assumes nothing.
use Rattle.std.specs.Prelude.{ℕ, List}
use Rattle.rules.specs.Head.{Head}
use Rattle.arbiter.specs.declared.Answer.{Answer}
use Rattle.arbiter.specs.declared.Granted.{Granted}
use Rattle.arbiter.specs.declared.State.{State}
use Rattle.arbiter.specs.Questions as Questions
use Rattle.arbiter.specs.Questions.{Verdict, passed}
use Rattle.arbiter.specs.Answers as Answers
use Rattle.arbiter.specs.Cycle as RoundRobinCalls
use Rattle.tree.specs.Calls as TreeCalls
use Rattle.tree.specs.Calls.{TreeEffect}
use Rattle.engines.specs.declared.Engine.{Engine}
use Rattle.engines.specs.declared.Engine.TheVariants.{Scan, Tree, Thermometer, KoggeStone}
pub mod Laws
pub mod Known

-- what an engine asks about a state
abbrev pub state_questions : Engine → State → Verdict
state_questions Scan s = Questions.state_questions s
state_questions Tree s = TreeCalls.state_questions s
state_questions Thermometer s = Questions.state_questions s
state_questions KoggeStone s = Questions.state_questions s

-- what it asks about a node buffer of this length: the tree 7, the others nothing
abbrev pub nodes_question : Engine → ℕ → ℕ → Verdict
nodes_question Scan n size = passed
nodes_question Tree n size = TreeCalls.nodes_length n size
nodes_question Thermometer n size = passed
nodes_question KoggeStone n size = passed

-- its opening
abbrev pub opening : Engine → ℕ → ℕ → Head → Answer (Unit {0})
opening e n m h = let s = Answers.made n m h in Answers.opened (state_questions e s) s

-- what a cycle leaves that knows no node buffer: its bytes stay
abbrev pub with_nodes : Answers.Effect Granted → List ℕ → TreeEffect
with_nodes o formerNodes = record { answer = o.answer; grants = o.written; nodes = formerNodes }

-- an engine's cycle, with the former bytes of the grant buffer and of the node buffer: what it answers, and what the two buffers
-- then hold
abbrev pub cycle : Engine → State → List ℕ → List ℕ → List ℕ → TreeEffect
cycle Scan s requests former formerNodes = with_nodes (RoundRobinCalls.cycle s requests former) formerNodes
cycle Tree s requests former formerNodes = TreeCalls.cycle s requests former formerNodes
cycle Thermometer s requests former formerNodes = with_nodes (RoundRobinCalls.cycle s requests former) formerNodes
cycle KoggeStone s requests former formerNodes = with_nodes (RoundRobinCalls.cycle s requests former) formerNodes
