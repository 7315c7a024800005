-- The tree's calls with any input. Grants, count, next head and whether more are pending are the round-robin rule's, as in arbiter's
-- Cycle.
-- Assumes nothing.
use Rattle.std.specs.Prelude.{ℕ, ◌*◌, ◌^◌, List, map, eqb, length}
use Rattle.rules.specs.Head.{Head}
use Rattle.rules.specs.Lists.{range, member}
use Rattle.rules.specs.Tree as TreeRule
use Rattle.arbiter.specs.declared.Answer.{Answer}
use Rattle.arbiter.specs.declared.Granted.{Granted}
use Rattle.arbiter.specs.declared.State.{State}
use Rattle.arbiter.specs.declared.refusal.Buffer.TheVariants.{Requests}
use Rattle.arbiter.specs.declared.refusal.Refusal.TheVariants.{TreeWidth, NodesLength}
use Rattle.arbiter.specs.Questions as Questions
use Rattle.arbiter.specs.Questions.{Verdict, refuse_unless, ◌then◌}
use Rattle.arbiter.specs.Answers.{made, refused, if_passed, opened}
use Rattle.arbiter.specs.Cycle.{asking, answer, granting}
pub mod Laws
pub mod Known

-- 2: is the width a power of two, at least 2?
abbrev pub tree_width : ℕ → Verdict
tree_width n = refuse_unless (member n (map (λ k. 2 ^ k) (range 1 n))) TreeWidth

-- 7: is the node buffer twice as long as there are stations?
abbrev pub nodes_length : ℕ → ℕ → Verdict
nodes_length n size = refuse_unless (eqb size (2 * n)) NodesLength

-- 1, 2, 3 and 4
abbrev pub state_questions : State → Verdict
state_questions s = Questions.width s.width then tree_width s.width then Questions.one_pick s.picks then Questions.head s.width s.head

-- opening with a width, a pick count, and a head or none
abbrev pub opening : ℕ → ℕ → Head → Answer (Unit {0})
opening n m h = let s = made n m h in opened (state_questions s) s

-- the questions of a cycle with these requests, and a grant and a node buffer of these lengths: 1 to 8
abbrev pub questions : State → List ℕ → ℕ → ℕ → Verdict
questions s requests grantsSize nodesSize =
    state_questions s
    then Questions.read_length s.width (length requests)
    then Questions.write_length s.width grantsSize
    then nodes_length s.width nodesSize
    then Questions.bits Requests 0 requests

-- what a cycle leaves: its answer, and the bytes that the two buffers then hold
pub record TreeEffect : Type 0 where
  pub answer : Answer Granted
  pub grants : List ℕ
  pub nodes : List ℕ

-- a cycle, with the buffers' former bytes: served, it leaves in the node buffer the tree of its requests and of the head before it; refused
-- it writes nothing
unfoldable pub cycle : State → List ℕ → List ℕ → List ℕ → TreeEffect
cycle s requests former formerNodes =
    if_passed (questions s requests (length former) (length formerNodes))
    (record {
      answer = answer s requests;
      grants = granting s requests;
      nodes = TreeRule.nodes s.width s.head (asking s requests);
    })
    (λ refusal. record { answer = refused refusal s; grants = former; nodes = formerNodes })
