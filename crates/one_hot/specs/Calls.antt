-- The one-hot image of the head: a byte for each station, all 0 for none or a single 1 at the head.
-- Assumes nothing.
use Rattle.std.specs.Prelude.{ℕ, List, length, set, drop, replicate, None, Some}
use Rattle.rules.specs.Head.{Head}
use Rattle.arbiter.specs.declared.Answer.{Answer}
use Rattle.arbiter.specs.declared.State.{State}
use Rattle.arbiter.specs.declared.refusal.Buffer.TheVariants.{Image}
use Rattle.arbiter.specs.declared.refusal.Refusal.TheVariants.{SecondOne}
use Rattle.search.specs.Places.{ones, first}
use Rattle.arbiter.specs.Questions as Questions
use Rattle.arbiter.specs.Questions.{Verdict, refuse_at_first, ◌then◌}
use Rattle.arbiter.specs.Answers.{Effect, moved, served, refused, if_passed, writes}
pub mod Laws
pub mod Known

-- the image of a head
unfoldable pub image : ℕ → Head → List ℕ
image n None = replicate n 0
image n (Some h) = set (replicate n 0) h 1

-- the head of an image
abbrev pub head_of : List ℕ → Head
head_of bytes = first (ones 0 bytes)

-- 10: has an image at most one 1? A refusal names the place of the second
abbrev pub one_hot : List ℕ → Verdict
one_hot bytes = refuse_at_first SecondOne (drop 1 (ones 0 bytes))

-- the questions of reading one: 1, 3, 4, 5, 8 and 10
abbrev pub questions : State → List ℕ → Verdict
questions s bytes =
    Questions.state_questions s then Questions.read_length s.width (length bytes) then Questions.bits Image 0 bytes then one_hot bytes

-- reading one replaces the head of a state
abbrev pub read : State → List ℕ → Answer (Unit {0})
read s bytes = if_passed (questions s bytes) (served (moved s (head_of bytes))) (λ refusal. refused refusal s)

-- writing one shows the head of a state
abbrev pub write : State → List ℕ → Effect (Unit {0})
write s former = writes (Questions.write_questions s s.width (length former)) s (served s) (image s.width s.head) former
