-- Head and image convert each way without loss: what is written is read back, and what is read is written back, wherever the first of the
-- two calls is served.
-- Assumes nothing.
use Rattle.std.specs.Prelude.{ℕ, ◌≡◌, List, length}
use Rattle.arbiter.specs.declared.State.{State}
use Rattle.arbiter.specs.Questions as Questions
use Rattle.arbiter.specs.Answers.{number, moved, served}
use Rattle.one_hot.specs.Calls as OneHotCalls

-- the image of a state's head, read into any state that is allowed and has that width, gives it that head
abbrev pub ImageReadBack : Type 0
ImageReadBack =
    (s t : State) (former : List ℕ) → number (OneHotCalls.write s former).answer ≡ 0 → Questions.state_questions t ≡ Questions.passed
    → t.width ≡ s.width → OneHotCalls.read t (OneHotCalls.write s former).written ≡ served (moved t s.head)

-- the state that an image was read into writes the same image
abbrev pub ImageWrittenBack : Type 0
ImageWrittenBack =
    (s : State) (bytes former : List ℕ) → number (OneHotCalls.read s bytes) ≡ 0 → length former ≡ length bytes
    → let t = (OneHotCalls.read s bytes).state in OneHotCalls.write t former ≡ record { answer = served t; written = bytes }
