-- The packed scan's calls with any input.
-- Assumes nothing.
use Rattle.std.specs.Prelude.{ℕ, ◌/◌, List, map, length}
use Rattle.rules.specs.Head.{Head}
use Rattle.rules.specs.Packing.{packed_length, pack, unpack}
use Rattle.arbiter.specs.declared.Answer.{Answer}
use Rattle.arbiter.specs.declared.Granted.{Granted}
use Rattle.arbiter.specs.declared.State.{State}
use Rattle.arbiter.specs.declared.refusal.Refusal.TheVariants.{UnusedBit}
use Rattle.arbiter.specs.Questions as Questions
use Rattle.arbiter.specs.Questions.{Verdict, refuse_at_first, ◌then◌}
use Rattle.arbiter.specs.Answers.{Effect, made, opened, writes}
use Rattle.arbiter.specs.Cycle.{answer, granting}
use Rattle.packed_scan.specs.Lines.{set_lines}
pub mod Laws
pub mod Known

-- 14: is every set bit some station's? A refusal names the place of the byte that has the first one that is not
abbrev pub unused_bits : ℕ → List ℕ → Verdict
unused_bits n packed = refuse_at_first UnusedBit (map (λ i. i / 8) (set_lines n packed))

-- 1, 3 and 4, where 3 asks for one pick
abbrev pub state_questions : State → Verdict
state_questions s = Questions.width s.width then Questions.one_pick s.picks then Questions.head s.width s.head

-- opening with a width, a pick count, and a head or none
abbrev pub opening : ℕ → ℕ → Head → Answer (Unit {0})
opening n m h = let s = made n m h in opened (state_questions s) s

-- the questions of a cycle with these requests and a grant buffer of this length: 1, 3 and 4, then 5 and 6, which state the packed length,
-- and 14 in place of 8
abbrev pub questions : State → List ℕ → ℕ → Verdict
questions s requests size =
    state_questions s
    then Questions.read_length (packed_length s.width) (length requests)
    then Questions.write_length (packed_length s.width) size
    then unused_bits s.width requests

-- a cycle, with the grant buffer's former bytes: its turns are the plain scan's on the unpacked wires, and its grants go out packed too
abbrev pub cycle : State → List ℕ → List ℕ → Effect Granted
cycle s requests former =
    let wires = unpack s.width requests in
    writes (questions s requests (length former)) s (answer s wires) (pack (granting s wires)) former
