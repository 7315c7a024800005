-- Everything that the program `turns` prints, for any input: 01, "The program `turns`".
-- Assumes nothing.
use Rattle.std.specs.Prelude.{ℕ, ◌+◌, ◌≤◌, ◌≡◌, cond, List, [], ◌∷◌, ◌++◌, leb, length, take, drop, get_or, Option, None, Some, Result, Ok, Err}
use Rattle.arbiter.specs.declared.State.{State}
use Rattle.arbiter.specs.declared.refusal.Refusal.{Refusal}
use Rattle.arbiter.specs.declared.refusal.Refusal.TheVariants as Refused
use Rattle.transcript.specs.declared.first_line.FirstLine.{FirstLine}
use Rattle.transcript.specs.declared.first_line.Kind.{Kind}
use Rattle.transcript.specs.Lines.{lines}
use Rattle.transcript.specs.FirstLine.{first_line}
use Rattle.transcript.specs.Cycles.{opening, refused_line, run}
pub mod Laws
pub mod Known

-- the fixed first line, "line granted next", with its line feed
abbrev pub heading : List ℕ
heading =
    108 ∷ 105 ∷ 110 ∷ 101 ∷ 32 ∷ 103 ∷ 114 ∷ 97 ∷ 110 ∷ 116 ∷ 101 ∷ 100 ∷ 32 ∷ 110 ∷ 101 ∷ 120 ∷ 116 ∷ 10 ∷ []

-- the longest input that question 12 lets pass
abbrev pub max_input : ℕ
max_input = 65536

-- how much is read: one byte more, so that a longer input is seen to be longer
abbrev pub read_size : ℕ
read_size = max_input + 1

-- what follows the heading once an engine is opened, given what the opening came to and the state that it made
abbrev pub after_opening : Kind → Result (Unit {0}) Refusal → State → List (List ℕ) → List ℕ
after_opening kind (Ok _) s ls = run kind s 1 ls
after_opening kind (Err refusal) s ls = refused_line 0 refusal

-- what follows the heading once the first line is read: "A refused opening, and 11 or 12, print line number 0 in that form and
-- end the run"
unfoldable pub after_first_line : Option FirstLine → List (List ℕ) → List ℕ
after_first_line None ls = refused_line 0 Refused.FirstLine
after_first_line (Some f) ls =
    let a = opening f.kind f.width f.picks in after_opening f.kind a.outcome a.state ls

-- what follows the heading, given the lines of the input
abbrev pub after_heading : List (List ℕ) → List ℕ
after_heading ls = after_first_line (first_line (get_or ls 0 [])) (drop 1 ls)

-- everything: "always with the fixed first line"; 12 is asked before 11
unfoldable pub text : List ℕ → List ℕ
text input = heading ++ cond (leb (length input) max_input) (after_heading (lines input)) (refused_line 0 Refused.InputLength)

-- n counts bytes at the start of a buffer. The second part follows from the first; with both a caller can lend these bytes
abbrev pub Counts : ℕ → List ℕ → Type 0
Counts n buffer = (n ≤ length buffer) × (n ≡ length (take n buffer))
