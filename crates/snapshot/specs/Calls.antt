-- The snapshot of a state: six bytes, and a short form of four that is still read.
-- Assumes nothing.
use Rattle.std.specs.Prelude.{ℕ, ◌+◌, ◌-◌, ◌/◌, ◌%◌, cond, ◌||◌, List, [], ◌∷◌, ◌++◌, eqb, length, get_or}
use Rattle.rules.specs.Head.{Head}
use Rattle.std.specs.Prelude.{None, Some}
use Rattle.arbiter.specs.declared.Answer.{Answer}
use Rattle.arbiter.specs.declared.State.{State}
use Rattle.arbiter.specs.declared.refusal.Buffer.TheVariants.{Snapshot}
use Rattle.arbiter.specs.declared.refusal.Refusal.TheVariants.{ReadLength, HeadRange}
use Rattle.search.specs.Words as Words
use Rattle.arbiter.specs.Questions as Questions
use Rattle.arbiter.specs.Questions.{Verdict, ◌then◌}
use Rattle.arbiter.specs.Answers.{Effect, made, served, opened, writes}
use Rattle.snapshot.specs.declared.Fields.{Fields}
pub mod Laws
pub mod Known

-- how long one is: "The saved form becomes six bytes"
abbrev pub size : ℕ
size = 6

-- how long the short form is: "Four-byte forms are still read"
abbrev pub short_size : ℕ
short_size = 4

-- a number in "two bytes, low byte first"
abbrev pub two_bytes : ℕ → List ℕ
two_bytes n = n % 256 ∷ n / 256 ∷ []

-- the head mark: "1 if there is a head, else 0"
abbrev pub mark : Head → ℕ
mark None = 0
mark (Some h) = 1

-- "the head, or 0 for none", and the mark
abbrev pub head_bytes : Head → List ℕ
head_bytes None = two_bytes 0 ++ (mark None ∷ [])
head_bytes (Some h) = two_bytes h ++ (mark (Some h) ∷ [])

-- the six bytes of a state: "N − 1 in two bytes, low byte first; m; the head in two bytes likewise; the head mark"
abbrev pub saved : State → List ℕ
saved s = two_bytes (s.width - 1) ++ (s.picks ∷ head_bytes s.head)

-- what six bytes say
unfoldable pub long_fields : List ℕ → Fields
long_fields bytes =
    record {
      width = Words.number (get_or bytes 0 0 ∷ get_or bytes 1 0 ∷ []) + 1;
      picks = get_or bytes 2 0;
      station = Words.number (get_or bytes 3 0 ∷ get_or bytes 4 0 ∷ []);
      mark = get_or bytes 5 0;
    }

-- what four bytes say: 01's "N − 1; m; the head, or 0 for none; 1 if there is a head, else 0"
unfoldable pub short_fields : List ℕ → Fields
short_fields bytes =
    record {
      width = get_or bytes 0 0 + 1;
      picks = get_or bytes 1 0;
      station = get_or bytes 2 0;
      mark = get_or bytes 3 0;
    }

-- what either form says: the short one is "known by" its length
unfoldable pub fields : List ℕ → Fields
fields bytes = cond (eqb (length bytes) short_size) (short_fields bytes) (long_fields bytes)

-- the head with a station and a mark
abbrev pub marked : ℕ → ℕ → Head
marked station byte = cond (eqb byte 1) (Some station) None

-- the state that a snapshot says
abbrev pub state : Fields → State
state f = made f.width f.picks (marked f.station f.mark)

-- 5: "5 accepts a saved form of four or six bytes"
abbrev pub read_length : ℕ → Verdict
read_length stated = Questions.refuse_unless (eqb stated short_size || eqb stated size) ReadLength

-- 4 is "also given if byte 3 is 0 and byte 2 is not"; of six bytes it "reads both head bytes"
abbrev pub no_stray : Fields → Verdict
no_stray f = Questions.refuse_unless (eqb f.mark 1 || eqb f.station 0) HeadRange

-- 1, 3 and 4 of what a snapshot says
abbrev pub allowed : Fields → Verdict
allowed f = Questions.state_questions (state f) then no_stray f

-- the questions of six bytes after 5: "8 names byte 5 in the long form, where 1 is asked next, then 3, then 4"
abbrev pub long_questions : List ℕ → Verdict
long_questions bytes = Questions.bits Snapshot 5 bytes then allowed (long_fields bytes)

-- the questions of four bytes after 5: "then 8 of byte 3 alone (place 3), then 3, then 4"
abbrev pub short_questions : List ℕ → Verdict
short_questions bytes =
    let f = short_fields bytes in
    Questions.bits Snapshot 3 bytes
    then (Questions.picks f.width f.picks then Questions.head f.width (marked f.station f.mark) then no_stray f)

-- the questions of reading one
abbrev pub questions : List ℕ → Verdict
questions bytes =
    read_length (length bytes) then cond (eqb (length bytes) short_size) (short_questions bytes) (long_questions bytes)

-- reading one makes the state of what it says
abbrev pub read : List ℕ → Answer (Unit {0})
read bytes = opened (questions bytes) (state (fields bytes))

-- writing one: "6 asks six"
abbrev pub write : State → List ℕ → Effect (Unit {0})
write s former = writes (Questions.write_questions s size (length former)) s (served s) (saved s) former
