-- The questions that most calls ask. A call asks its questions one after another, and the first that is answered no refuses it. n is the
-- width, m the pick count, h the head. A question that one crate alone asks stands with that crate's calls.
-- Assumes nothing.
use Rattle.std.specs.Prelude.{ℕ, Bool, true, false, ◌&&◌, List, [], ◌∷◌, eqb, ltb, leb, length, None, Some, Result, Ok, Err}
use Rattle.rules.specs.Head.{Head}
use Rattle.arbiter.specs.declared.State.{State}
use Rattle.arbiter.specs.declared.refusal.Buffer.{Buffer}
use Rattle.arbiter.specs.declared.refusal.Buffer.TheVariants.{Requests}
use Rattle.arbiter.specs.declared.refusal.Refusal.{Refusal}
use Rattle.arbiter.specs.declared.refusal.Refusal.TheVariants.{Width, Picks, HeadRange, ReadLength, WriteLength, NotABit}
use Rattle.arbiter.specs.declared.question.RefusedReading.{RefusedReading}
use Rattle.search.specs.Places.{places, highest}
pub mod Laws
pub mod Known

-- what a question says: `Ok` where it passes, and else its refusal
abbrev pub Verdict : Type 0
Verdict = Result Unit Refusal

-- no refusal
abbrev pub passed : Verdict
passed = Ok tt

-- a question that is answered no refuses
abbrev pub refuse_unless : Bool → Refusal → Verdict
refuse_unless true refusal = passed
refuse_unless false refusal = Err refusal

-- a refusal at the first of these places, if there is one
abbrev pub refuse_at_first : (ℕ → Refusal) → List ℕ → Verdict
refuse_at_first refusal [] = passed
refuse_at_first refusal (p ∷ ps) = Err (refusal p)

infixl 20 ◌then◌
-- one question after another, or after the last what the call is for: the first that refuses decides
abbrev pub ◌then◌ : {A : Type 0} → Verdict → Result A Refusal → Result A Refusal
(Ok _) then b = b
(Err refusal) then b = Err refusal

-- the most stations
abbrev pub max_width : ℕ
max_width = 1024

-- 1: is the width 1 to the most?
abbrev pub width : ℕ → Verdict
width n = refuse_unless (leb 1 n && leb n max_width) Width

-- the most grants in one cycle
abbrev pub max_picks : ℕ
max_picks = 8

-- 3: is the pick count 1 to the most, and no more than the stations?
abbrev pub picks : ℕ → ℕ → Verdict
picks n m = refuse_unless ((leb 1 m && leb m max_picks) && leb m n) Picks

-- 3 for an arbiter with one pick: is that the pick count?
abbrev pub one_pick : ℕ → Verdict
one_pick m = refuse_unless (eqb m 1) Picks

-- 4: is the head none, or a station?
abbrev pub head : ℕ → Head → Verdict
head n None = passed
head n (Some h) = refuse_unless (ltb h n) HeadRange

-- 5: is the buffer to be read exactly as long as stated?
abbrev pub read_length : ℕ → ℕ → Verdict
read_length stated size = refuse_unless (eqb size stated) ReadLength

-- 6: the same of the buffer to be written
abbrev pub write_length : ℕ → ℕ → Verdict
write_length stated size = refuse_unless (eqb size stated) WriteLength

-- 8: is every byte of this buffer 0 or 1, from a place on? A refusal names the place of the first that is not
abbrev pub bits : Buffer → ℕ → List ℕ → Verdict
bits buffer from bytes = refuse_at_first (NotABit buffer) (places (ltb 1) from bytes)

-- 1, 3 and 4
abbrev pub state_questions : State → Verdict
state_questions s = width s.width then picks s.width s.picks then head s.width s.head

-- those of a call that writes what a state holds to a buffer: 1, 3, 4 and 6
abbrev pub write_questions : State → ℕ → ℕ → Verdict
write_questions s stated size = state_questions s then write_length stated size

-- those of a cycle with these requests and a grant buffer of this length, after those about its state: 5, 6 and 8
abbrev pub cycle_questions : ℕ → List ℕ → ℕ → Verdict
cycle_questions n requests size = read_length n (length requests) then write_length n size then bits Requests 0 requests

-- a refusal before any byte is read: the highest byte is 0
abbrev pub unread : Refusal → RefusedReading
unread refusal = record { refusal = refusal; highest = 0 }

-- what is said of bytes that have been read: the highest, whether a question about them passes or refuses
abbrev pub with_highest : ℕ → Verdict → Result ℕ RefusedReading
with_highest high (Ok _) = Ok high
with_highest high (Err refusal) = Err (record { refusal = refusal; highest = high })

-- 8 of all bytes, after questions that read none
abbrev pub read : Verdict → Buffer → List ℕ → Result ℕ RefusedReading
read (Ok _) buffer bytes = with_highest (highest bytes) (bits buffer 0 bytes)
read (Err refusal) buffer bytes = Err (unread refusal)

-- those of a cycle, with the highest byte of its requests
abbrev pub cycle : ℕ → List ℕ → ℕ → Result ℕ RefusedReading
cycle n requests size = read (read_length n (length requests) then write_length n size) Requests requests
