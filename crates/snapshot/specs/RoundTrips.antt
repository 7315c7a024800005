-- State and snapshot convert each way without loss: what is written is read back, and six bytes that are read are written back, wherever
-- the first of the two calls is served.
-- Assumes nothing.
use Rattle.std.specs.Prelude.{ℕ, ◌<◌, ◌≡◌, List, [], ◌∷◌, length, get_or}
use Rattle.arbiter.specs.declared.State.{State}
use Rattle.arbiter.specs.Answers.{number, served}
use Rattle.snapshot.specs.Calls as SnapshotCalls

-- the snapshot of a state gives that state
abbrev pub SnapshotReadBack : Type 0
SnapshotReadBack =
    (s : State) (former : List ℕ) → number (SnapshotCalls.write s former).answer ≡ 0
    → SnapshotCalls.read (SnapshotCalls.write s former).written ≡ served s

-- the state that six bytes gave has them for its snapshot; a snapshot's numbers are bytes
abbrev pub SnapshotWrittenBack : Type 0
SnapshotWrittenBack =
    (bytes former : List ℕ) → ((i : ℕ) → get_or bytes i 0 < 256) → length bytes ≡ SnapshotCalls.size → number (SnapshotCalls.read bytes) ≡ 0
    → length former ≡ SnapshotCalls.size
    → let s = (SnapshotCalls.read bytes).state in SnapshotCalls.write s former ≡ record { answer = served s; written = bytes }

-- four bytes mean the same state: what is served gives what the snapshot of its state gives
abbrev pub ShortReadAlike : Type 0
ShortReadAlike =
    (bytes : List ℕ) → ((i : ℕ) → get_or bytes i 0 < 256) → length bytes ≡ SnapshotCalls.short_size → number (SnapshotCalls.read bytes) ≡ 0
    → SnapshotCalls.read (SnapshotCalls.saved (SnapshotCalls.read bytes).state) ≡ SnapshotCalls.read bytes

-- served or refused, four bytes are answered as six with a high byte of 0 for each number, but for the place that 8 names
abbrev pub ShortLengthened : Type 0
ShortLengthened =
    (a b c d : ℕ) → a < 256
    → let short = SnapshotCalls.read (a ∷ b ∷ c ∷ d ∷ []) in
    let long = SnapshotCalls.read (a ∷ 0 ∷ b ∷ c ∷ 0 ∷ d ∷ []) in
    (number short ≡ number long) × (short.state ≡ long.state)
