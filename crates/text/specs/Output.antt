-- Writing a text into a buffer, piece by piece.
-- Assumes nothing.
use Rattle.std.specs.Prelude.{ℕ, ◌+◌, ◌-◌, min, ◌≡◌, List, length}
use Rattle.std.proofs.lemmas.List.Edits.{sets}
use Rattle.text.specs.declared.Output.{Output}
pub mod Laws

-- as much of the text as there is room for is written from `at` on, nothing else is changed, and `end` is the place after it
pub record Put (former : List ℕ) (at : ℕ) (text : List ℕ) (buffer : List ℕ) (end : ℕ) : Type 0 where
  -- `sets` leaves out what would stand past the end
  pub holds : buffer ≡ sets former at text
  pub ends : end ≡ at + min (length text) (length former - at)

-- the same of an output: its buffer is still the former one's, and its place is the one after the text
pub record Written (former : Output) (text : List ℕ) (output : Output) : Type 0 where
  pub same_buffer : output.bytes.ghost_name ≡ former.bytes.ghost_name
  pub put : Put former.bytes.now former.at text output.bytes.now output.at
