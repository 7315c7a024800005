-- What the highest byte of some requests tells. Each statement is the clause of the function of the same name in src/theorems.rt, and so
-- it is a theorem.
-- Assumes nothing.
use Rattle.std.specs.Prelude.{ℕ, ◌≤◌, ◌≡◌, ◌↔◌, false, List}
use Rattle.arbiter.specs.Decisions.{requested}
use Rattle.search.specs.Places.{Bits, highest}
use Rattle.arbiter.specs.declared.refusal.Buffer.{Buffer}
use Rattle.arbiter.specs.Questions.{bits, passed}

-- question 8 passes exactly if the highest byte is at most 1
abbrev pub HighestPasses : Type 0
HighestPasses = (buffer : Buffer) (bytes : List ℕ) → (bits buffer 0 bytes ≡ passed) ↔ (highest bytes ≤ 1)

-- where every byte is 0 or 1, nobody asks exactly if the highest is 0
abbrev pub HighestSilent : Type 0
HighestSilent = (bytes : List ℕ) → Bits bytes → ((w : ℕ) → requested bytes w ≡ false) ↔ (highest bytes ≡ 0)
