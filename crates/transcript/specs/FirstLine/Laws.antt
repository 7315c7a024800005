-- What is known of first lines that are being read.
-- Promises `first_single` and `first_opens`. The rest are steps of their proofs.
-- Assumes nothing.
use Prim.Native.Nat.{ℕ, ◌+◌}
use Rattle.std.specs.Prelude.{◌≡◌, List, length, take, drop, get_or, ◌==◌, position, None, Some}
use Rattle.std.proofs.Common.{add-one}
use native.Mathlib.Omega.{arith}
use borrow.Author.Tests.{eq-eqb, lt-ltb, le-ltb}
use Rattle.text.specs.Characters.{space}
use Rattle.transcript.specs.Lines.{place}
use Rattle.transcript.specs.Lines.Laws.{place_found, place_missing}
use Rattle.transcript.specs.FirstLine.{letter, read_number, together, first_line}

-- a line with the first space, and what follows it
module _ (line : List ℕ) (spaced : get_or line 1 0 ≡ space) where
  abbrev numbers : List ℕ
  numbers = drop 2 line

  -- without the second space it is not readable
  pub first_single : position (λ c. c == space) numbers ≡ None → first_line line ≡ None
  unfolding first_line
  first_single e =
      rw (eq-eqb (get_or line 1 0) space spaced, le-ltb (place space numbers) (length numbers) (omega (arith, place_missing space numbers e)))

  -- with it, it is readable if its three parts are
  pub first_opens : (end : ℕ) → position (λ c. c == space) numbers ≡ Some end
      → first_line line ≡ together (letter (get_or line 0 0)) (read_number (take end numbers)) (read_number (drop (end + 1) numbers))
  unfolding first_line
  first_opens end e =
      let k = place_found space numbers end e in
      rw (eq-eqb (get_or line 1 0) space spaced, k.0, lt-ltb end (length numbers) k.1, add-one)
