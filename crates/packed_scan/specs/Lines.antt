-- Packed requests that have passed the questions about them, the line that an entry of the table names, and what a search in a byte
-- finds.
-- Assumes nothing.
use Rattle.std.specs.Prelude.{ℕ, ◌+◌, ◌*◌, ◌/◌, ◌%◌, ◌≤◌, ◌<◌, ◌≡◌, cond, ltb, List, [], ◌++◌, length, get_or, Option, None, Some}
use Rattle.rules.specs.Head.{Head}
use Rattle.rules.specs.Packing.{packed_length, unpack, first_line}
use Rattle.rules.specs.RoundRobin.{start, granted}
use Rattle.arbiter.specs.Decisions.{requested}
use Rattle.search.specs.Places.{ones, first}
use Rattle.arbiter.specs.Questions.{max_width}
pub mod Laws

-- the lines that are set in packed bytes, from a line on, whether there is a station for them or not
abbrev pub set_lines : ℕ → List ℕ → List ℕ
set_lines from packed = ones from (unpack (8 * length packed) packed)

-- the packed wires of n stations: as many bytes as they take, and no bit set that is no station's
pub record Packed (n : ℕ) (packed : List ℕ) : Type 0 where
  pub most : n ≤ max_width
  pub long : length packed ≡ packed_length n
  pub unused : set_lines n packed ≡ []

-- the line that an entry of the table names: 8 is none
abbrev pub listed : ℕ → Option ℕ
listed entry = cond (ltb entry 8) (Some entry) None

-- a line of a byte, counted through the lines of all bytes
abbrev pub through : ℕ → Option ℕ → Option ℕ
through byte None = None
through byte (Some line) = Some (8 * byte + line)

-- the first set line from a line on in that line's byte
abbrev pub in_byte : ℕ → List ℕ → Option ℕ
in_byte from packed = through (from / 8) (listed (first_line (get_or packed (from / 8) 0) (from % 8)))

-- the first line that is set, once round from the head, is whom the rule grants
abbrev pub RoundGranted : Type 0
RoundGranted =
    (n : ℕ) (packed : List ℕ) → Packed n packed → (h : Head) → start h < n
    → first (set_lines (start h) packed ++ set_lines 0 packed) ≡ first (granted n 1 h (requested (unpack n packed)))
