-- Eight wires to a byte: 02, N2. The packed form of a request or a grant buffer, and the table by which the lines of a byte are
-- searched. Packing and unpacking are shut: all others go by Laws.
-- Assumes nothing.
use Rattle.std.specs.Prelude.{ℕ, ◌+◌, ◌-◌, ◌*◌, ◌/◌, ◌%◌, ◌^◌, List, [], ◌∷◌, map, eqb, length, get_or}
use Rattle.rules.specs.Lists.{range, filter}
pub mod Laws
pub mod Known

-- line j of a byte: its bit j, 0 the lowest
abbrev pub line : ℕ → ℕ → ℕ
line byte j = byte / 2 ^ j % 2

-- "station i is bit i mod 8 of byte i div 8"
abbrev pub wire : List ℕ → ℕ → ℕ
wire packed i = line (get_or packed (i / 8) 0) (i % 8)

-- the wires of n stations, a byte for each
pub unpack : ℕ → List ℕ → List ℕ
unpack n packed = map (wire packed) (range 0 n)

-- "N/8 bytes rounded up"
abbrev pub packed_length : ℕ → ℕ
packed_length n = (n + 7) / 8

-- the number whose bits these are, the lowest first
abbrev pub binary : List ℕ → ℕ
binary [] = 0
binary (b ∷ bs) = b + 2 * binary bs

-- byte k: the wires of its eight stations, and 0 where there is no station, "with unused high bits 0"
abbrev pub packed_byte : List ℕ → ℕ → ℕ
packed_byte wires k = binary (map (λ j. get_or wires (8 * k + j) 0) (range 0 8))

-- the packed form of some wires
pub pack : List ℕ → List ℕ
pack wires = map (packed_byte wires) (range 0 (packed_length (length wires)))

-- the first of some lines, or 8
abbrev pub first_or8 : List ℕ → ℕ
first_or8 [] = 8
first_or8 (j ∷ js) = j

-- an entry of the table: "the first set line at or above the start, or 8"
unfoldable pub first_line : ℕ → ℕ → ℕ
first_line byte start = first_or8 (filter (λ j. eqb (line byte j) 1) (range start (8 - start)))

-- the table's entries of a start line, "one for each byte value"; with "each start line 0 to 7" these are 2,048
unfoldable pub entries : ℕ → List ℕ
entries start = map (λ byte. first_line byte start) (range 0 256)
