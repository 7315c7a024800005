-- Thermometer codes by counting.
-- Assumes nothing.
use Rattle.std.specs.Prelude.{ℕ, ◌+◌, Bool, cond, min, ◌&&◌, Option, None, Some, List, [], ◌∷◌, leb, ltb, eqb, get_or, count_by, slice_range}
pub mod Laws

-- the codes of the counts 0 to 8
abbrev pub codes : List ℕ
codes = 0 ∷ 1 ∷ 3 ∷ 7 ∷ 15 ∷ 31 ∷ 63 ∷ 127 ∷ 255 ∷ []

-- the code of a count, for 0 to 8
unfoldable pub code : ℕ → ℕ
code c = get_or codes c 0

-- a byte is no less than a code
unfoldable pub reaches_code : ℕ → ℕ → Bool
reaches_code byte c = leb c byte

-- the count of a code: how many of the codes of 1 to m it is no less than
unfoldable pub counted : ℕ → ℕ → ℕ
counted m byte = count_by (reaches_code byte) (slice_range codes 1 (m + 1))

-- the picks are in 1 to 8
unfoldable pub allowed : ℕ → Bool
allowed m = leb 1 m && leb m 8

-- a byte is a code for m picks
unfoldable pub is_code : ℕ → ℕ → Bool
is_code m byte = allowed m && eqb (code (counted m byte)) byte

-- the saturated sum of two codes for m picks, and whether m cuts it off, where both are codes
unfoldable pub sum : ℕ → ℕ → ℕ → Option (ℕ × Bool)
sum m left right =
    let both = counted m left + counted m right in
    cond (is_code m left && is_code m right) (Some (code (min m both), ltb m both)) None
