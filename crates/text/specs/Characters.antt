-- Characters, and numbers as text. A character is a byte.
-- Assumes nothing.
use Rattle.std.specs.Prelude.{ℕ, zero, suc, ◌+◌, ◌/◌, ◌%◌, cond, List, [], ◌∷◌, ◌++◌, map, eqb, ltb}
pub mod Laws
pub mod Known

-- what ends a line
abbrev pub line_feed : ℕ
line_feed = 10

-- what parts the words of a line
abbrev pub space : ℕ
space = 32

-- the character of a digit below 10
abbrev pub digit : ℕ → ℕ
digit d = 48 + d

-- the digits of n, the highest first, where `most` of them are enough
unfoldable pub digits : ℕ → ℕ → List ℕ
digits zero n = []
digits (suc most) n = cond (ltb n 10) (digit n ∷ []) (digits most (n / 10) ++ (digit (n % 10) ∷ []))

-- a number as text: "All numbers are decimal". n + 1 digits are enough for n
unfoldable pub decimal : ℕ → List ℕ
decimal n = digits (suc n) n

-- the character of a bit: 1 for the byte 1, and 0 for any other
abbrev pub bit : ℕ → ℕ
bit byte = cond (eqb byte 1) (digit 1) (digit 0)

-- bits as text
abbrev pub bits : List ℕ → List ℕ
bits bytes = map bit bytes
