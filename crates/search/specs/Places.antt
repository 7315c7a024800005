-- The bytes of a buffer: the places at which a byte passes a test, and the highest byte.
-- Assumes nothing.
use Rattle.std.specs.Prelude.{ℕ, ◌-◌, ◌≤◌, ◌<◌, max, Bool, List, [], ◌∷◌, eqb, ltb, length, get_or, Option, None, Some}
use Rattle.rules.specs.Lists.{range, filter}
pub mod Laws

-- from a place on, in their order
abbrev pub places : (ℕ → Bool) → ℕ → List ℕ → List ℕ
places test from bytes = filter (λ i. test (get_or bytes i 0)) (range from (length bytes - from))

-- the byte at a place is 1: in a request buffer the station there asks, in a grant buffer it is granted
abbrev pub one_at : List ℕ → ℕ → Bool
one_at bytes w = eqb (get_or bytes w 0) 1

-- those that hold a 1
abbrev pub ones : ℕ → List ℕ → List ℕ
ones from bytes = places (λ b. eqb b 1) from bytes

-- those that do not hold a 0
abbrev pub nonzero : ℕ → List ℕ → List ℕ
nonzero from bytes = places (ltb 0) from bytes

-- the first of some places, or none
abbrev pub first : List ℕ → Option ℕ
first [] = None
first (p ∷ ps) = Some p

-- every byte is 0 or 1
abbrev pub Bits : List ℕ → Type 0
Bits bytes = (i : ℕ) → i < length bytes → get_or bytes i 0 ≤ 1

-- the highest byte, 0 where there is none. It is shut: calls go by its laws
pub highest : List ℕ → ℕ
highest [] = 0
highest (b ∷ bs) = max b (highest bs)
