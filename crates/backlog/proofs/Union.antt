-- Numbers or'ed one after the other: what comes out is no smaller than any of them.
-- Assumes nothing.
use Rattle.std.proofs.Common.{ℕ, zero, suc, ◌<◌, ◌≤◌, arith, List, [], ◌∷◌, length, get_or, bit_or}
use Rattle.std.specs.List.{fold}
use Rattle.std.proofs.lemmas.Nat.{le_or_l, le_or_r}

from_le : (a : ℕ) (xs : List ℕ) → a ≤ fold bit_or a xs
from_le a [] = omega arith
from_le a (x ∷ xs) = omega (arith, le_or_l a x, from_le (bit_or a x) xs)

pub each_le : (a : ℕ) (xs : List ℕ) (i : ℕ) → i < length xs → get_or xs i 0 ≤ fold bit_or a xs
each_le a [] i l = absurd (omega arith)
each_le a (x ∷ xs) zero l = omega (arith, le_or_r a x, from_le (bit_or a x) xs)
each_le a (x ∷ xs) (suc i) l = each_le (bit_or a x) xs i (omega arith)
