-- Laws of the model.
-- Promises `distance_le`, `reach_le` and `some_le`. The rest are steps of their proofs.
-- Assumes nothing.
use Rattle.std.specs.Prelude.{ℕ, ◌-◌, ◌≤◌, ◌≡◌, List, [], ◌∷◌, Some, map, filter, fold, max}
use Rattle.std.specs.List.{range_with_len, reduce}
use Rattle.std.proofs.Common.{arith}
use Rattle.std.proofs.lemmas.Bool.Decides.{nat_tests}
use Rattle.reference.specs.Turns.{wrapped, distance, granted, reach, some}
use Rattle.reference.specs.declared.Cycle.{Cycle}

-- no station is a whole round away
pub distance_le : (c : Cycle) (w : ℕ) → distance c w ≤ c.width - 1
unfolding distance wrapped
distance_le c w = grind (arith, nat_tests)

-- of numbers up to b the greatest is no more
fold_le : (f : ℕ → ℕ) (b : ℕ) → ((i : ℕ) → f i ≤ b) → (xs : List ℕ) (a : ℕ) → a ≤ b → fold max a (map f xs) ≤ b
fold_le f b le [] a h = h
fold_le f b le (x ∷ xs) a h = fold_le f b le xs (max a (f x)) (omega (arith, le x))

reduce_le : (f : ℕ → ℕ) (b : ℕ) → ((i : ℕ) → f i ≤ b) → (xs : List ℕ) (most : ℕ) → reduce max (map f xs) ≡ Some most → most ≤ b
reduce_le f b le [] most e = cc
reduce_le f b le (x ∷ xs) most e = grind (arith, fold_le f b le xs (f x) (le x))

-- so is no granted one
pub reach_le : (c : Cycle) (far : ℕ) → reach c ≡ Some far → far ≤ c.width - 1
unfolding reach
reach_le c far e = reduce_le (distance c) (c.width - 1) (distance_le c) (filter (granted c) (range_with_len 0 c.width)) far e

-- a count as a bit is one
pub some_le : (k : ℕ) → some k ≤ 1
unfolding some
some_le k = grind (arith, nat_tests)
