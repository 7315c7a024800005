-- Laws of the codes.
-- Assumes nothing.
use Rattle.std.specs.Prelude.{ℕ, ◌+◌, ◌-◌, ◌≤◌, ◌≡◌, true, drop, slice_range}
use Rattle.std.proofs.Common.{arith}
use Rattle.std.proofs.lemmas.Bool.Decides.{nat_tests}
use Rattle.std.proofs.lemmas.List.{length-take}
use Rattle.std.proofs.lemmas.List.Sums.{count_by-le-length}
use Rattle.reference.specs.Codes.{codes, reaches_code, counted, allowed, is_code}

-- there are codes only for at most 8 picks
pub code_picks : (m byte : ℕ) → is_code m byte ≡ true → m ≤ 8
unfolding is_code allowed
code_picks m byte e = grind (arith, nat_tests)

-- no count is above the picks
pub counted_le : (m byte : ℕ) → counted m byte ≤ m
unfolding counted
counted_le m byte = omega (arith, count_by-le-length (reaches_code byte) (slice_range codes 1 (m + 1)), length-take (m + 1 - 1) (drop 1 codes))
