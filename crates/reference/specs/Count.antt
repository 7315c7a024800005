-- Counting, in which the model is written.
-- Assumes nothing.
use Rattle.std.specs.Prelude.{ℕ, Bool, count_by}
use Rattle.std.specs.List.{range_with_len}

-- how many of the k numbers from a on pass the test
abbrev pub tally : (ℕ → Bool) → ℕ → ℕ → ℕ
tally p a k = count_by p (range_with_len a k)
