-- The saturated adder as a call, with any input.
-- Assumes nothing.
use Rattle.std.specs.Prelude.{ℕ, ◌+◌, Bool, false, ◌&&◌, leb, Result, Ok, Err}
use Rattle.std.specs.Int.Count.{ones}
use Rattle.rules.specs.Thermometer as ThermometerRule
use Rattle.arbiter.specs.declared.refusal.Refusal.{Refusal}
use Rattle.arbiter.specs.declared.refusal.Refusal.TheVariants.{Picks, Code}
use Rattle.thermometer.specs.declared.adder.Sum.{Sum}
use Rattle.thermometer.specs.declared.adder.StepSum.{StepSum}
use Rattle.arbiter.specs.Questions.{Verdict, refuse_unless, ◌then◌, max_picks}
pub mod Known

-- 3 of the adder, which has no stations: is the pick count 1 to the most?
abbrev pub pick_count : ℕ → Verdict
pick_count m = refuse_unless (leb 1 m && leb m max_picks) Picks

-- 13: are both bytes thermometer codes for these picks?
abbrev pub codes : ℕ → ℕ → ℕ → Verdict
codes m a b = refuse_unless (ThermometerRule.is_code m a && ThermometerRule.is_code m b) Code

-- 3, then 13
abbrev pub questions : ℕ → ℕ → ℕ → Verdict
questions m a b = pick_count m then codes m a b

-- the code of the sum, and whether anything was cut off
abbrev pub joined : ℕ → ℕ → ℕ → Sum
joined m a b = record { code = ThermometerRule.add m a b; cut = ThermometerRule.cuts m a b }

-- where no question refuses
abbrev pub sum : ℕ → ℕ → ℕ → Result Sum Refusal
sum m a b = questions m a b then Ok (joined m a b)

-- "The adder's answer is a number, a place and a code; refused, it returns code 0": the code of an answer. Its number and place are
-- Answers' number_of and place_of
abbrev pub code_of : Result Sum Refusal → ℕ
code_of (Ok s) = s.code
code_of (Err refusal) = 0

-- 02, N5: "whether it cut anything off"; refused, it cut nothing off
abbrev pub cut_of : Result Sum Refusal → Bool
cut_of (Ok s) = s.cut
cut_of (Err refusal) = false

-- a step of a running count (02, N3): the code of the sum, and that of the whole sum
abbrev pub step : ℕ → ℕ → ℕ → StepSum
step m a b = record { code = ThermometerRule.add m a b; whole = ThermometerRule.code (ones a + ones b) }
