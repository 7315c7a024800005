-- Where the order of the stations starts: 01's head, "a station number or none".
-- Assumes nothing.
use Rattle.std.specs.Prelude.{ℕ, Option}

abbrev pub Head : Type 0
Head = Option ℕ
