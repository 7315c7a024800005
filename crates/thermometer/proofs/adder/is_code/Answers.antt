-- `is_code` meets its contract.
-- Assumes nothing.
use mathlib.Core.Path.{refl}
use native.Mathlib.Omega.{arith}
use Rattle.thermometer.proofs.Codes.{trailing_code}
use Rattle.thermometer.proofs.adder.is_code.Goals as goal

pub returns : goal.returns
returns c = rw (c.trailing_ones.ensures, c.count.ensures) (trailing_code c.args.picks c.args.byte _ (omega (arith, c)) refl)
