-- `code` meets its contract.
-- Assumes nothing.
use Prim.Native.Nat.{min}
use mathlib.Core.Path.{◌≡◌}
use native.Mathlib.Omega.{arith}
use lib.Pow.{pow-lt}
use Rattle.rules.specs.Thermometer.{code}
use Rattle.thermometer.proofs.adder.code.Goals as goal

pub returns : goal.returns
unfolding code
returns c =
    let few : c.min.result ≡ min 8 c.args.count = omega (arith, c) in
    rw few (omega (arith, pow-lt {i = min 8 c.args.count} {j = 9} (omega arith)))
