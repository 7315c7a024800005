-- `join` meets its contract.
-- Assumes nothing.
use mathlib.Core.Path.{ap, ap₂, ◌∙◌}
use lib.Dec.{ltb}
use native.Mathlib.Omega.{arith}
use Rattle.rules.specs.Thermometer.{code, add, cuts}
use Rattle.thermometer.proofs.adder.join.Goals as goal

pub returns : goal.returns
unfolding add cuts
returns c =
    ap₂ (λ x y. record { code = x; cut = y }) (c.code.ensures ∙ ap code (omega (arith, c))) (ap (ltb c.args.picks) (omega (arith, c)))
