-- `step` meets its contract.
-- Assumes nothing.
use Prim.Native.Nat.{◌+◌, ◌*◌}
use mathlib.Core.Path.{◌≡◌, refl, ap₂}
use native.Mathlib.Omega.{arith}
use native.Mathlib.Nat.{mul-le-mul_left}
use lib.Bits.{bit_or, and_le_r}
use Rattle.tracer.specs.Trace.{trace, end, computes, leaves}
use Rattle.thermometer.proofs.Codes.{step_whole, step_adds}
use Rattle.thermometer.proofs.adder.step.Code as code
use Rattle.thermometer.proofs.adder.step.Goals as goal

pub overflow_mul-whole-2 : goal.overflow_mul-whole-2
overflow_mul-whole-2 c = omega (arith, mul-le-mul_left (2 * c.args.code + 1) c.requires.request_bound)

pub overflow_cast-result-2 : goal.overflow_cast-result-2
overflow_cast-result-2 c = omega (arith, and_le_r (bit_or c.args.code ((2 * c.args.code + 1) * c.args.request)) c.args.picks.code)

pub returns : goal.returns
returns c =
    let a = c.args in
    ap₂ (λ x y. record { code = x; whole = y })
    (step_adds _ _ _ a.picks.coded c.requires.code_value c.requires.request_bound)
    (step_whole _ _ _ a.picks.coded c.requires.code_value c.requires.request_bound)

-- Read off the code: a step is ten operations, without a loop, a condition or a call
no_loop : trace (code.function).body end
    ≡ computes (computes (computes (computes (computes (computes (computes (computes (computes (computes (leaves end))))))))))
no_loop = refl
