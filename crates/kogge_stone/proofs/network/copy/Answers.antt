-- `copy` meets its contract: up to place i the bytes are copied.
-- Assumes nothing.
use Rattle.std.proofs.Common.{◌≡◌, refl, arith, ext_get_or}
use Rattle.tracer.specs.Trace.{trace, end, computes, leaves, either, repeats}
use Rattle.kogge_stone.proofs.network.copy.Code as code
use Rattle.kogge_stone.proofs.network.copy.Goals as goal

-- Read off the code: there is one loop, of which a turn copies one byte
one_copy : trace (code.function).body end
    ≡ repeats
    (computes
    (either end (leaves end)
    (computes (computes (computes end)))))
    (leaves end)
one_copy = refl

pub returns : goal.returns
returns c = ext_get_or 0 _ _ (omega (arith, c)) (λ k u. c.loop-i.invariant k (omega (arith, c)))
