-- `grant_run` meets its contract: up to station i of the run the grants are written.
-- Assumes nothing.
use Rattle.std.proofs.Common.{◌≡◌, refl, sym, ◌∙◌, arith, ext_get_or}
use Rattle.kogge_stone.proofs.Grants as Grants
use Rattle.tracer.specs.Trace.{trace, end, computes, runs, leaves, either, repeats}
use Rattle.kogge_stone.proofs.grant_run.Code as code
use Rattle.kogge_stone.proofs.grant_run.Goals as goal

-- Read off the code: a station is granted or not by its own request and the count before it
one_grant : trace (code.function).body end
    ≡ repeats (computes (either end (leaves end) (computes (computes (runs "kogge_stone::grant" (computes (computes end))))))) (leaves end)
one_grant = refl

pub returns : goal.returns
returns c =
    let a = c.args in
    ext_get_or 0 _ _ (omega (arith, c, Grants.run_long a.full a.requests.now a.counts.now))
    (λ k u. c.loop-i.invariant k (omega (arith, c)) ∙ sym (Grants.here a.full a.requests.now a.counts.now k (omega (arith, c))))
