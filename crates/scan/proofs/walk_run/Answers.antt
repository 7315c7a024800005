-- `walk_run` meets its contract: up to the station found last the run is done.
-- Assumes nothing.
use mathlib.Core.Path.{◌≡◌, sym, ◌∙◌}
use native.Mathlib.Omega.{arith}
use lib.ListN.{length-set, length-take}
use Rattle.rules.proofs.Walk.Laws as WalkLaws
use Rattle.scan.proofs.Searches as Searches
use Rattle.std.specs.Prelude.{refl, [], ◌∷◌}
use mir.Syntax.{Opd}
use Rattle.tracer.specs.Trace.{trace, end, computes, runs, leaves, either, chooses, case, repeats}
use Rattle.scan.proofs.walk_run.Code as code
use Rattle.scan.proofs.walk_run.Goals as goal

-- Read off the code: there is one loop, over the grants that are left, and a turn of it is one search
one_search : (on : Opd)
    × (trace (code.function).body end
    ≡ repeats
    (computes
    (either end (leaves end)
    (runs "search::first_one"
    (chooses on (case (1 ∷ []) end (case (0 ∷ []) (leaves end) end)) (computes (computes (computes (computes end))))))))
    (leaves end))
one_search = (_, refl)

pub slice_bounds-run-end : goal.slice_bounds-run-end
slice_bounds-run-end c = simp length-take (omega arith)

pub loop-count-init : goal.loop-count-init
loop-count-init c = (omega arith, omega arith, omega arith, omega arith, WalkLaws.begin _ _ _ _ _ _ (omega arith))

pub returns-in_default : goal.returns-in_default
returns-in_default c =
    let l = c.loop-count in
    let a = c.args in
    let none = Searches.nobody a.requests.now l.i a.to (omega arith) (sym c.first_one.ensures ∙ c.in_default.is) in
    WalkLaws.quiet _ _ _ _ _ _ l.i l.invariant.0 _ _ _ l.invariant.4 a.to l.invariant.1 none

pub loop-count-preserved : goal.loop-count-preserved
loop-count-preserved c =
    let l = c.loop-count in
    let a = c.args in
    let w = Searches.found a.requests.now l.i a.to (omega arith) _ (sym c.first_one.ensures ∙ c.in-Some.is) in
    let r = WalkLaws.quiet _ _ _ _ _ _ l.i l.invariant.0 _ _ _ l.invariant.4 _ w.low w.earlier in (
      omega (arith, w.low),
      omega (arith, w.high),
      omega arith,
      simp length-set (omega arith),
      rw (← l.invariant.2) (WalkLaws.grant _ _ _ _ _ _ _ (omega (arith, w.low)) _ _ _ r w.asks (omega arith) (omega (arith, w.high))),
    )

pub returns : goal.returns
returns c =
    let l = c.loop-count in
    let a = c.args in
    let used-up : l.walk.count ≡ a.picks = omega arith in
    WalkLaws.full _ _ _ _ _ _ l.i l.invariant.0 _ _ _ l.invariant.4 a.to l.invariant.1 used-up
