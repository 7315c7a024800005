-- `first_one` meets its contract: no byte that it passed is 1.
-- Assumes nothing.
use Rattle.std.proofs.Common.{ℕ, List, Option, Some}
use mathlib.Core.Path.{◌≡◌, sym, ap, ◌∙◌}
use native.Mathlib.Omega.{arith}
use lib.Dec.{eqb, ltb}
use lib.ListN.{length}
use borrow.Author.Tests.{eq-eqb, ne_eqb}
use Rattle.search.specs.Places.{first, nonzero}
use Rattle.search.specs.Places.Laws.{Free, free_none, free_on, free_more, free_of, no_one, places_none, places_first, first_none, Found, found}
use Rattle.search.proofs.first_one.Goals as goal

pub loop-place-init : goal.loop-place-init
loop-place-init c = (omega arith, free_none)

pub returns-in_err-place : goal.returns-in_err-place
returns-in_err-place c =
    let l = c.loop-place in
    let b = c.args.bytes.now in
    let none : Free (ltb 0) l.i (length b) b = free_of (first_none _ (sym c.first_nonzero.ensures ∙ c.in_err-place.was)) in
    c.from_residual.ensures ∙ sym (ap first (places_none (free_on l.invariant.1 (no_one none)) (omega arith)))

-- the first byte from there on that is not 0
hit : {i place : ℕ} {bytes : List ℕ} {r : Option ℕ} → r ≡ first (nonzero i bytes) → r ≡ Some place → Found (ltb 0) i place bytes
hit e f = found (ltb 0) _ _ _ (sym e ∙ f)

-- no byte before it is 1
passed : {from i place : ℕ} {bytes : List ℕ} → Free (λ b. eqb b 1) from i bytes → Found (ltb 0) i place bytes → Free (λ b. eqb b 1) from place bytes
passed free h = free_on free (no_one h.free)

pub bounds-bytes-place : goal.bounds-bytes-place
bounds-bytes-place c = (hit c.first_nonzero.ensures c.in_ok-place.was).high

pub returns-then-bytes-place-eq1 : goal.returns-then-bytes-place-eq1
returns-then-bytes-place-eq1 c =
    let h = hit c.first_nonzero.ensures c.in_ok-place.was in
    sym (ap first (places_first (passed c.loop-place.invariant.1 h) (omega (arith, h.low)) h.high (eq-eqb _ _ c.if-bytes-place-eq1.true)))

pub overflow_add-i : goal.overflow_add-i
overflow_add-i c = omega (arith, (hit {i = c.loop-place.i} {bytes = c.args.bytes.now} c.first_nonzero.ensures c.in_ok-place.was).high)

pub loop-place-smaller : goal.loop-place-smaller
loop-place-smaller c = let h = hit {i = c.loop-place.i} {bytes = c.args.bytes.now} c.first_nonzero.ensures c.in_ok-place.was in omega (arith, h.low, h.high)

pub loop-place-preserved : goal.loop-place-preserved
loop-place-preserved c =
    let h = hit c.first_nonzero.ensures c.in_ok-place.was in
    (omega (arith, h.low), free_more (passed c.loop-place.invariant.1 h) (ne_eqb _ _ c.if-bytes-place-eq1.false))
