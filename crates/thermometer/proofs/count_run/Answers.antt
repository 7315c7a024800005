-- `count_run` meets its contract: at each station the run up to it is done, and the code is the running code before it.
-- Assumes nothing.
use Prim.Native.Nat.{ℕ, ◌+◌}
use mathlib.Core.Path.{◌≡◌, refl, sym, ap, ◌∙◌}
use mathlib.Core.Bool.{true}
use native.Mathlib.Omega.{arith}
use lib.ListN.{get_or}
use mathlib.Core.Bool.{◌||◌}
use Rattle.rules.specs.Walk.{reached}
use Rattle.rules.specs.Thermometer.{is_code, add}
use Rattle.rules.specs.Lists.Laws as ListsLaws
use Rattle.rules.proofs.Thermometer.Laws.{full_ones, full_code, code_few, add_is_code, ones_bit}
use Rattle.arbiter.specs.Decisions.{requested}
use lib.Dec.{ltb}
use borrow.Author.Tests.{le-ltb}
use Rattle.rules.proofs.Thermometer.Cuts.{Reach, reach_none, reach_more, reach_passes, counts_on}
use lib.Count.{ones}
use lib.Bits.{bit_or}
use Rattle.rules.proofs.Walk.Laws as WalkLaws
use Rattle.thermometer.proofs.Runs.Laws.{code_first, code_next, to_codes}
use Rattle.tracer.specs.Trace.{trace, end, computes, runs, leaves, either, repeats}
use Rattle.thermometer.proofs.Steps as WalkSteps
use Rattle.thermometer.proofs.count_run.Code as code
use Rattle.thermometer.proofs.count_run.Goals as goal
use Rattle.thermometer.proofs.count_run.Goals.{else-sum-walk, then-sum-walk}

-- One adder step for each station, read off the code. There is one loop, and a turn of it is: its own test, a request's place,
-- one adder step, an or, one comparison, a grant's place or not, and the next station. Before the loop the code of the picks is made, and
-- after it there are a cast, a comparison and an or
one_step : trace (code.function).body end
    ≡ runs "thermometer::adder::code"
    (repeats
    (computes
    (either end (leaves end)
    (computes (runs "thermometer::adder::step" (computes (computes (either (computes end) end (computes end))))))))
    (computes (computes (computes (leaves end)))))
one_step = refl

pub loop-i-init : goal.loop-i-init
loop-i-init c =
    let a = c.args in (
      refl,
      rw (WalkLaws.reached_none (requested a.requests.now) a.from (ones a.walk.code), le-ltb a.picks (ones a.walk.code) (code_few _ _ c.requires.code_value)) (reach_none a.picks),
      c.requires.code_value,
      sym (code_first a.picks a.requests.now a.from a.to _),
      WalkLaws.begin _ _ _ _ _ _ (code_few _ _ c.requires.code_value),
    )

pub loop-i-preserved : goal.loop-i-preserved
loop-i-preserved c =
    let l = c.loop-i in
    let a = c.args in
    let m = a.picks in
    let request = get_or a.requests.now l.i 0 in
    let asks = requested a.requests.now in
    let wire = c.requires.bits l.i (omega arith) in
    let coded = l.invariant.2 in
    let step = rw (full_ones 8 _ _ c.requires.picks_bound c.code.ensures) at c.step-sum.ensures in
    let sum = ap (λ s. s.code) step in
    let next =
    ap (λ (c : ℕ). add m c request) l.invariant.3
    ∙ sym (code_next m a.requests.now a.from a.to a.walk.code l.i (omega arith) (omega arith) wire) in
    let stepped : is_code m c.step-sum.result.code ≡ true = rw sum (add_is_code m l.walk.code _) in
    let more : reached asks a.from (l.i + 1) (ones a.walk.code) ≡ reached asks a.from l.i (ones a.walk.code) + ones request =
    omega (arith, ListsLaws.count_next asks a.from l.i (omega arith), ListsLaws.bit_byte request wire, ones_bit request wire) in
    let on = rw (← l.invariant.4.counted, ← more) at (counts_on m (reached asks a.from l.i (ones a.walk.code)) (ones request)) in
    let reach : Reach m (ltb m (reached asks a.from (l.i + 1) (ones a.walk.code))) (bit_or l.reach c.step-sum.result.whole) =
    rw (← on) (reach_more (ones l.walk.code + ones request) l.invariant.1 (ap (λ s. s.whole) step)) in
    elim c.if-sum-walk.branch [
      | then-sum-walk w ↦ rw (w.grants-is, w.walk-is) (
        l.invariant.0,
        reach,
        stepped,
        sum ∙ next,
        rw (← sum) at (WalkSteps.granted _ _ _ coded wire _ _ _ _ _ l.i (omega arith) _ _ l.invariant.4 refl (rw sum at w.if-sum-walk.true) (omega arith)),
      )
      | else-sum-walk w ↦ let stays = rw sum at w.if-sum-walk.false in
          rw (w.grants-is, w.walk-is) (
            l.invariant.0,
            reach,
            coded,
            sym stays ∙ next,
            WalkSteps.passed_over _ _ _ coded wire _ _ _ _ _ l.i (omega arith) _ _ l.invariant.4 refl stays,
          )
    ]

pub returns : goal.returns
returns c =
    let l = c.loop-i in
    let a = c.args in
    let e : l.i ≡ a.to = omega arith in
    let full = full_code 8 a.picks _ c.requires.picks_bound c.code.ensures in
    to_codes _ _ _ _ _ _ _ _ c.requires.code_value c.requires.from_le_to (rw e at l.invariant.4) (rw e at l.invariant.3)
    (rw l.invariant.0 (ap (λ b. a.walk.more || b) (reach_passes (rw e at l.invariant.1) full)))
