-- `join_all` meets its contract: what is left of the network gives what the whole of it gives.
-- Assumes nothing.
use Prim.Native.Nat.{ℕ}
use mathlib.Core.Path.{◌≡◌, refl, ap, ◌∙◌}
use mathlib.Core.Bool.{Bool, ◌||◌}
use mathlib.Core.List.{List}
use native.Mathlib.Omega.{arith}
use lib.ListN.{length}
use Rattle.rules.specs.KoggeStone.{joined, joined_cuts}
use Rattle.rules.proofs.KoggeStone.Laws as KoggeStoneLaws
use Rattle.rules.proofs.KoggeStone.Laws.{Left}
use Rattle.kogge_stone.specs.Steps.{Codes}
use Rattle.kogge_stone.proofs.Codes.{joined_codes}
use Rattle.tracer.specs.Trace.{trace, end, computes, runs, leaves, either, repeats}
use Rattle.kogge_stone.proofs.network.join_all.Code as code
use Rattle.kogge_stone.proofs.network.join_all.Goals as goal

-- Read off the code: each level copies the codes and joins them once
one_level : trace (code.function).body end
    ≡ repeats
    (computes
    (either end (leaves end)
    (runs "kogge_stone::network::copy"
    (runs "kogge_stone::network::join_at" (computes (computes end))))))
    (leaves end)
one_level = refl

-- what holds of a list holds of one that is the same
as_codes : (m : ℕ) {xs ys : List ℕ} → xs ≡ ys → Codes m ys → Codes m xs
as_codes m e f = rw e f

as_left : {m n d : ℕ} {xs ys out : List ℕ} {cut is all : Bool} → xs ≡ ys → cut ≡ is → Left m n d ys out is all → Left m n d xs out cut all
as_left e g f = rw (e, g) f

pub loop-distance-init : goal.loop-distance-init
loop-distance-init c =
    (omega arith, omega arith, omega arith, c.requires.codes, KoggeStoneLaws.begin _ _ _ _ (omega arith))

pub join_at-cut-requires-clause-codes : goal.join_at-cut-requires-clause-codes
join_at-cut-requires-clause-codes c = as_codes _ c.copy.ensures c.loop-distance.invariant.3

pub loop-distance-preserved : goal.loop-distance-preserved
loop-distance-preserved c =
    let l = c.loop-distance in
    let same = c.copy.ensures in
    let new = c.join_at-cut.ensures.codes_after ∙ ap (joined _ l.distance) same in
    let cut = c.join_at-cut.ensures.value ∙ ap (joined_cuts _ l.distance) same in
    let d = c.loop-distance-test.true in (
      omega arith,
      ap length new ∙ KoggeStoneLaws.joined_length _ _ _ ∙ l.invariant.1,
      ap length same ∙ l.invariant.1,
      as_codes _ new (joined_codes _ _ _ l.invariant.3),
      as_left new (ap (λ b. l.cut || b) cut) (KoggeStoneLaws.step _ _ l.distance _ _ _ _ (omega (arith, l.invariant.1)) l.invariant.4),
    )

pub returns : goal.returns
returns c =
    let l = c.loop-distance in
    let all = KoggeStoneLaws.done _ _ l.distance _ _ _ _ (omega (arith, l.invariant.1)) l.invariant.4 in
    record { value = all.1; codes_after = all.0 }
