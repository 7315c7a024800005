-- `join_at` meets its contract: up to position p the codes are joined, from there on they are as before.
-- Assumes nothing.
use Rattle.std.proofs.Common.{◌<◌, ◌-◌, ◌≡◌, ◌∙◌, refl, sym, ap, arith, length, get_or, ext_get_or}
use Rattle.std.proofs.lemmas.Grind.{common_steps}
use lib.Count.{ones}
use Rattle.rules.specs.Lists.Laws as ListsLaws
use Rattle.rules.specs.Thermometer.{cuts}
use Rattle.rules.proofs.KoggeStone.Laws as KoggeStoneLaws
use Rattle.rules.proofs.Thermometer.Laws.{code_own}
use Rattle.rules.proofs.Thermometer.Cuts.{reach_none, reach_more, reach_passes}
use Rattle.kogge_stone.proofs.Codes.{every_code, joins}
use Rattle.tracer.specs.Trace.{trace, end, computes, runs, leaves, either, repeats}
use Rattle.kogge_stone.proofs.network.join_at.Code as code
use Rattle.kogge_stone.proofs.network.join_at.Goals as goal

-- Read off the code: at each position there is one sum
one_sum : trace (code.function).body end
    ≡ repeats
    (computes
    (either end (leaves end)
    (computes
    (computes
    (computes
    (runs "kogge_stone::network::sum"
    (computes (runs "core::convert::U16FromU8::from" (runs "core::int::u16::min" (computes (computes (computes end))))))))))))
    (runs "core::convert::U16FromU8::from" (computes (leaves end)))
one_sum = refl

pub loop-p-init : goal.loop-p-init
loop-p-init c =
    let none : c.args.distance - c.args.distance ≡ 0 = omega arith in
    rw c.requires.codes_value (record { done = λ k u v. sym (KoggeStoneLaws.joined_near _ _ _ k v u); kept = λ k u. refl; within = omega arith; reaches = rw none (reach_none _) })

pub sum-whole-requires-clause-left_value : goal.sum-whole-requires-clause-left_value
sum-whole-requires-clause-left_value c = every_code (ones c.args.picks.code) c.args.before.now c.requires.codes _

pub sum-whole-requires-clause-right_value : goal.sum-whole-requires-clause-right_value
sum-whole-requires-clause-right_value c =
    rw (c.loop-p.invariant.kept c.loop-p.p (omega arith)) (every_code (ones c.args.picks.code) c.args.before.now c.requires.codes _)

pub loop-p-preserved : goal.loop-p-preserved
unfolding cuts
loop-p-preserved c =
    let l = c.loop-p in
    let a = c.args in
    let m = ones a.picks.code in
    let b = a.before.now in
    let here : l.p < length b = omega (arith, c, ap length c.requires.codes_value) in
    let same = l.invariant.kept l.p (omega arith) in
    let whole = c.sum-whole.ensures in
    let join = joins a.picks.code _ _ _ a.picks.coded whole in
    let joins = KoggeStoneLaws.joined_far m a.distance b l.p here (omega (arith, c)) in
    record {
      done = λ k u v. grind (arith, common_steps, c.min.ensures, join, joins, same, l.invariant.done k);
      kept = λ k u. grind (arith, common_steps, l.invariant.kept k);
      within = omega (arith, here, c);
      reaches =
          rw (ListsLaws.any_next (λ p. cuts m (get_or b (p - a.distance) 0) (get_or b p 0)) a.distance l.p (omega (arith, c)))
          (reach_more _ l.invariant.reaches (rw same at whole));
    }

pub returns : goal.returns
returns c =
    let a = c.args in
    let m = ones a.picks.code in
    let long = ap length c.requires.codes_value in
    let end : length a.before.now - a.distance ≡ c.loop-p.p - a.distance = omega (arith, c, long, c.loop-p.invariant.within) in
    record {
      value =
          reach_passes c.loop-p.invariant.reaches (c.from-2.ensures ∙ code_own 8 _ a.picks.coded)
          ∙ sym (rw (KoggeStoneLaws.joined_cuts_any m a.distance a.before.now, end) refl);
      codes_after =
          ext_get_or 0 _ _ (omega (arith, c, long, KoggeStoneLaws.joined_length m a.distance a.before.now))
          (λ k u. c.loop-p.invariant.done k (omega (arith, c)) (omega (arith, c, long)));
    }
