-- `run` meets its contract: the requests in the order go through the network.
-- Assumes nothing.
use mathlib.Core.Path.{◌≡◌, refl}
use native.Mathlib.Omega.{arith}
use Rattle.kogge_stone.proofs.Order as Order
use Rattle.tracer.specs.Trace.{trace, end, runs, leaves}
use Rattle.kogge_stone.proofs.network.run.Code as code
use Rattle.kogge_stone.proofs.network.run.Goals as goal

-- Read off the code: the requests are put in order and joined once
one_joining : trace (code.function).body end
    ≡ runs "arbiter::first_station" (runs "kogge_stone::network::rotate" (runs "kogge_stone::network::join_all" (leaves end)))
one_joining = refl

pub join_all-requires-clause-codes : goal.join_all-requires-clause-codes
join_all-requires-clause-codes c =
    Order.codes_in _ c.args.requests.now c.args.picks.some c.requires.bits c.first_station-first.result _ c.rotate.ensures

pub returns : goal.returns
returns c =
    let a = c.args in
    let first = c.first_station-first.ensures in
    record {
      value = Order.cut_off _ a.requests.now a.picks.some c.requires.bits _ _ c.rotate.ensures a.head (omega arith) first c.join_all.ensures.value;
      codes_after = Order.come_out _ a.requests.now a.picks.some c.requires.bits _ _ c.rotate.ensures a.head (omega arith) first c.join_all.ensures.codes_after;
    }
