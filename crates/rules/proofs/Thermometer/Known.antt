-- Running codes by computing: three published examples.
-- Assumes nothing.
use Rattle.std.specs.Prelude.{Some}
use Rattle.rules.specs.Thermometer.Known.{KnownRunningCodes, known_ordered}
use Rattle.rules.proofs.RoundRobin.Laws as RoundRobinLaws

pub known : KnownRunningCodes
known =
    known_ordered
    (rw (RoundRobinLaws.order_runs 8 (Some 0), RoundRobinLaws.start_at 0))
    (rw (RoundRobinLaws.order_runs 8 (Some 4), RoundRobinLaws.start_at 4))
    (rw (RoundRobinLaws.order_runs 5 (Some 0), RoundRobinLaws.start_at 0))
