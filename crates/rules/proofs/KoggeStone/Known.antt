-- A network by computing: what goes in, and so what each level makes of the codes.
-- Assumes nothing.
use Rattle.std.specs.Prelude.{◌≡◌, [], ◌∷◌}
use Rattle.std.proofs.Common.{◌∙◌}
use Rattle.std.specs.Prelude.{Some}
use Rattle.rules.specs.Thermometer.{code}
use Rattle.rules.specs.KoggeStone.Known.{asks, in_order, KnownNetwork, known_given}
use Rattle.rules.proofs.RoundRobin.Laws as RoundRobinLaws
use Rattle.rules.proofs.Thermometer.Running as Running

goes_in : in_order ≡ 1 ∷ 0 ∷ 1 ∷ 1 ∷ 0 ∷ []
unfolding code
goes_in = Running.inputs_runs 5 3 (Some 3) asks ∙ rw (RoundRobinLaws.start_at 3)

pub known : KnownNetwork
known = known_given goes_in (rw (RoundRobinLaws.order_runs 5 (Some 3), RoundRobinLaws.start_at 3))
