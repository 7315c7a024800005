-- `first_request` meets its contract: first those from the token on, then all.
-- Assumes nothing.
use Rattle.std.proofs.Common.{rules, refl}
use Rattle.token_bus.specs.Calls.Laws.{found}
use Rattle.token_bus.proofs.first_request.Goals as goal

pub returns : goal.returns
returns c =
    found _ c.args.token c.args.requests.now c.requires.token_in_bounds _ refl c.first_one.ensures c.or_else.ensures (λ low. search rules)
