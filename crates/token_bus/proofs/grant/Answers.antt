-- `grant` meets its contract: whom it grants is a station.
-- Assumes nothing.
use Rattle.std.proofs.Common.{◌<◌, ◌∙◌, refl, sym, arith, length}
use Rattle.token_bus.specs.Calls.Laws.{granted_below, granted_decides}
use Rattle.token_bus.proofs.grant.Goals as goal

pub bounds-cycle-station : goal.bounds-cycle-station
bounds-cycle-station c =
    let y = c.args.cycle.now in
    let below = granted_below _ _ y.requests.now (omega (arith, y.head_bound, c.first_station-token.ensures)) c.in-Some.station (sym c.first_request.ensures ∙ c.in-Some.is) in
    omega (arith, below, y.grants_len, c.fill.ensures.len)

pub returns-clause-value : goal.returns-clause-value
returns-clause-value c =
    let y = c.args.cycle.now in
    let n = length y.requests.now in
    let token = c.first_station-token.ensures in
    let station : c.first_station-token.result < n = omega (arith, y.head_bound, token) in
    let zeros = c.fill.ensures.after (λ _ e. e) in
    rw (c.pass.ensures, ← token)
    (granted_decides n c.first_station-token.result y.requests.now station c.in-Some.station (sym c.first_request.ensures ∙ c.in-Some.is) c.args.acknowledged refl y.bits c.requires (rw (zeros, y.grants_len)) c.pending-more.ensures)
