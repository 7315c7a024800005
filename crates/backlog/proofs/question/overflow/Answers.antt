-- `overflow` meets its contract: no place is looked for where no number may pass the most.
-- Assumes nothing.
use Rattle.std.proofs.Common.{sym, arith}
use Rattle.backlog.specs.Calls.{arrived}
use Rattle.backlog.specs.Calls.Laws.{overflow_passes, arrived_length, arrived_at}
use Rattle.backlog.proofs.question.overflow.Goals as goal

pub returns-then-union-from : goal.returns-then-union-from
returns-then-union-from c =
    let a = c.args in
    let long = arrived_length a.waiting.now a.arrivals.now in
    sym (overflow_passes (arrived a.waiting.now a.arrivals.now)
    (λ w l. omega (arith, c, arrived_at a.waiting.now a.arrivals.now c.requires w, c.union.ensures w (omega (arith, long)), c.type_inv.arrivals w)))
