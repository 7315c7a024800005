-- `take` meets its contract: up to station i one is taken from each granted.
-- Assumes nothing.
use Rattle.std.proofs.Common.{sym, ◌∙◌, arith, ext_get_or}
use Rattle.backlog.specs.Calls.Laws.{taken_length, taken_at}
use Rattle.backlog.proofs.take.Goals as goal

pub returns : goal.returns
returns c =
    let a = c.args in
    ext_get_or 0 _ _ (omega (arith, c, taken_length a.waiting.now a.grants.now))
    (λ k u. c.loop-i.invariant.taken k (omega (arith, c)) ∙ sym (taken_at a.waiting.now a.grants.now k))
