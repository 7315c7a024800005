-- `by_engine` meets its contract. The part of the node buffer that is lent is all 0.
-- Assumes nothing.
use Rattle.std.proofs.Common.{ℕ, ◌*◌, arith, rules}
use Rattle.std.proofs.lemmas.List.{take-replicate}
use Rattle.arbiter.specs.Questions.{max_width}
use Rattle.transcript.proofs.cycles.by_engine.Goals as goal

pub returns : goal.returns
returns c =
    let zeros = take-replicate {X = ℕ} (2 * c.args.state.now.width) (2 * max_width) 0 (omega (arith, c.requires.wide)) in
    let value = rw (zeros, c.requires.zeros) at c.arbitrate.ensures.value in
    let grants = rw (zeros, c.requires.zeros) at c.arbitrate.ensures.grants_after in
    record { value = search rules; grants_after = search rules }
