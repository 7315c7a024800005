-- `put_refusal` meets its contract: the pieces of the line, one after the other.
-- Named on the function, `written_then` does not close it: the search comes to a limit.
-- Assumes nothing.
use Rattle.std.proofs.Common.{ap}
use Rattle.text.specs.Characters.{decimal}
use Rattle.text.specs.Output.Laws.{written_then, same_written}
use Rattle.transcript.specs.Cycles.{refusal_line}
use Rattle.transcript.proofs.output.put_refusal.Goals as goal

pub returns : goal.returns
unfolding refusal_line
returns c =
    written_then c.put_number.ensures
    (written_then c.put_all.ensures
    (written_then (same_written (ap decimal c.number.ensures) c.put_number-2.ensures)
    (written_then c.put.ensures
    (written_then (same_written (ap decimal c.place.ensures) c.put_number-3.ensures) c.put-2.ensures))))
