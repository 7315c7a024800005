-- `put_granted` meets its contract: the pieces of the line, one after the other.
-- Named on the function, `written_then` does not close it: the search comes to a limit.
-- Assumes nothing.
use Rattle.std.proofs.Common.{rules}
use Rattle.text.specs.Output.Laws.{written_then}
use Rattle.transcript.specs.Cycles.{granted}
use Rattle.transcript.proofs.output.put_granted.Goals as goal

pub returns : goal.returns
unfolding granted
returns c = search (rules, written_then)
