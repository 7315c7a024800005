-- `put_line` meets its contract: four pieces, one after the other.
-- Named on the function, `written_then` does not close it: the search comes to a limit.
-- Assumes nothing.
use Rattle.std.proofs.Common.{rules}
use Rattle.text.specs.Output.Laws.{written_then}
use Rattle.text.proofs.tests.put_line.Goals as goal

pub returns : goal.returns
returns c = search (rules, written_then)
