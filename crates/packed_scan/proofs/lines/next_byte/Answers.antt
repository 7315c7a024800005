-- `next_byte` meets its contract: what it finds is a byte of these.
-- Assumes nothing.
use Rattle.std.proofs.Common.{rules}
use Rattle.packed_scan.specs.Lines.Laws.{next_bound}
use Rattle.packed_scan.proofs.lines.next_byte.Goals as goal

pub returns-clause-bound : goal.returns-clause-bound
returns-clause-bound c = next_bound c.args.packed.now c.args.home c.requires c.or_else.result (search rules)
