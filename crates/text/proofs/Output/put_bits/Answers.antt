-- `put_bits` meets its contract: each turn writes the character of one bit more.
-- Named on the function, `map_more` and `written_then` do not close it: the search comes to a limit.
-- Assumes nothing.
use Rattle.std.proofs.Common.{arith}
use Rattle.std.proofs.lemmas.List.{map_more}
use Rattle.text.specs.Characters.{bit}
use Rattle.text.specs.Output.Laws.{same_written, written_then}
use Rattle.text.proofs.Output.put_bits.Goals as goal

pub loop-byte-preserved : goal.loop-byte-preserved
loop-byte-preserved c =
    let more = map_more bit c.args.bits.now c.loop-byte.byte-index 0 in
    same_written (grind (arith, more)) (written_then c.loop-byte.invariant c.put.ensures)
