-- `put_bits` meets its contract: the characters of the bits so far are written.
-- Assumes nothing.
use Rattle.std.proofs.Common.{take}
use Rattle.text.specs.Characters as Characters
use Rattle.text.specs.Output.{Written}
use Rattle.text.proofs.Output.put_bits.Given as goal

abbrev pub invariant-loop-byte : goal.invariant-loop-byte
invariant-loop-byte l = Written l.initial.self (Characters.bits (take l.byte-index l.bits)) l.self
