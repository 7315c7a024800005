-- `transcript::first_line::value` meets its contract. The loop's invariant: all before this character are digits, and their value is known.
-- Assumes nothing.
use Rattle.std.proofs.Common.{◌≡◌, ◌<◌, ◌^◌, drop}
use Rattle.transcript.specs.FirstLine.{all_digits, value}
use Rattle.transcript.proofs.first_line.value.Given as goal

abbrev pub invariant-loop-character : goal.invariant-loop-character
invariant-loop-character l =
    (all_digits l.digits ≡ all_digits (drop l.character-index l.digits))
    × (value 0 l.digits ≡ value l.value (drop l.character-index l.digits))
    × (l.value < 10 ^ l.character-index)
