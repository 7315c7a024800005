-- `print` meets its contract: the heading, and what follows it.
-- Named on the function, the laws of the text do not close it: the search comes to a limit.
-- Assumes nothing.
use Rattle.std.proofs.Common.{ap, sym, arith}
use Rattle.text.specs.Output.Laws.{same_written, written_then}
use Rattle.transcript.specs.Lines.Laws.{unended_short}
use Rattle.transcript.specs.Text.Laws.{follows, text_refused, text_follows}
use Rattle.transcript.proofs.print.Goals as goal

pub returns-then-input-gt-MAX_INPUT : goal.returns-then-input-gt-MAX_INPUT
returns-then-input-gt-MAX_INPUT c =
    same_written (sym (text_refused c.args.input.now c.if-input-gt-MAX_INPUT.true)) (written_then c.put_all.ensures c.put_refusal.ensures)

pub answer-requires : goal.answer-requires
answer-requires c = rw c.unended.ensures (omega (arith, unended_short c.args.input.now))

pub returns : goal.returns
returns c =
    same_written (sym (text_follows c.args.input.now c.if-input-gt-MAX_INPUT.false))
    (written_then c.put_all.ensures (same_written (ap follows c.unended.ensures) c.answer.ensures))
