-- `read` meets its contract: a line is what its three parts say, and is not readable where a number is missing.
-- Assumes nothing.
use Rattle.std.proofs.Common.{◌∙◌, refl, sym, rules}
use Rattle.transcript.proofs.Readings.{reads}
use Rattle.transcript.proofs.first_line.read.Goals as goal

pub returns-in_err-width : goal.returns-in_err-width
returns-in_err-width c =
    c.from_residual-in_err-width.ensures
    ∙ sym (reads c.args.line.now (search rules) c.find.ensures c.in_ok-end.was ∙ rw (← c.named.ensures, c.in_ok-kind.was, ← c.read_number.ensures, c.in_err-width.was) refl)

pub returns-in_err-picks : goal.returns-in_err-picks
returns-in_err-picks c =
    c.from_residual-in_err-picks.ensures
    ∙ sym (reads c.args.line.now (search rules) c.find.ensures c.in_ok-end.was ∙ rw (← c.named.ensures, c.in_ok-kind.was, ← c.read_number.ensures, c.in_ok-width.was, ← c.read_number-2.ensures, c.in_err-picks.was) refl)

pub returns : goal.returns
returns c =
    sym (reads c.args.line.now (search rules) c.find.ensures c.in_ok-end.was ∙ rw (← c.named.ensures, c.in_ok-kind.was, ← c.read_number.ensures, c.in_ok-width.was, ← c.read_number-2.ensures, c.in_ok-picks.was) refl)
