-- `print_lines` meets its contract. The loop's invariant: the lines that the iterator has left are still to run, and its closure tests
-- for a line feed.
-- Assumes nothing.
use Rattle.transcript.specs.Cycles as Cycles
use Rattle.transcript.specs.Lines as Lines
use Rattle.transcript.specs.Lines.Laws.{Tests}
use Rattle.transcript.proofs.Runs.{Ran}
use Rattle.std.specs.Slice.Iter.{split_callee}
use Rattle.transcript.proofs.cycles.Progress.print_lines.Given as goal

abbrev pub invariant-loop-line : goal.invariant-loop-line
invariant-loop-line g l =
    let start = l.initial.self in
    Tests g.P.FnMut (split_callee l.line-iterator)
    × Ran start.kind l.initial.out (Cycles.run start.kind start.state start.number (Lines.left l.fn.lines)) l.self l.out (Lines.left l.line-iterator)
