-- `print_lines` meets its contract. The loop's invariant: the lines that the iterator has left are still to run,
-- and its closure tests for a line feed.
-- Assumes nothing.
use Rattle.std.proofs.Common.{◌≡◌, ◌∷◌, refl, ap, arith, length}
use Rattle.std.specs.Slice.Iter.{split_callee}
use Rattle.transcript.specs.Lines.{left}
use Rattle.transcript.specs.Lines.Laws.{Tests, left_next, left_none}
use Rattle.transcript.proofs.Runs.{none_ran, all_ran, one_ran}
use Rattle.transcript.proofs.cycles.Progress.print_lines.Goals as goal
use Rattle.transcript.proofs.cycles.Progress.print_lines.Goals.{In-Some}

pub loop-line-init : goal.loop-line-init
loop-line-init g c =
    rw c.into_iter-line-iterator.ensures.into_iter_gives
    (c.requires.at_line_feeds, none_ran _ _ _ _ refl c.requires.lines_bound)

-- the line that the iterator gives, and those that it has left then
next : (g : _) (c : In-Some g) → Tests g.P.FnMut (split_callee c.next.new.self)
    × (left c.loop-line.line-iterator ≡ c.in-Some.line.now ∷ left c.next.new.self)
next g c =
    left_next g.P.FnMut c.loop-line.line-iterator c.next.new.self c.next.result c.next.ensures.steps c.loop-line.invariant.0 c.in-Some.line c.in-Some.is

pub print_line-requires : goal.print_line-requires
print_line-requires g c =
    omega (arith, c.loop-line.invariant.1.numbered, ap length (next g (goal.at.print_line-requires g c).In-Some).1)

pub loop-line-preserved : goal.loop-line-preserved
loop-line-preserved g c =
    let k = next g (goal.at.loop-line-preserved g c).In-Some in
    let p = c.print_line.ensures in
    (k.0, one_ran _ _ c.loop-line.invariant.1 k.1 p.written p.same_kind p.state_value p.number_value)

pub returns : goal.returns
returns g c =
    all_ran _ _ c.loop-line.invariant.1 (left_none g.P.FnMut c.loop-line.line-iterator c.next.new.self c.next.result c.next.ensures.steps c.in-None.is)
