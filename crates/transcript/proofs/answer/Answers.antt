-- `answer` meets its contract: what the first line says, what the opening came to, and the lines that the iterator then has left.
-- Assumes nothing.
use Rattle.std.proofs.Common.{◌≡◌, ◌∷◌, arith, rules, tests}
use Rattle.text.specs.Characters.{line_feed}
use Rattle.text.specs.Output.Laws.{same_written}
use Rattle.transcript.specs.Lines.{split, left}
use Rattle.transcript.specs.Lines.Laws.{left_first, left_few}
use Rattle.transcript.specs.Text.{after_first_line}
use Rattle.transcript.proofs.answer.Goals as goal
use Rattle.transcript.proofs.answer.Goals.{After-unwrap_or}

-- the lines of the body: the first, and those that the iterator then has left
lines : (c : After-unwrap_or) → split line_feed c.args.body.now ≡ c.unwrap_or.result.now ∷ left c.next.new.self
lines c =
    let s = c.split-lines in
    left_first _ s.result c.next.new.self c.next.result c.next.ensures.steps (λ x r q k. search (rules, tests)) c.args.body.now s.ensures.rest s.ensures.done c.unwrap_or.result _ c.unwrap_or.ensures

pub returns-in_default : goal.returns-in_default
unfolding after_first_line
returns-in_default c =
    same_written (rw (lines (goal.at.returns-in_default c).After-unwrap_or, ← c.read.ensures, c.in_default.is)) c.put_refusal.ensures

pub print_lines-requires-clause-lines_bound : goal.print_lines-requires-clause-lines_bound
print_lines-requires-clause-lines_bound c =
    omega (arith, left_few _ _ _ (lines (goal.at.print_lines-requires-clause-lines_bound c).After-unwrap_or), c.requires)

pub returns-in-Ok : goal.returns-in-Ok
unfolding after_first_line
returns-in-Ok c =
    same_written (rw (lines (goal.at.returns-in-Ok c).After-unwrap_or, ← c.read.ensures, c.in-Some.is, ← c.open-opened.ensures, c.in-Ok.is)) c.print_lines.ensures

pub returns-in-Err : goal.returns-in-Err
unfolding after_first_line
returns-in-Err c =
    same_written (rw (lines (goal.at.returns-in-Err c).After-unwrap_or, ← c.read.ensures, c.in-Some.is, ← c.open-opened.ensures, c.in-Err.is)) c.put_refusal-in-Err.ensures
