-- What follows the heading, told by the first line that was read, and how long the text is.
-- Promises `follows`, `text_refused`, `text_follows`, `limit` and `text_fits`. The rest are steps of their proofs.
-- Assumes nothing.
use Rattle.std.specs.Prelude.{ℕ, ◌+◌, ◌*◌, ◌≤◌, ◌<◌, ◌≡◌, List, [], ◌++◌, leb, length, drop, get_or, Option, None, Some, Result, Ok, Err}
use Rattle.std.proofs.Common.{ap, arith, length-append}
use borrow.Author.Tests.{le-leb, lt-leb, leb-true, leb-false}
use Rattle.rules.specs.Lists.Laws as ListsLaws
use Rattle.text.specs.Characters.{line_feed}
use Rattle.arbiter.specs.declared.State.{State}
use Rattle.arbiter.specs.declared.refusal.Refusal.{Refusal}
use Rattle.arbiter.specs.Refusals as Refusals
use Rattle.arbiter.specs.Answers.{place_of}
use Rattle.arbiter.specs.Questions.{max_width}
use Rattle.transcript.specs.declared.first_line.Kind.{Kind}
use Rattle.transcript.specs.declared.first_line.FirstLine.{FirstLine}
use Rattle.transcript.specs.Lines.{split, unended}
use Rattle.transcript.specs.Lines.Laws.{unended_short, total_length, split_total, rest_total, lines_few}
use Rattle.transcript.specs.FirstLine.{first_line}
use Rattle.transcript.specs.Cycles.{opening, refusal_line}
use Rattle.transcript.specs.Cycles.Laws.{number_few, refusal_short, run_short, opening_nowhere, opening_wide}
use Rattle.transcript.specs.Text.{heading, max_input, after_opening, after_first_line, after_heading, text}

-- what follows the heading, for an input without its final line feed
abbrev pub follows : List ℕ → List ℕ
follows body = after_heading (split line_feed body)

-- the whole text
pub text_refused : (input : List ℕ) → max_input < length input → text input ≡ heading ++ refusal_line 0 12 0
unfolding text
text_refused input l = rw (lt-leb (length input) max_input l)

pub text_follows : (input : List ℕ) → length input ≤ max_input → text input ≡ heading ++ follows (unended input)
unfolding text
text_follows input l = rw (le-leb (length input) max_input l)

-- how long it is: what follows the heading is at most 19 times as long as the longest input
with_short : (e : Kind) (r : Result (Unit {0}) Refusal) (s : State) (ls : List (List ℕ)) → s.width ≤ max_width → place_of r ≤ 0
    → total_length ls ≤ max_input → length (after_opening e r s ls) ≤ 19 * max_input
with_short e (Ok _) s ls wide nowhere l = omega (arith, run_short e s 1 ls wide (omega (arith, lines_few ls)))
with_short e (Err refusal) s ls wide nowhere l =
    omega (arith, refusal_short 0 (Refusals.number refusal) (Refusals.place refusal) (omega arith) (number_few refusal) nowhere)

opened_short : (first : Option FirstLine) (ls : List (List ℕ)) → total_length ls ≤ max_input
    → length (after_first_line first ls) ≤ 19 * max_input
unfolding after_first_line
opened_short None ls l = omega (arith, refusal_short 0 11 0 (omega arith) (omega arith) (omega arith))
opened_short (Some f) ls l =
    let a = opening f.kind f.width f.picks in
    with_short f.kind a.outcome a.state ls (opening_wide f.kind f.width f.picks) (opening_nowhere f.kind f.width f.picks) l

follows_short : (body : List ℕ) → length body ≤ max_input → length (follows body) ≤ 19 * max_input
follows_short body l =
    let ls = split line_feed body in
    opened_short (first_line (get_or ls 0 [])) (drop 1 ls) (omega (arith, split_total line_feed body, rest_total ls))

-- no text is longer than the heading and 19 bytes for each byte of the longest input
abbrev pub limit : ℕ
limit = length heading + 19 * max_input

pub text_fits : (input : List ℕ) → length (text input) ≤ limit
text_fits input =
    ListsLaws.split (leb (length input) max_input)
    (λ t.
    let l = leb-true (length input) max_input t in
    let short = follows_short (unended input) (omega (arith, unended_short input)) in
    omega (arith, simp length-append at (ap length (text_follows input l))))
    (λ f.
    let l = leb-false (length input) max_input f in
    let short = refusal_short 0 12 0 (omega arith) (omega arith) (omega arith) in
    omega (arith, ap length (text_refused input l)))
