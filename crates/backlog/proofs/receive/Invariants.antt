-- `receive` meets its contract: up to station i the arrivals are added and the requests are written.
-- Assumes nothing.
use Rattle.std.proofs.Common.{ℕ, ◌≡◌, ◌≤◌, ◌<◌, ◌+◌, ltb, get_or}
use Rattle.rules.specs.Lists.{bit}
use Rattle.backlog.proofs.receive.Given as goal

abbrev pub invariant-loop-i : goal.invariant-loop-i
invariant-loop-i l = record {
  added : (k : ℕ) → k < l.i → get_or l.waiting k 0 ≡ get_or l.initial.waiting k 0 + get_or l.arrivals k 0;
  kept : (k : ℕ) → l.i ≤ k → get_or l.waiting k 0 ≡ get_or l.initial.waiting k 0;
  asked : (k : ℕ) → k < l.i → get_or l.requests k 0 ≡ bit (ltb 0 (get_or l.waiting k 0));
}
