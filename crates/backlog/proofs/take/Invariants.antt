-- `take` meets its contract: up to station i one is taken from each granted.
-- Assumes nothing.
use Rattle.std.proofs.Common.{ℕ, ◌≡◌, ◌≤◌, ◌<◌, ◌-◌, get_or}
use Rattle.rules.specs.Lists.{bit}
use Rattle.arbiter.specs.Decisions.{requested}
use Rattle.backlog.proofs.take.Given as goal

abbrev pub invariant-loop-i : goal.invariant-loop-i
invariant-loop-i l = record {
  taken : (k : ℕ) → k < l.i → get_or l.waiting k 0 ≡ get_or l.initial.waiting k 0 - bit (requested l.grants k);
  kept : (k : ℕ) → l.i ≤ k → get_or l.waiting k 0 ≡ get_or l.initial.waiting k 0;
}
