-- In a list with messages waiting in which each served cycle finds the waiting numbers that the one before left, a station that has a message
-- is granted in time.
-- Assumes nothing.
use Prim.Native.Nat.{ℕ, ◌≤◌}
use mathlib.Core.List.{◌∷◌, [], append-nil}
use native.Mathlib.Omega.{arith}
use Rattle.arbiter.specs.declared.State.{State}
use Rattle.calls.specs.Calls.{run, served}
use Rattle.fairness.specs.Kinds.{with_messages}
use Rattle.fairness.specs.Waiting.{ceiling}
use Rattle.fairness.specs.Backlog.{BacklogGrantedWithin, BacklogGrantedInTime}
use Rattle.fairness.proofs.Cycles.{resumed}
use Rattle.fairness.proofs.Rulings.{messages_ruling}
use Rattle.fairness.proofs.Waiting.{least, in_time}
use Rattle.fairness.proofs.BacklogCalls.{Found, leaves, all_take, found_follow, keeps_asking}
use Rattle.fairness.proofs.BacklogSharpness.{backlog_no_sooner}

-- a state that some engine serves
module _ (s : State) (serves : with_messages.Serves s) where
  granted_within : (limit : ℕ) → ceiling s.width s.picks ≤ limit → BacklogGrantedWithin s limit
  granted_within limit enough steps start pass finds w past first more are has =
      let r =
      resumed Found leaves past (first ∷ more) [] start
      (rw (are, ← append-nil (first ∷ more)) at (found_follow (served (run s steps)) start (all_take s steps pass) finds)) in
      in_time with_messages messages_ruling s serves limit enough steps w past first more pass are (keeps_asking w first more r.0 r.1 has)

pub backlog_granted_in_time : BacklogGrantedInTime
backlog_granted_in_time s serves = record {
  holds = granted_within s serves _ (omega arith);
  least = λ limit claim. least with_messages messages_ruling s serves limit (λ l. backlog_no_sooner s serves limit l claim);
}
