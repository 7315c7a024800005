-- With messages waiting, too, no smaller bound would do: in the cycles of Fillings all stations have a message.
-- Assumes nothing.
use Prim.Native.Nat.{ℕ, suc, ◌*◌, ◌≤◌, ◌<◌}
use mathlib.Core.Path.{sym, ◌∙◌}
use mathlib.Core.List.{[]}
use native.Mathlib.Omega.{arith}
use Rattle.arbiter.specs.declared.State.{State}
use Rattle.engines.specs.declared.Engine.TheVariants.{Scan}
use Rattle.engines.specs.Calls.Laws.{engine_opens}
use Rattle.calls.specs.Calls.{run, served}
use Rattle.fairness.specs.Kinds.{EngineServes, with_messages}
use Rattle.fairness.specs.Backlog.{BacklogGrantedWithin}
use Rattle.fairness.proofs.Fillings.{filled, filled_pass, filled_served, none}
use Rattle.fairness.proofs.Sharpness.{AllAsking, few, last, last_passed, waits_ask, unmet}
use Rattle.fairness.proofs.Rulings.{messages_ruling}
use Rattle.fairness.proofs.BacklogCalls.{all_take}

-- a state that some engine serves
module _ (s : State) (serves : with_messages.Serves s) where
  scan : EngineServes Scan s
  scan = engine_opens s (messages_ruling.allows s serves)

  -- in so many cycles a station with messages may not be granted
  pub backlog_no_sooner : (size : ℕ) → size * s.picks < s.width → BacklogGrantedWithin s size → ⊥
  backlog_no_sooner size l claim =
      let within : suc size ≤ s.width = omega (arith, few with_messages messages_ruling s serves size l) in
      let all = filled_served s scan (suc size) within in
      let a : AllAsking with_messages s (suc size) =
      record { steps = filled s scan (suc size); pass = filled_pass s scan (suc size); long = all.0; full = all.1 } in
      let w = (last with_messages messages_ruling s serves).0 in
      let asking = waits_ask with_messages messages_ruling s serves (suc size) a in
      let taking = all_take s a.steps a.pass in
      unmet w size (served (run s a.steps)) all.0 (last_passed with_messages messages_ruling s serves (suc size) a size l)
      (λ m ms e. claim a.steps (none s scan) a.pass all.2 w [] m ms e (sym ((rw e at taking).0.wants w) ∙ (rw e at asking).0))
