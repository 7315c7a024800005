-- What is known of the served cycles of a list with messages waiting: a station asks exactly where it has a message; and where each cycle finds the waiting numbers that
-- the one before left, no message is lost, so a station that has one asks until it is granted.
-- Assumes nothing.
use Prim.Native.Nat.{ℕ}
use mathlib.Core.Path.{◌≡◌, refl, sym, ap, ◌∙◌}
use mathlib.Core.Bool.{true, false, true≢false}
use mathlib.Core.List.{List, [], ◌∷◌}
use native.Mathlib.Omega.{arith}
use lib.ListN.{length, get_or}
use borrow.Author.Tests.{ltb-true, lt-ltb}
use Rattle.rules.specs.Head.{Head}
use Rattle.rules.specs.Lists.{bit}
use Rattle.rules.specs.Lists.Laws as ListsLaws
use Rattle.arbiter.specs.declared.State.{State}
use Rattle.arbiter.specs.Answers as Answers
use Rattle.arbiter.specs.Answers.{number}
use Rattle.backlog.specs.Calls.{arrived, taken}
use Rattle.backlog.specs.Calls.Laws as BacklogCallsLaws
use Rattle.calls.specs.Calls.{Cycle, backlog_cycle, Made, ran, Step, run, served, asks, granted}
use Rattle.calls.specs.Messages.{has_messages, Finds}
use Rattle.fairness.specs.Cycles.{Chain}
use Rattle.fairness.specs.Kinds.{with_messages, picks_of}
use Rattle.fairness.specs.Waiting.{Of, AsksUntilGranted}
use Rattle.fairness.specs.Backlog.{has_message, MessageAsks}
use Rattle.fairness.proofs.Calls.{Right, head_after, cycles}
use Rattle.fairness.proofs.Sharpness.{All, picks_rule}
use Rattle.fairness.proofs.Rulings.{messages_ruling}

pub message_asks : MessageAsks
message_asks s (backlog_cycle e arrivals waiting grants nodes) w t = BacklogCallsLaws.requests_ask (arrived waiting arrivals) w
message_asks s _ w t = absurd (true≢false (sym t))

-- what a served cycle with messages waiting takes: from the numbers that there are after the arrivals, what it grants
pub record Takes (m : Made) : Type 0 where
  pub came : length m.messages.arrivals ≡ length m.messages.waiting
  pub takes : m.messages.remaining ≡ taken (arrived m.messages.waiting m.messages.arrivals) m.grants
  pub wants : (w : ℕ) → asks w m ≡ has_message w m

takes_of : (s : State) (c : Cycle) → has_messages c ≡ true → number (ran s c).answer ≡ 0 → Takes (ran s c)
takes_of s (backlog_cycle e arrivals waiting grants nodes) t z =
    let p = BacklogCallsLaws.served_passes e s arrivals waiting grants nodes z in
    let l = BacklogCallsLaws.lent_passed e s arrivals waiting grants nodes p in
    record {
      came = l.came ∙ sym l.counted;
      takes = rw (BacklogCallsLaws.passed_cycle e s arrivals waiting grants nodes p) refl;
      wants = λ w. BacklogCallsLaws.requests_ask (arrived waiting arrivals) w;
    }
takes_of s _ t z = absurd (true≢false (sym t))

-- one that found these waiting numbers
pub record Found (start : List ℕ) (m : Made) : Type 0 where
  pub found : m.messages.waiting ≡ start
  pub takes : Takes m

-- the waiting numbers that it leaves for the next
abbrev pub leaves : List ℕ → Made → List ℕ
leaves start m = m.messages.remaining

-- a list of the kind from the state s
module _ (s : State) (steps : List Step) (pass : Of with_messages s steps) where
  each_takes : (ms : List Made) (h : Head) → Chain (Right s.width (picks_of s.picks with_messages.is)) (head_after s.width) h ms → All Takes ms
  each_takes [] h chain = tt
  each_takes (m ∷ ms) h chain =
      let r = chain.0 in (
        rw r.made (takes_of (Answers.made s.width m.given.picks h) r.by (ListsLaws.both _ _ r.pass).0 r.zero),
        each_takes ms (head_after s.width h m) chain.1,
      )

  pub all_take : All Takes (served (run s steps))
  all_take =
      let test = picks_of s.picks with_messages.is in
      each_takes (served (run s steps)) s.head (cycles test (picks_rule with_messages messages_ruling s.picks) s steps pass)

-- they follow one another so, where each finds the numbers that the one before left
pub found_follow : (ms : List Made) (start : List ℕ) → All Takes ms → Finds start ms → Chain Found leaves start ms
found_follow [] start all finds = tt
found_follow (m ∷ ms) start all finds = (record { found = finds.0; takes = all.0 }, found_follow ms m.messages.remaining all.1 finds.1)

-- a station that has a message and is not granted still has it in the next of them
message_stays : (w : ℕ) (c d : Made) (start : List ℕ) → Found start c → Found c.messages.remaining d → has_message w c ≡ true
    → granted w c ≡ false → has_message w d ≡ true
message_stays w c d start this next has ungranted =
    lt-ltb 0 _ (omega (
      arith,
      ltb-true 0 _ has,
      ap bit ungranted,
      BacklogCallsLaws.taken_at (arrived c.messages.waiting c.messages.arrivals) c.grants w,
      ap (λ (l : List ℕ). get_or l w 0) (next.found ∙ this.takes.takes),
      BacklogCallsLaws.arrived_at d.messages.waiting d.messages.arrivals next.takes.came w,
    ))

-- so a station with a message asks until it is granted
pub keeps_asking : (w : ℕ) (m : Made) (ms : List Made) (start : List ℕ) → Chain Found leaves start (m ∷ ms)
    → has_message w m ≡ true → AsksUntilGranted w (m ∷ ms)
keeps_asking w m [] start chain has = (chain.0.takes.wants w ∙ has, λ _. tt)
keeps_asking w m (d ∷ ds) start chain has = (
  chain.0.takes.wants w ∙ has,
  λ ungranted. keeps_asking w d ds m.messages.remaining chain.1 (message_stays w m d start chain.0 chain.1.0 has ungranted),
)
