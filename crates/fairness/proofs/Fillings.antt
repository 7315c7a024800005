-- With messages waiting, all stations can ask in each of several cycles, each of which finds the waiting numbers that the one before left:
-- one message comes for each station in each of them.
-- Assumes nothing.
use Prim.Native.Nat.{ℕ, zero, suc, ◌+◌, ◌≤◌, ◌<◌}
use mathlib.Core.Path.{◌≡◌, refl, sym, ap, ◌∙◌}
use mathlib.Core.List.{List, [], ◌∷◌}
use native.Mathlib.Omega.{arith}
use lib.ListN.{length, get_or, replicate, length-replicate, get_or-replicate}
use borrow.Author.Tests.{lt-ltb, eq-eqb}
use Rattle.std.proofs.lemmas.List.{ext_get_or}
use Rattle.std.specs.Prelude.{Some}
use Rattle.rules.specs.Head.{Head}
use Rattle.rules.specs.Lists.{bit}
use Rattle.rules.specs.RoundRobin.{start}
use Rattle.rules.proofs.RoundRobin.Laws as RoundRobinLaws
use Rattle.arbiter.specs.declared.State.{State}
use Rattle.arbiter.specs.Questions as Questions
use Rattle.arbiter.specs.Questions.{Verdict, passed, ◌then◌}
use Rattle.arbiter.specs.Questions.Laws as QuestionsLaws
use Rattle.arbiter.specs.Answers.{moved, number}
use Rattle.arbiter.specs.Answers.Laws.{opened_passed}
use Rattle.engines.specs.declared.Engine.TheVariants.{Scan}
use Rattle.engines.specs.Calls.Laws.{opens_allowed}
use Rattle.backlog.specs.Calls as BacklogCalls
use Rattle.backlog.specs.Calls.{arrived, requests, taken, max_waiting}
use Rattle.backlog.specs.Calls.Laws as BacklogCallsLaws
use Rattle.calls.specs.Calls.{Cycle, backlog_cycle, cycle, Made, ran, Step, run, served}
use Rattle.calls.specs.Messages.{Finds}
use Rattle.calls.proofs.EveryCall as EveryCall
use Rattle.fairness.specs.Kinds.{EngineServes, with_messages}
use Rattle.fairness.specs.Waiting.{Of}
use Rattle.fairness.proofs.Sharpness.{ones, Full, All}

-- a state that the plain scan serves
module _ (s : State) (opens : EngineServes Scan s) where
  -- a cycle with one message that comes for each station
  abbrev filling : List ℕ → Cycle
  filling waiting = backlog_cycle Scan (ones s.width) waiting (replicate s.width 0) []

  -- k of them, each of which finds the numbers that the one before left
  abbrev fillings : ℕ → State → List ℕ → List Step
  fillings zero q waiting = []
  fillings (suc k) q waiting =
      let m = ran q (filling waiting) in record { picks = s.picks; call = cycle (filling waiting) } ∷ fillings k m.answer.state m.messages.remaining

  fillings_pass : (k : ℕ) (q : State) (waiting : List ℕ) → Of with_messages s (fillings k q waiting)
  fillings_pass zero q waiting = tt
  fillings_pass (suc k) q waiting =
      let m = ran q (filling waiting) in (eq-eqb s.picks s.picks refl, fillings_pass k m.answer.state m.messages.remaining)

  -- the numbers of the stations, to each of which k more may come
  record Room (k : ℕ) (waiting : List ℕ) : Type 0 where
    long : length waiting ≡ s.width
    within : (w : ℕ) → w < s.width → get_or waiting w 0 + k ≤ max_waiting

  -- such a call, with head h before it
  module _ (h : Head) (head : start h < s.width) (k : ℕ) (waiting : List ℕ) (room : Room (suc k) waiting) where
    abbrev here : Made
    here = ran (moved s h) (filling waiting)

    abbrev numbers : List ℕ
    numbers = arrived waiting (ones s.width)

    size : length numbers ≡ s.width
    size = BacklogCallsLaws.arrived_length waiting (ones s.width) ∙ room.long

    -- they are one more each
    one_more : (w : ℕ) → w < s.width → get_or numbers w 0 ≡ get_or waiting w 0 + 1
    one_more w l =
        omega (
          arith,
          BacklogCallsLaws.arrived_at waiting (ones s.width) (length-replicate {A = ℕ} s.width 1 ∙ sym room.long) w,
          get_or-replicate {A = ℕ} s.width w 1 0 l,
        )

    -- so all ask
    all_ask : requests numbers ≡ ones s.width
    all_ask =
        let long = BacklogCallsLaws.requests_length numbers ∙ size in
        ext_get_or 0 _ _ (long ∙ sym (length-replicate {A = ℕ} s.width 1))
        (λ w l.
        let station : w < s.width = omega (arith, long) in
        BacklogCallsLaws.requests_at numbers w ∙ ap bit (lt-ltb 0 _ (omega (arith, one_more w station))) ∙ sym (get_or-replicate {A = ℕ} s.width w 1 0 station))

    -- and the questions pass
    abbrev verdict : Verdict
    verdict = BacklogCalls.questions Scan (moved s h) (ones s.width) waiting (length (replicate {A = ℕ} s.width 0)) 0

    answers : verdict ≡ passed
    answers =
        let n = s.width in
        let before = Questions.width n then Questions.picks n s.picks in
        let within : (w : ℕ) → w < length numbers → get_or numbers w 0 ≤ max_waiting =
        λ w l. omega (arith, size, one_more w (omega (arith, size)), room.within w (omega (arith, size))) in
        QuestionsLaws.then_passed (before then Questions.head n h) _
        (QuestionsLaws.head_moves before n s.head h (opened_passed _ s opens) head)
        (rw (
          eq-eqb (length (ones n)) n (length-replicate {A = ℕ} n 1),
          eq-eqb (length (replicate n 0)) n (length-replicate {A = ℕ} n 0),
          eq-eqb (length waiting) n room.long,
        )
        (BacklogCallsLaws.overflow_passes numbers within))

    -- it is served
    serves : number here.answer ≡ 0
    serves =
        let grants : List ℕ = replicate s.width 0 in
        rw (BacklogCallsLaws.passed_cycle Scan (moved s h) (ones s.width) waiting grants [] answers)
        (BacklogCallsLaws.engine_number Scan (moved s h) (ones s.width) waiting grants [] answers)

    -- and k more may come after it
    room_left : Room k here.messages.remaining
    room_left =
        let grants = here.grants in
        let e : here.messages.remaining ≡ taken numbers grants =
        rw (BacklogCallsLaws.passed_cycle Scan (moved s h) (ones s.width) waiting (replicate s.width 0) [] answers) refl in
        record {
          long = ap (λ (l : List ℕ). length l) e ∙ BacklogCallsLaws.taken_length numbers grants ∙ size;
          within = λ w l.
              omega (
                arith,
                ap (λ (l : List ℕ). get_or l w 0) e,
                BacklogCallsLaws.taken_at numbers grants w,
                one_more w l,
                room.within w l,
              );
        }

  -- all of them are served
  all_served : (k : ℕ) (h : Head) (waiting : List ℕ) → start h < s.width → Room k waiting
      → let ms = served (run (moved s h) (fillings k (moved s h) waiting)) in (length ms ≡ k) × All (Full s.width) ms × Finds waiting ms
  all_served zero h waiting g room = (refl, tt, tt)
  all_served (suc k) h waiting g room =
      let q = moved s h in
      let c = filling waiting in
      let m = ran q c in
      let z = serves h g k waiting room in
      let to = EveryCall.head_after q c z in
      let rest = all_served k (Some to.0) m.messages.remaining (omega (arith, to.1, RoundRobinLaws.start_at to.0)) (room_left h g k waiting room) in
      rw (eq-eqb _ 0 z, to.2) (ap suc rest.0, (all_ask h g k waiting room, rest.1), (refl, rest.2))

  -- k of them, with no message at the start
  abbrev pub none : List ℕ
  none = replicate s.width 0

  abbrev pub filled : ℕ → List Step
  filled k = fillings k s none

  pub filled_pass : (k : ℕ) → Of with_messages s (filled k)
  filled_pass k = fillings_pass k s none

  -- the numbers stay far below the most
  pub filled_served : (k : ℕ) → k ≤ s.width
      → let ms = served (run s (filled k)) in (length ms ≡ k) × All (Full s.width) ms × Finds none ms
  filled_served k few =
      let a = opens_allowed Scan s opens in
      all_served k s.head none a.station
      (record {
        long = length-replicate {A = ℕ} s.width 0;
        within = λ w l. omega (arith, few, a.most, get_or-replicate {A = ℕ} s.width w 0 0 l);
      })
