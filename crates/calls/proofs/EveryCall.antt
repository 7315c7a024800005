-- What holds of every call: each asks its questions, and answers by what they say.
-- Assumes nothing.
use Prim.Native.Nat.{ℕ, ◌<◌, ◌≤◌}
use mathlib.Core.Path.{◌≡◌, refl, sym, ap, ◌∙◌}
use Rattle.std.specs.Prelude.{Result, Ok, Err}
use mathlib.Core.Bool.{Bool, true, false, ◌&&◌}
use mathlib.Core.List.{List, [], ◌∷◌}
use native.Mathlib.Omega.{arith}
use lib.Dec.{eqb, leb}
use lib.ListN.{length, get_or, replicate, length-replicate}
use borrow.Author.Tests.{ne_eqb}
use Rattle.std.specs.Prelude.{Some}
use Rattle.std.specs.List.{list_any}
use Rattle.rules.specs.Lists.{range, count}
use Rattle.rules.specs.Lists.Laws as ListsLaws
use Rattle.rules.proofs.Pending.Laws as PendingLaws
use Rattle.rules.specs.Packing.{pack, unpack}
use Rattle.rules.specs.RoundRobin as RoundRobinRule
use Rattle.rules.proofs.RoundRobin.Laws as RoundRobinLaws
use Rattle.rules.specs.Thermometer.{is_code}
use Rattle.rules.specs.Bus as BusRule
use Rattle.rules.proofs.Bus.Laws as BusLaws
use Rattle.arbiter.specs.declared.Answer.{Answer}
use Rattle.arbiter.specs.declared.Granted.{Granted}
use Rattle.arbiter.specs.declared.State.{State}
use Rattle.arbiter.specs.declared.refusal.Refusal.{Refusal}
use Rattle.arbiter.specs.declared.refusal.Refusal.TheVariants.{Picks, Code}
use Rattle.arbiter.specs.Questions.{Verdict, refuse_unless, ◌then◌}
use Rattle.arbiter.specs.Answers as Answers
use Rattle.arbiter.specs.Answers.{Effect, moved, with_picks, served, refused, if_passed, number, more, number_of, place_of}
use Rattle.arbiter.specs.Answers.Laws.{refusal_number, writes_refused}
use Rattle.arbiter.specs.Cycle as RoundRobinCalls
use Rattle.packed_scan.specs.Calls as PackedCalls
use Rattle.packed_scan.proofs.AsScan.{served_unpacked}
use Rattle.thermometer.specs.Adder as Adder
use Rattle.thermometer.specs.declared.adder.Sum.{Sum}
use Rattle.token_bus.specs.Calls as BusCalls
use Rattle.token_bus.specs.Calls.Laws as BusCallsLaws
use Rattle.engines.specs.declared.Engine.{Engine}
use Rattle.engines.specs.declared.Engine.TheVariants.{Scan}
use Rattle.engines.specs.Calls.Laws.{Served, engine_served, engine_refused}
use Rattle.backlog.specs.Calls.{arrived, requests}
use Rattle.backlog.specs.Calls.Laws.{backlog_served, backlog_refused}
use Rattle.calls.specs.Calls.{Cycle, engine_cycle, bus_cycle, packed_cycle, backlog_cycle, Call, cycle, engine_opening, bus_opening, packed_opening, image_read, image_write, snapshot_read, snapshot_write, Made, ran, unwriting, writing, made, Step, run}
use Rattle.calls.specs.Calls as Calls
use Rattle.calls.specs.EveryCall.{HeadAfter, GrantsCounted, left_asking, MorePending, RefusedAsGiven, RefusedSkipped, AdderAnswers}

-- how many bytes are 1
abbrev ones : List ℕ → ℕ
ones bytes = count (λ b. eqb b 1) bytes

-- what a served call answers by its bytes, with the state that it leaves
abbrev says : Made → State → Answer Granted
says r next = record { state = next; outcome = Ok (record { count = ones r.grants; more = left_asking r }) }

-- what a call has come to: served, it counts its grants and says whether somebody is left asking; refused, it answers with the state
-- that it was given and changes nothing
data Asked (r : Made) : Type 0 where
  asked_served : (next : State) → r.answer ≡ says r next → Asked r
  asked_refused : (refusal : Refusal) → r.answer ≡ refused refusal r.given → r.left ≡ r.lent → Asked r

-- a call has come to one of the two, where a served one counts its grants and a refused one leaves state and buffers as they were
come_to : (r : Made) (next : State) → (number r.answer ≡ 0 → r.answer ≡ says r next)
    → ((number r.answer ≡ 0 → ⊥) → (r.answer.state ≡ r.given) × (r.left ≡ r.lent)) → Asked r
come_to r next passes keeps = of_outcome r.answer.outcome refl
  where
    of_outcome : (o : Result Granted Refusal) → r.answer.outcome ≡ o → Asked r
    of_outcome (Ok k) is = asked_served next (passes (ap number_of is))
    of_outcome (Err e) is = let kept = keeps (λ z. refusal_number e (sym (ap number_of is) ∙ z)) in asked_refused e (rw (← is, ← kept.0)) kept.1

-- where nobody asks, nobody is left asking
none_asking : (grants : List ℕ) (n : ℕ) → list_any (λ w. eqb (get_or {A = ℕ} [] w 0) 1 && eqb (get_or grants w 0) 0) (range 0 n) ≡ false
none_asking grants n = ListsLaws.any_none _ 0 n (λ w _ _. refl)

-- one that writes no buffer
asked_unwriting : (v : Verdict) (c : Call) (t s : State) → Asked (unwriting c s (if_passed v (served t) (λ e. refused e s)))
asked_unwriting (Ok _) c t s = asked_served t (rw (none_asking [] s.width))
asked_unwriting (Err e) c t s = asked_refused e refl refl

-- one that writes a buffer
asked_writing : (v : Verdict) (c : Call) (s t : State) (target former : List ℕ)
    → Asked (writing c s (Answers.writes v s (served t) target former) former)
asked_writing (Ok _) c s t target former = asked_served t (rw (none_asking [] s.width))
asked_writing (Err e) c s t target former = asked_refused e refl refl

-- the state after a served cycle by the round-robin rule, and after one by the bus's
abbrev after : State → List ℕ → State
after s requests = moved s (RoundRobinRule.next s.width s.picks s.head (RoundRobinCalls.asking s requests))

abbrev bus_after : State → List ℕ → ℕ → State
bus_after s requests byte =
    moved s (Some (BusRule.next s.width (BusCalls.token s) (BusRule.acknowledged byte) (RoundRobinCalls.asking s requests)))

-- what it answers is told by its bytes: its count is that of the grants that are 1, and more are pending if somebody is left asking
counted : (s : State) (r : Made) (requests : List ℕ) → r.given ≡ s → r.requests ≡ requests → Served s requests r.answer r.grants
    → r.answer ≡ says r (after s requests)
counted s r requests e f t =
    let station : RoundRobinRule.start s.head ≤ s.width = omega (arith, t.allows.station) in
    let asks = RoundRobinCalls.asking s requests in
    let is = RoundRobinLaws.grants_count s.width s.picks s.head asks station in
    let left = PendingLaws.more_told s.width s.picks s.head asks station in
    rw (e, f, t.granted, is, ← left) t.answers

bus_counted : (s : State) (r : Made) (requests : List ℕ) (byte : ℕ) (o : Effect Granted) → r.given ≡ s → r.requests ≡ requests → r.answer ≡ o.answer
    → r.grants ≡ o.written → BusCallsLaws.Served s requests byte o → r.answer ≡ says r (bus_after s requests byte)
bus_counted s r requests byte o e f g h t =
    let asks = RoundRobinCalls.asking s requests in
    let is = BusLaws.grants_count s.width (BusCalls.token s) asks t.token in
    let left = BusLaws.more_told s.width (BusCalls.token s) asks t.token in
    rw (e, f, g, h, t.grants, is, ← left) t.answers

-- the cycles of the engines of the round-robin rule
asked_engine : (e : Engine) (s : State) (requests grants nodes : List ℕ) → Asked (ran s (engine_cycle e requests grants nodes))
asked_engine e s requests grants nodes =
    come_to (ran s (engine_cycle e requests grants nodes)) (after s requests)
    (λ z. counted s (ran s (engine_cycle e requests grants nodes)) requests refl refl (engine_served e s requests grants nodes z))
    (λ n. let kept = engine_refused e s requests grants nodes n in (kept.0, rw (kept.1, kept.2)))

asked_bus : (s : State) (requests grants : List ℕ) (byte : ℕ) → Asked (ran s (bus_cycle requests grants byte))
asked_bus s requests grants byte =
    come_to (ran s (bus_cycle requests grants byte)) (bus_after s requests byte)
    (λ z.
    bus_counted s (ran s (bus_cycle requests grants byte)) requests byte (BusCalls.cycle s requests grants byte) refl refl refl refl
    (BusCallsLaws.cycle_served s requests grants byte z))
    (λ n. let kept = BusCallsLaws.cycle_refused s requests grants byte n in (kept.0, rw kept.1))

-- the packed scan: what it serves, the plain scan serves on the unpacked wires
module _ (s : State) (requests grants : List ℕ) where
  abbrev wires : List ℕ
  wires = unpack s.width requests

  abbrev packed_outcome : Effect Granted
  packed_outcome = PackedCalls.cycle s requests grants

  pub as_scan : number packed_outcome.answer ≡ 0 → Served s wires packed_outcome.answer (unpack s.width packed_outcome.written)
  as_scan z =
      let bytes : List ℕ = replicate s.width 0 in
      let same = served_unpacked s requests grants bytes z (length-replicate s.width 0) in
      rw same at (engine_served Scan s wires bytes [] (ap (λ (o : Effect Granted). number o.answer) same ∙ z))

  packed_kept : (number packed_outcome.answer ≡ 0 → ⊥)
      → (packed_outcome.answer.state ≡ s) × (packed_outcome.written ≡ grants)
  packed_kept n =
      let v = PackedCalls.questions s requests (length grants) in
      writes_refused v s (RoundRobinCalls.answer s wires) (pack (RoundRobinCalls.granting s wires)) grants refl n

  asked_packed : Asked (ran s (packed_cycle requests grants))
  asked_packed =
      come_to (ran s (packed_cycle requests grants)) (after s wires) (λ z. counted s (ran s (packed_cycle requests grants)) wires refl refl (as_scan z))
      (λ n. let kept = packed_kept n in (kept.0, rw kept.1))

-- the backlog: what it serves, its engine serves on the requests that the numbers make
asked_backlog : (e : Engine) (s : State) (arrivals waiting grants nodes : List ℕ) → Asked (ran s (backlog_cycle e arrivals waiting grants nodes))
asked_backlog e s arrivals waiting grants nodes =
    let wires = requests (arrived waiting arrivals) in
    come_to (ran s (backlog_cycle e arrivals waiting grants nodes)) (after s wires)
    (λ z. counted s (ran s (backlog_cycle e arrivals waiting grants nodes)) wires refl refl (backlog_served e s arrivals waiting grants nodes z))
    (λ n. let kept = backlog_refused e s arrivals waiting grants nodes n in (kept.0, rw (kept.1, kept.2, kept.3)))

-- every cycle, and every call
asked_cycle : (s : State) (c : Cycle) → Asked (ran s c)
asked_cycle s (engine_cycle e requests grants nodes) = asked_engine e s requests grants nodes
asked_cycle s (bus_cycle requests grants byte) = asked_bus s requests grants byte
asked_cycle s (packed_cycle requests grants) = asked_packed s requests grants
asked_cycle s (backlog_cycle e arrivals waiting grants nodes) = asked_backlog e s arrivals waiting grants nodes

asked : (s : State) (c : Call) → Asked (made s c)
asked s (cycle c) = asked_cycle s c
asked s (engine_opening e n m h) = asked_unwriting _ _ _ _
asked s (bus_opening n m h) = asked_unwriting _ _ _ _
asked s (packed_opening n m h) = asked_unwriting _ _ _ _
asked s (image_read bytes) = asked_unwriting _ _ _ _
asked s (image_write former) = asked_writing _ _ _ _ _ _
asked s (snapshot_read bytes) = asked_unwriting _ _ _ _
asked s (snapshot_write former) = asked_writing _ _ _ _ _ _

-- what is claimed of a call that has come to something
grants_are_counted : (r : Made) → Asked r → number r.answer ≡ 0 → Answers.count r.answer ≡ ones r.grants
grants_are_counted r (asked_served next e) z = ap (λ (a : Answer Granted). Answers.count a) e
grants_are_counted r (asked_refused refusal e same) z = absurd (refusal_number refusal (sym (ap (λ (a : Answer Granted). number a) e) ∙ z))

pub grants_counted : GrantsCounted
grants_counted s c z = grants_are_counted (made s c) (asked s c) z

more_said : (r : Made) → Asked r → more r.answer ≡ (eqb (number r.answer) 0 && left_asking r)
more_said r (asked_served next e) = rw (ap (λ (a : Answer Granted). number a) e) (ap (λ (a : Answer Granted). more a) e)
more_said r (asked_refused refusal e same) =
    let n = ap (λ (a : Answer Granted). number a) e in
    rw (ne_eqb (number r.answer) 0 (λ z. refusal_number refusal (sym n ∙ z))) (ap (λ (a : Answer Granted). more a) e)

pub more_pending : MorePending
more_pending s c = more_said (made s c) (asked s c)

as_given : (r : Made) → Asked r → (number r.answer ≡ 0 → ⊥)
    → (Answers.count r.answer ≡ 0) × (r.answer.state ≡ r.given) × (r.left ≡ r.lent)
as_given r (asked_served next e) n = absurd (n (ap (λ (a : Answer Granted). number a) e))
as_given r (asked_refused refusal e same) n = (ap (λ (a : Answer Granted). Answers.count a) e, ap (λ (a : Answer Granted). a.state) e, same)

pub refused_as_given : RefusedAsGiven
refused_as_given s c n = as_given (made s c) (asked s c) n

-- a cycle, made, is still that cycle, and was given that state
pub ran_is : (s : State) (c : Cycle) → ((ran s c).call ≡ cycle c) × ((ran s c).given ≡ s)
ran_is s (engine_cycle e requests grants nodes) = (refl, refl)
ran_is s (bus_cycle requests grants byte) = (refl, refl)
ran_is s (packed_cycle requests grants) = (refl, refl)
ran_is s (backlog_cycle e arrivals waiting grants nodes) = (refl, refl)

-- so, refused, it returns that state
pub state_kept : (s : State) (c : Cycle) → (number (ran s c).answer ≡ 0 → ⊥) → (ran s c).answer.state ≡ s
state_kept s c n = (refused_as_given s (cycle c) n).1 ∙ (ran_is s c).1

pub refused_skipped : RefusedSkipped
refused_skipped s m c steps n =
    let q = with_picks s m in
    let call : (ran q c).call ≡ cycle c = (ran_is q c).0 in
    rw (call, ne_eqb _ 0 n) (from steps (state_kept q c n))
  where
    from : (steps : List Step) {q : State} → q ≡ with_picks s m → Calls.served (run q steps) ≡ Calls.served (run s steps)
    from [] e = refl
    from (k ∷ ks) e = rw e refl

-- a served cycle by the round-robin rule ends with a station for a head
rule_head : (s : State) (requests : List ℕ) (a : Answer Granted) (bytes : List ℕ) → Served s requests a bytes
    → (k : ℕ) × (k < s.width) × (a.state ≡ moved s (Some k))
rule_head s requests a bytes r =
    let k = RoundRobinLaws.next_head s.width s.picks s.head (RoundRobinCalls.asking s requests) r.allows.station in
    (k.0, k.1, ap (λ (a : Answer Granted). a.state) r.answers ∙ ap (moved s) k.2)

pub head_after : HeadAfter
head_after s (engine_cycle e requests grants nodes) z = rule_head s requests _ _ (engine_served e s requests grants nodes z)
head_after s (bus_cycle requests grants byte) z =
    let r = BusCallsLaws.cycle_served s requests grants byte z in
    let asks = RoundRobinCalls.asking s requests in (
      BusRule.next s.width (BusCalls.token s) (BusRule.acknowledged byte) asks,
      BusLaws.next_below s.width (BusCalls.token s) (BusRule.acknowledged byte) asks r.token,
      ap (λ (a : Answer Granted). a.state) r.answers,
    )
head_after s (packed_cycle requests grants) z = rule_head s (unpack s.width requests) _ _ (as_scan s requests grants z)
head_after s (backlog_cycle e arrivals waiting grants nodes) z =
    rule_head s (requests (arrived waiting arrivals)) _ _ (backlog_served e s arrivals waiting grants nodes z)

-- the adder by what it asks: 3 and 13
adder_says : (picks codes : Bool) (sum : Sum)
    → let s = refuse_unless picks Picks then refuse_unless codes Code then Ok sum in
    (place_of s ≡ 0) × ((number_of s ≡ 0 → ⊥) → (Adder.code_of s ≡ 0) × (Adder.cut_of s ≡ false))
adder_says true true sum = (refl, λ n. absurd (n refl))
adder_says true false sum = (refl, λ n. (refl, refl))
adder_says false codes sum = (refl, λ n. (refl, refl))

pub adder_answers : AdderAnswers
adder_answers m a b = adder_says (leb 1 m && leb m 8) (is_code m a && is_code m b) _
