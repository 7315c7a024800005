-- The wait rule over every list of calls. By the engines of the rule, the packed scan and with messages waiting: the served ones are cycles
-- of the round-robin rule, for which it is proved in Cycles. On the bus: from the laws of the bus's rule.
-- Assumes nothing.
use Prim.Native.Nat.{ℕ, zero, suc, ◌*◌, ◌≤◌, ◌<◌}
use mathlib.Core.Path.{◌≡◌, refl, sym, ap, ◌∙◌}
use mathlib.Core.Bool.{Bool, true, false, ◌&&◌, true≢false}
use mathlib.Core.List.{List, [], ◌∷◌, ◌++◌, map}
use mathlib.Core.Logic.{inl, inr}
use native.Mathlib.Omega.{arith}
use native.Mathlib.Nat.{le-div_iff_mul-le}
use lib.Dec.{ltb, eqb}
use lib.ListN.{length, get_or, take, drop, length-take, take-append-drop, get_or-eq_default}
use borrow.Author.Tests.{ltb-true, ltb-false, eqb-true, eq-eqb}
use Rattle.std.specs.Prelude.{Some}
use Rattle.rules.specs.Head.{Head}
use Rattle.rules.specs.Lists.{bit, count, before}
use Rattle.rules.specs.Lists.Laws as ListsLaws
use Rattle.rules.specs.RoundRobin.{start, order}
use Rattle.rules.proofs.RoundRobin.Laws as RoundRobinLaws
use Rattle.rules.specs.Bus as BusRule
use Rattle.rules.proofs.Bus.Laws as BusLaws
use Rattle.arbiter.specs.declared.State.{State}
use Rattle.arbiter.specs.Answers.{with_picks}
use Rattle.arbiter.specs.Answers.Laws.{opened_passed, passed_opened}
use Rattle.token_bus.specs.Calls.Laws as BusCallsLaws
use Rattle.calls.specs.Calls.{Made, Step, run, served, asks, granted, Each}
use Rattle.fairness.specs.Cycles.{Chain, Waits}
use Rattle.fairness.specs.Kinds.{Kind, by_engines, with_messages, packed, by_rule, on_bus, any_picks, picks_of}
use Rattle.fairness.specs.Waiting.{OneLeastOfAny, OneLeast, UnservedRefused, Wait, FewPicks, PicksBounded, PicksNoFewer, ceiling, WaitOf, BoundedWaiting, NotTwice, AsksUntilGranted, GrantedWithin, GrantedInTime, acknowledged, GrantedAcknowledged, BusBoundedWaiting}
use Rattle.fairness.proofs.Cycles.{chain_empty, resumed, waiting_cycles, bus_nearer}
use Rattle.fairness.proofs.Calls.{run_picks, OfRule, Right, read, head_after, cycles, read_follows, read_total, fixed_picks, fixed_total, BusRight, next_token, bus_cycles}
use Rattle.fairness.proofs.Sharpness.{Ruling, picks_rule, longest_wait, no_sooner, other_once, bus_no_sooner}
use Rattle.fairness.proofs.Rulings.{engines_ruling, messages_ruling, packed_ruling, rule_ruling}

-- whoever asks is a station: its byte is one of the n
asking_station : (bytes : List ℕ) (n w : ℕ) → length bytes ≡ n → eqb (get_or bytes w 0) 1 ≡ true → w < n
asking_station bytes n w long e =
    ListsLaws.split (ltb w n)
    (λ t. ltb-true w n t)
    (λ f.
    absurd (omega (
      arith,
      eqb-true (get_or bytes w 0) 1 e,
      get_or-eq_default bytes 0 {n = w} (omega (arith, ltb-false w n f)),
    )))

-- a station that asks in each of some cycles and is granted in none waits in them
read_waits : (w : ℕ) (ms : List Made) → Each (asks w) ms → count (granted w) ms ≡ 0 → Waits w (map read ms)
read_waits w [] asking none = tt
read_waits w (m ∷ ms) asking none =
    ListsLaws.split (granted w m)
    (λ t. absurd (omega (arith, ap bit t)))
    (λ f. (asking.0, f, read_waits w ms asking.1 (omega arith)))

-- who is granted in some, as they are read
count_read : (v : ℕ) (ms : List Made) → count (λ c. c.grants v) (map read ms) ≡ count (granted v) ms
count_read v [] = refl
count_read v (m ∷ ms) = omega (arith, count_read v ms)

-- a wait in a list by the rule
module _ (test : Step → Bool) (of : OfRule test) (s : State) (w : ℕ) where
  -- its cycles follow one another
  pub wait_follows : (waiting : List Made) → Wait test s w waiting → (h : Head) × Chain (Right s.width test) (head_after s.width) h waiting
  wait_follows waiting wait =
      resumed (Right s.width test) (head_after s.width) wait.past waiting wait.rest s.head (rw wait.are at (cycles test of s wait.steps wait.pass))

  -- so the pick counts add up to less than the stations are, and nobody is granted twice
  pub bounded : (waiting : List Made) → 0 < s.width → Wait test s w waiting → FewPicks s.width waiting
  bounded [] some wait = record { short = some; once = λ v. omega arith }
  bounded (m ∷ ms) some wait =
      let n = s.width in
      let r = wait_follows (m ∷ ms) wait in
      let first = r.1.0 in
      let long : length m.requests ≡ n = first.ruled.asked ∙ ap (λ (g : State). g.width) first.given in
      let station = asking_station m.requests n w long wait.asking.0 in
      let b =
      waiting_cycles n r.0 w (map read (m ∷ ms)) station (read_follows n test r.0 (m ∷ ms) r.1)
      (read_waits w (m ∷ ms) wait.asking wait.ungranted) in
      record {
        short = omega (arith, b.short, read_total (m ∷ ms));
        once = λ v. omega (arith, b.once v, count_read v (m ∷ ms));
      }

pub picks_bounded : PicksBounded
picks_bounded s some w waiting wait = bounded (any_picks by_rule.is) (λ k t. t) s w waiting some wait

-- k cycles of m each that are fewer than n in all are fewer than n / m rounded up
below_ceiling : (n m k : ℕ) → 0 < m → k * m < n → k < ceiling n m
below_ceiling n m k h l = (le-div_iff_mul-le h).1 (omega arith)

-- cycles that make no fewer than n picks are n / m rounded up or more
least_ceiling : (n m limit : ℕ) → 0 < m → (limit * m < n → ⊥) → ceiling n m ≤ limit
least_ceiling n m limit some enough =
    ListsLaws.split (ltb limit (ceiling n m))
    (λ t. absurd (enough (omega (arith, some, (le-div_iff_mul-le {x = suc limit} some).0 (ltb-true limit _ t)))))
    (λ f. omega (arith, ltb-false limit (ceiling n m) f))

-- a station that asks until it is granted, and is not granted, asks in every cycle
asks_each : (w k : ℕ) (ms : List Made) → AsksUntilGranted w ms → count (granted w) (take k ms) ≡ 0 → Each (asks w) (take k ms)
asks_each w zero ms until none = tt
asks_each w (suc k) [] until none = tt
asks_each w (suc k) (m ∷ ms) until none =
    ListsLaws.split (granted w m)
    (λ t. absurd (omega (arith, ap bit t)))
    (λ f. (until.0, asks_each w k ms (until.1 f) (omega arith)))

-- a kind whose cycles grant by the rule
module _ (k : Kind) (f : Ruling k) where
  refused : UnservedRefused k
  refused s steps pass none =
      let test = picks_of s.picks k.is in
      let of = picks_rule k f s.picks in
      chain_empty (Right s.width test) (head_after s.width) s.head (λ m r. none (served_state s m r)) (served (run s steps)) (cycles test of s steps pass)
    where
      served_state : (s : State) (m : Made) → Right s.width (picks_of s.picks k.is) s.head m → k.Serves s
      served_state s m r = f.serves s r.by (ListsLaws.both _ _ r.pass).0 (rw (fixed_picks k.is r) at r.zero)

  module _ (s : State) (serves : k.Serves s) where
    -- N/m rounded up of its cycles make N picks or more, and fewer do not
    pub least : (limit : ℕ) → (limit * s.picks < s.width → ⊥) → ceiling s.width s.picks ≤ limit
    least limit enough = least_ceiling s.width s.picks limit (f.allows s serves).picked enough

    short : (w : ℕ) (waiting : List Made) → WaitOf k s w waiting → length waiting < ceiling s.width s.picks
    short w waiting wait =
        let test = picks_of s.picks k.is in
        let of = picks_rule k f s.picks in
        let a = f.allows s serves in
        let r = wait_follows test of s w waiting wait in
        below_ceiling s.width s.picks (length waiting) a.picked
        (omega (
          arith,
          (bounded test of s w waiting a.some wait).short,
          fixed_total s.width s.picks k.is waiting r.0 r.1,
        ))

    -- a station that asks until it is granted is granted within as many, unless there are fewer
    pub in_time : (limit : ℕ) → ceiling s.width s.picks ≤ limit → GrantedWithin k s limit
    in_time limit enough steps w past first more pass are until =
        let within = take limit (first ∷ more) in
        ListsLaws.split (ltb 0 (count (granted w) within))
        (λ t. inl (ltb-true 0 _ t))
        (λ f.
        let none : count (granted w) within ≡ 0 = omega (arith, ltb-false 0 (count (granted w) within) f) in
        let wait : WaitOf k s w within =
        record {
          steps = steps;
          pass = pass;
          past = past;
          rest = drop limit (first ∷ more);
          are = are ∙ ap (◌++◌ past) (sym (take-append-drop limit (first ∷ more)));
          asking = asks_each w limit (first ∷ more) until none;
          ungranted = none;
        } in
        inr (omega (arith, short w within wait, length-take limit (first ∷ more))))

  bounded_waits : BoundedWaiting k
  bounded_waits s serves = record {
    holds = short s serves;
    least = λ limit claim. least s serves limit (λ l. longest_wait k f s serves limit l claim);
  }

  twice : NotTwice k
  twice = record {
    holds = λ s w waiting wait v. omega (arith, (once s w waiting wait) v);
    least = other_once k f;
  }
    where
      once : (s : State) (w : ℕ) (waiting : List Made) → WaitOf k s w waiting → (v : ℕ) → count (granted v) waiting < 2
      once s w [] wait v = omega arith
      once s w (m ∷ ms) wait v =
          let test = picks_of s.picks k.is in
          let of = picks_rule k f s.picks in
          let first = (wait_follows test of s w (m ∷ ms) wait).1.0 in
          let some : 0 < s.width = omega (arith, first.ruled.allows.some, ap (λ (g : State). g.width) first.given) in
          omega (arith, (bounded test of s w (m ∷ ms) some wait).once v)

  timely : GrantedInTime k
  timely s serves = record {
    holds = in_time s serves _ (omega arith);
    least = λ limit claim. least s serves limit (λ l. no_sooner k f s serves limit l claim);
  }

-- a wait in a list of calls with one pick count is one in a list of calls with any
module _ (s : State) (m : ℕ) where
  any_pass : (steps : List Step) → Each (picks_of m by_rule.is) steps → Each (any_picks by_rule.is) steps
  any_pass [] pass = tt
  any_pass (k ∷ ks) pass = ((ListsLaws.both _ _ pass.0).0, any_pass ks pass.1)

  any_wait : (w : ℕ) (waiting : List Made) → WaitOf by_rule (with_picks s m) w waiting → Wait (any_picks by_rule.is) s w waiting
  any_wait w waiting wait = record {
    steps = wait.steps;
    pass = any_pass wait.steps wait.pass;
    past = wait.past;
    rest = wait.rest;
    are = ap served (sym (run_picks s m wait.steps)) ∙ wait.are;
    asking = wait.asking;
    ungranted = wait.ungranted;
  }

pub picks_no_fewer : PicksNoFewer
picks_no_fewer s serves = record {
  holds = picks_bounded s (omega (arith, (rule_ruling.allows (with_picks s 1) serves).some));
  least = λ limit claim.
      ListsLaws.split (ltb limit s.width)
      (λ t.
      absurd (longest_wait by_rule rule_ruling (with_picks s 1) serves limit (omega (arith, ltb-true limit s.width t))
      (λ w waiting wait.
      let r = wait_follows (picks_of 1 by_rule.is) (picks_rule by_rule rule_ruling 1) (with_picks s 1) w waiting wait in
      omega (arith, (claim w waiting (any_wait s 1 w waiting wait)).short, fixed_total s.width 1 by_rule.is waiting r.0 r.1))))
      (λ f. omega (arith, ltb-false limit s.width f));
}

pub bounded_waiting : BoundedWaiting by_engines
bounded_waiting = bounded_waits by_engines engines_ruling

pub not_twice : NotTwice by_engines
not_twice = twice by_engines engines_ruling

pub granted_in_time : GrantedInTime by_engines
granted_in_time = timely by_engines engines_ruling

pub unserved_refused : UnservedRefused by_engines
unserved_refused = refused by_engines engines_ruling

pub mixed_bounded_waiting : BoundedWaiting by_rule
mixed_bounded_waiting = bounded_waits by_rule rule_ruling

pub mixed_not_twice : NotTwice by_rule
mixed_not_twice = twice by_rule rule_ruling

pub mixed_granted_in_time : GrantedInTime by_rule
mixed_granted_in_time = timely by_rule rule_ruling

pub mixed_unserved_refused : UnservedRefused by_rule
mixed_unserved_refused = refused by_rule rule_ruling

pub packed_bounded_waiting : BoundedWaiting packed
packed_bounded_waiting = bounded_waits packed packed_ruling

pub packed_not_twice : NotTwice packed
packed_not_twice = twice packed packed_ruling

pub packed_granted_in_time : GrantedInTime packed
packed_granted_in_time = timely packed packed_ruling

pub packed_unserved_refused : UnservedRefused packed
packed_unserved_refused = refused packed packed_ruling

pub backlog_bounded_waiting : BoundedWaiting with_messages
backlog_bounded_waiting = bounded_waits with_messages messages_ruling

pub backlog_not_twice : NotTwice with_messages
backlog_not_twice = twice with_messages messages_ruling

pub backlog_unserved_refused : UnservedRefused with_messages
backlog_unserved_refused = refused with_messages messages_ruling

pub one_least_of_any : OneLeastOfAny
one_least_of_any claim j k a b = omega (arith, a.least k b.holds, b.least j a.holds)

pub one_least : OneLeast
one_least test = one_least_of_any (λ n. test n ≡ true)

-- a list of bus calls from the state s
module _ (s : State) (w : ℕ) where
  -- how many stand before w, from a head that is the token
  distance : Head → ℕ
  distance h = length (before w (order s.width (Some (start h))))

  -- more acknowledged cycles than stations before w: one of them grants w
  acknowledged_grant : (ms : List Made) (h : Head) → Chain (BusRight s) (next_token s) h ms → Each (asks w) ms
      → distance h < count acknowledged ms
      → 0 < count (λ m. acknowledged m && granted w m) ms
  unfolding distance
  acknowledged_grant [] h chain asking more = absurd (omega arith)
  acknowledged_grant (m ∷ ms) h chain asking more =
      let n = s.width in
      let t = start h in
      let r = chain.0.ruled in
      let station = asking_station m.requests n w r.asked asking.0 in
      let k = next_token s h m in
      let at : distance k ≡ length (before w (order n (Some (BusRule.next n t (acknowledged m) (λ v. asks v m))))) =
      ap (λ (u : ℕ). length (before w (order n (Some u)))) (RoundRobinLaws.start_at _) in
      ListsLaws.split (acknowledged m)
      (λ a.
      ListsLaws.split (granted w m)
      (λ g. rw (a, g) (omega arith))
      (λ g.
      let other : eqb w t ≡ false = not_at_token g in
      rw (a, g)
      (omega (
        arith,
        acknowledged_grant ms k chain.1 asking.1
            (omega (arith, at ∙ ap (λ (b : Bool). length (before w (order n (Some (BusRule.next n t b (λ v. asks v m)))))) a, bus_nearer n t w (λ v. asks v m) r.token station asking.0 other, ap bit a)),
      ))))
      (λ a.
      let stays : BusRule.next n t (acknowledged m) (λ v. asks v m) ≡ t = rw a (BusLaws.next_unacknowledged n t (λ v. asks v m)) in
      rw a
      (omega (
        arith,
        acknowledged_grant ms k chain.1 asking.1
            (omega (arith, at, ap (λ (u : ℕ). length (before w (order n (Some u)))) stays, ap bit a)),
      )))
    where
      not_at_token : granted w m ≡ false → eqb w (start h) ≡ false
      not_at_token g =
          ListsLaws.split (eqb w (start h))
          (λ i.
          let q : w ≡ start h = eqb-true w (start h) i in
          let first : get_or m.grants w 0 ≡ 1 =
          rw (chain.0.ruled.grants, q) (BusLaws.grants_token s.width (start h) (λ v. asks v m) chain.0.ruled.token (rw q at asking.0)) in
          absurd (true≢false (sym (eq-eqb _ 1 first) ∙ g)))
          (λ i. i)

-- a state that the bus serves
module _ (s : State) (opens : on_bus.Serves s) where
  bus_granted : (exactly : ℕ) → s.width ≤ exactly → GrantedAcknowledged s exactly
  unfolding distance
  bus_granted exactly enough steps w past asking rest pass are each counted =
      let r = resumed (BusRight s) (next_token s) past asking rest s.head (rw are at (bus_cycles s steps pass)) in
      one asking r.0 r.1 each (omega (arith, counted))
    where
      one : (ms : List Made) (h : Head) → Chain (BusRight s) (next_token s) h ms → Each (asks w) ms
          → s.width ≤ count acknowledged ms → 0 < count (λ m. acknowledged m && granted w m) ms
      one [] h chain each all =
          let a = BusCallsLaws.allowed s (opened_passed _ s opens) in
          absurd (omega (arith, a.station))
      one (m ∷ ms) h chain each all =
          let r = chain.0.ruled in
          let station = asking_station m.requests s.width w r.asked each.0 in
          let head = BusLaws.token_head s.width (start h) r.token in
          acknowledged_grant s w (m ∷ ms) h chain each
          (omega (arith, RoundRobinLaws.before_length s.width (Some (start h)) w (omega arith) station))

  bus_least : (exactly : ℕ) → GrantedAcknowledged s exactly → s.width ≤ exactly
  bus_least exactly claim =
      ListsLaws.split (ltb exactly s.width)
      (λ t. absurd (bus_no_sooner s opens exactly (ltb-true exactly s.width t) claim))
      (λ f. omega (arith, ltb-false exactly s.width f))

pub bus_bounded_waiting : BusBoundedWaiting
bus_bounded_waiting s opens = record {
  holds = bus_granted s opens _ (omega arith);
  least = bus_least s opens;
}

pub bus_unserved_refused : UnservedRefused on_bus
bus_unserved_refused s steps pass none =
    chain_empty (BusRight s) (next_token s) s.head (λ m r. none (passed_opened _ s r.ruled.passed)) (served (run s steps)) (bus_cycles s steps pass)
