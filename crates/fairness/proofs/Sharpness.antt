-- No smaller bound would do. All stations ask in each of several served cycles that follow one another; the station that stands last in
-- the order waits as long as can be.
-- Assumes nothing.
use Prim.Native.Nat.{ℕ, zero, suc, ◌+◌, ◌-◌, ◌*◌, ◌≤◌, ◌<◌}
use mathlib.Core.Path.{◌≡◌, refl, sym, ap, ◌∙◌}
use mathlib.Core.Bool.{Bool, true, false, ◌&&◌}
use mathlib.Core.List.{List, [], ◌∷◌, append-nil}
use mathlib.Core.Logic.{◌⊎◌, ⊎_elim}
use native.Mathlib.Omega.{arith}
use native.Mathlib.Nat.{le-mul_of_pos_right}
use lib.Dec.{ltb, eqb}
use lib.ListN.{length, get_or, take, replicate, length-append, length-replicate, get_or-replicate}
use borrow.Author.Tests.{ltb-true, ltb-false, lt-ltb, le-ltb, eqb-true, eq-eqb}
use Rattle.std.proofs.lemmas.List.{take_all}
use Rattle.std.specs.Prelude.{None, Some}
use Rattle.rules.specs.Head.{Head}
use Rattle.rules.specs.Lists.{range, count, member, before}
use Rattle.rules.specs.Lists.Laws as ListsLaws
use Rattle.rules.specs.RoundRobin.{start, order, granted}
use Rattle.rules.proofs.RoundRobin.Laws as RoundRobinLaws
use Rattle.rules.specs.Bus as BusRule
use Rattle.rules.proofs.Bus.Laws as BusLaws
use Rattle.arbiter.specs.declared.State.{State}
use Rattle.search.specs.Places.{Bits}
use Rattle.arbiter.specs.Questions.{passed}
use Rattle.arbiter.specs.Questions.Laws.{Allowed}
use Rattle.arbiter.specs.Answers as Answers
use Rattle.arbiter.specs.Answers.{moved, number}
use Rattle.arbiter.specs.Answers.Laws.{opened_passed}
use Rattle.token_bus.specs.Calls as BusCalls
use Rattle.token_bus.specs.Calls.Laws as BusCallsLaws
use Rattle.calls.specs.Calls as Calls
use Rattle.calls.specs.Calls.{Cycle, bus_cycle, Call, cycle, Made, ran, Step, run, was_served, served, asks, Each}
use Rattle.calls.proofs.EveryCall as EveryCall
use Rattle.fairness.specs.Cycles.{Chain}
use Rattle.fairness.specs.Kinds.{Kind, by_rule, on_bus, picks_of}
use Rattle.fairness.specs.Waiting.{Of, WaitOf, Shorter, GrantedFewer, AsksUntilGranted, GrantedWithin, acknowledged, GrantedAcknowledged}
use Rattle.fairness.proofs.Cycles.{all_front, all_nearer, bus_nearer}
use Rattle.fairness.proofs.Calls.{OfRule, Right, head_after, cycles, read_ruled, fixed_picks, BusRight, next_token, bus_cycles}

-- all of n stations ask
module _ (n : ℕ) where
  abbrev pub ones : List ℕ
  ones = replicate n 1

  abbrev pub everyone : ℕ → Bool
  everyone w = eqb (get_or ones w 0) 1

  pub asks_all : (w : ℕ) → w < n → everyone w ≡ true
  asks_all w l = rw (get_or-replicate {A = ℕ} n w 1 0 l)

  pub ones_bits : Bits ones
  ones_bits i l = omega (arith, get_or-replicate {A = ℕ} n i 1 0 (omega (arith, length-replicate {A = ℕ} n 1)))

  counted : (a k : ℕ) → a + k ≤ n → count everyone (range a k) ≡ k
  counted a zero l = refl
  counted a (suc k) l = rw (asks_all a (omega arith)) (omega (arith, counted (suc a) k (omega arith)))

  pub order_asks : (h : Head) → start h ≤ n → count everyone (order n h) ≡ n
  order_asks h l = RoundRobinLaws.order_count n h everyone l ∙ counted 0 n (omega arith)

  -- so all before a station ask
  before_asks : (h : Head) (w : ℕ) → start h ≤ n → w < n → count everyone (before w (order n h)) ≡ length (before w (order n h))
  before_asks h w l station =
      let r = ListsLaws.before_split w (order n h) (RoundRobinLaws.order_member n h w l station) in
      all_front everyone (before w (order n h)) (w ∷ r.0) (rw (← r.1) (order_asks h l ∙ sym (RoundRobinLaws.order_length n h l)))

-- the station that stands last in the order: all others are before it
pub last_station : (n : ℕ) (h : Head) → start h < n → (w : ℕ) × (w < n) × (length (before w (order n h)) ≡ n - 1)
last_station n h l =
    ListsLaws.split (ltb 0 (start h))
    (λ t.
    let below : start h - 1 < start h = omega (arith, ltb-true 0 (start h) t) in (
      start h - 1,
      omega arith,
      rw (RoundRobinLaws.before_low n h (start h - 1) below)
          (omega (
            arith,
            length-append (range (start h) (n - start h)) (range 0 (start h - 1)),
            ListsLaws.length_range (start h) (n - start h),
            ListsLaws.length_range 0 (start h - 1),
          )),
    ))
    (λ f.
    let zero : start h ≡ 0 = omega (arith, ltb-false 0 (start h) f) in (
      n - 1,
      omega arith,
      rw (RoundRobinLaws.before_high n h (n - 1) (omega arith) (omega arith)) (omega (arith, ListsLaws.length_range (start h) (n - 1 - start h))),
    ))

-- what holds of each of a list
abbrev pub All : (Made → Type 0) → List Made → Type 0
All P [] = Unit {0}
All P (m ∷ ms) = P m × All P ms

-- all stations ask in it
abbrev pub Full : ℕ → Made → Type 0
Full n m = m.requests ≡ ones n

-- the same call again and again from the state s
module _ (s : State) (c : Cycle) where
  abbrev repeated : ℕ → List Step
  repeated k = replicate k (record { picks = s.picks; call = cycle c })

  repeated_pass : (is : Call → Bool) → is (cycle c) ≡ true → (k : ℕ) → Each (picks_of s.picks is) (repeated k)
  repeated_pass is t zero = tt
  repeated_pass is t (suc k) = (rw t (eq-eqb s.picks s.picks refl), repeated_pass is t k)

-- all of them are served: `good` is what is known of a head before such a call, `P` of the call, made
module _ (s : State) (c : Cycle) (good : Head → Type 0) (P : Made → Type 0) (each : (h : Head) → P (ran (moved s h) c))
    (serves : (h : Head) → good h → number (ran (moved s h) c).answer ≡ 0)
    (moves : (h : Head) (k : ℕ) → good h → k < s.width → good (Some k)) where
  all_served : (k : ℕ) (h : Head) → good h → let ms = served (run (moved s h) (repeated s c k)) in (length ms ≡ k) × All P ms
  all_served zero h g = (refl, tt)
  all_served (suc k) h g =
      let q = moved s h in
      let m = ran q c in
      let z = serves h g in
      let is = EveryCall.ran_is q c in
      let to = EveryCall.head_after q c z in
      let below : to.0 < s.width = omega (arith, to.1, ap (λ (g : State). g.width) is.1) in
      let next : m.answer.state ≡ moved s (Some to.0) = to.2 ∙ ap (λ (g : State). moved g (Some to.0)) is.1 in
      let rest = all_served k (Some to.0) (moves h to.0 g below) in
      let here : was_served m ≡ true = rw (is.0, eq-eqb _ 0 z) refl in
      rw (here, next) (ap suc rest.0, (each h, rest.1))

-- a list of a kind, with so many served cycles, in each of which all stations ask
pub record AllAsking (k : Kind) (s : State) (size : ℕ) : Type 0 where
  pub steps : List Step
  pub pass : Of k s steps
  pub long : length (served (run s steps)) ≡ size
  pub full : All (Full s.width) (served (run s steps))

-- a call of the kind in which all ask, and which is served whatever the head: it is made again and again
pub all_asking : (k : Kind) (s : State) (c : Cycle) → k.is (cycle c) ≡ true → ((h : Head) → Full s.width (ran (moved s h) c))
    → ((h : Head) → start h < s.width → number (ran (moved s h) c).answer ≡ 0) → start s.head < s.width → (size : ℕ) → AllAsking k s size
all_asking k s c is full serves first size =
    let all =
    all_served s c (λ h. start h < s.width) (Full s.width) full serves (λ h w g l. omega (arith, l, RoundRobinLaws.start_at w)) size s.head first in
    record { steps = repeated s c size; pass = repeated_pass s c k.is is size; long = all.0; full = all.1 }

-- what is known of a kind whose cycles grant by the round-robin rule
pub record Ruling (k : Kind) : Type 0 where
  pub ruled : (c : Call) → k.is c ≡ true → by_rule.is c ≡ true
  pub allows : (s : State) → k.Serves s → Allowed s
  pub serves : (s : State) (c : Cycle) → k.is (cycle c) ≡ true → number (ran s c).answer ≡ 0 → k.Serves s
  pub asking : (s : State) → k.Serves s → (size : ℕ) → size ≤ s.width → AllAsking k s size
  pub pair : k.Serves (Answers.made 2 1 None)

-- so only calls of the rule's kind are of it
pub picks_rule : (k : Kind) → Ruling k → (p : ℕ) → OfRule (picks_of p k.is)
picks_rule k f p step t = f.ruled step.call (ListsLaws.both _ _ t).0

-- the station w of n asks in each of them
all_ask : (n w : ℕ) → w < n → (ms : List Made) → All (Full n) ms → Each (asks w) ms
all_ask n w station [] full = tt
all_ask n w station (m ∷ ms) full = (rw full.0 (asks_all n w station), all_ask n w station ms full.1)

-- it is passed by, while as many others as are picked, or more, stand before it
module _ (n p : ℕ) (is : Call → Bool) (w : ℕ) (station : w < n) where
  abbrev far : Head → ℕ
  far h = length (before w (order n h))

  passes : (h : Head) (m : Made) → Right n (picks_of p is) h m → Full n m → p ≤ far h
      → (Calls.granted w m ≡ false) × (p + far (head_after n h m) ≡ far h)
  passes h m right full l =
      let r = read_ruled right in
      let picks = fixed_picks is right in
      let out : member w (granted n p h (everyone n)) ≡ false =
      RoundRobinLaws.granted_member n p h (everyone n) w (omega (arith, r.head)) station
      ∙ rw (asks_all n w station, before_asks n h w (omega (arith, r.head)) station, le-ltb (far h) p l) in
      let some : 0 < p = omega (arith, r.some, picks) in
      rw (picks, full) (
        rw (picks, full) at (r.granted w) ∙ out,
        all_nearer n p h (everyone n) w some r.head station (asks_all n w station) out (order_asks n h (omega (arith, r.head))),
      )

  all_pass : (k : ℕ) (ms : List Made) (h : Head) → Chain (Right n (picks_of p is)) (head_after n) h ms → All (Full n) ms
      → k * p ≤ far h → count (Calls.granted w) (take k ms) ≡ 0
  all_pass zero ms h chain full l = refl
  all_pass (suc k) [] h chain full l = refl
  all_pass (suc k) (m ∷ ms) h chain full l =
      let r = passes h m chain.0 full.0 (omega arith) in
      rw r.0 (omega (arith, all_pass k ms (head_after n h m) chain.1 full.1 (omega (arith, r.1))))

-- the first station of the order is granted in the first of them
first_granted : (n p : ℕ) (is : Call → Bool) (h : Head) (ms : List Made) → length ms ≡ 1
    → Chain (Right n (picks_of p is)) (head_after n) h ms
    → All (Full n) ms
    → count (Calls.granted (start h)) ms ≡ 1
first_granted n p is h [] long chain full = absurd (omega (arith, long))
first_granted n p is h (m ∷ k ∷ ms) long chain full = absurd (omega (arith, long))
first_granted n p is h (m ∷ []) long chain full =
    let r = read_ruled chain.0 in
    let granting : Calls.granted (start h) m ≡ true =
    rw full.0 at (r.granted (start h))
    ∙ RoundRobinLaws.granted_member n m.given.picks h (everyone n) (start h) (omega (arith, r.head)) r.head
    ∙ rw (asks_all n (start h) r.head, RoundRobinLaws.before_first n h r.head, lt-ltb 0 m.given.picks r.some) in
    rw granting refl

-- one cycle more than so many, of which the first grant w never: it is not granted within so many
pub unmet : (w size : ℕ) (ms : List Made) → length ms ≡ suc size → count (Calls.granted w) (take size ms) ≡ 0
    → ((m : Made) (rest : List Made) → ms ≡ m ∷ rest → (0 < count (Calls.granted w) (take size (m ∷ rest))) ⊎ (length (m ∷ rest) < size))
    → ⊥
unmet w size [] long none claim = omega (arith, long)
unmet w size (m ∷ ms) long none claim =
    ⊎_elim
    (λ some. omega (arith, none, some))
    (λ few. omega (arith, few, long))
    (claim m ms refl)

-- a list of a kind from a state that it serves
module _ (k : Kind) (f : Ruling k) (s : State) (serves : k.Serves s) where
  -- so many cycles that make fewer than N picks are fewer than the stations
  pub few : (size : ℕ) → size * s.picks < s.width → size < s.width
  few size l = omega (arith, l, le-mul_of_pos_right size (f.allows s serves).picked)

  -- the station that stands last in the order
  pub last : (w : ℕ) × (w < s.width) × (length (before w (order s.width s.head)) ≡ s.width - 1)
  last = last_station s.width s.head (f.allows s serves).station

  module _ (size : ℕ) (a : AllAsking k s size) where
    abbrev waits : List Made
    waits = served (run s a.steps)

    follow : Chain (Right s.width (picks_of s.picks k.is)) (head_after s.width) s.head waits
    follow = cycles (picks_of s.picks k.is) (picks_rule k f s.picks) s a.steps a.pass

    -- it is granted in none of the first that make fewer than N picks
    pub last_passed : (j : ℕ) → j * s.picks < s.width → count (Calls.granted last.0) (take j waits) ≡ 0
    last_passed j l = all_pass s.width s.picks k.is last.0 last.1 j waits s.head follow a.full (omega (arith, last.2))

    pub waits_ask : Each (asks last.0) waits
    waits_ask = all_ask s.width last.0 last.1 waits a.full

    -- so it waits
    pub waits_wait : size * s.picks < s.width → WaitOf k s last.0 waits
    waits_wait l = record {
      steps = a.steps;
      pass = a.pass;
      past = [];
      rest = [];
      are = sym (append-nil waits);
      asking = waits_ask;
      ungranted = ap (count (Calls.granted last.0)) (sym (take_all size waits (omega (arith, a.long)))) ∙ last_passed size l;
    }

    pub first_once : size ≡ 1 → count (Calls.granted (start s.head)) waits ≡ 1
    first_once e = first_granted s.width s.picks k.is s.head waits (a.long ∙ e) follow a.full

  -- so not all waits are shorter
  pub longest_wait : (size : ℕ) → size * s.picks < s.width → Shorter k s size → ⊥
  longest_wait size l claim =
      let a = f.asking s serves size (omega (arith, few size l)) in
      omega (arith, claim last.0 (waits size a) (waits_wait size a l), a.long)

  -- in so many cycles a station that keeps asking may not be granted
  pub no_sooner : (size : ℕ) → size * s.picks < s.width → GrantedWithin k s size → ⊥
  no_sooner size l claim =
      let a = f.asking s serves (suc size) (omega (arith, few size l)) in
      let w = last.0 in
      unmet w size (waits (suc size) a) a.long (last_passed (suc size) a size l)
      (λ m ms e. claim a.steps w [] m ms a.pass e (until w (m ∷ ms) (rw e at (waits_ask (suc size) a))))
    where
      until : (w : ℕ) (ms : List Made) → Each (asks w) ms → AsksUntilGranted w ms
      until w [] each = tt
      until w (m ∷ ms) each = (each.0, λ _. until w ms each.1)

-- two stations, one pick: one waits while the other is granted
pub other_once : (k : Kind) → Ruling k → (times : ℕ) → GrantedFewer k times → 2 ≤ times
other_once k f times claim =
    let s = Answers.made 2 1 None in
    let a = f.asking s f.pair 1 (omega arith) in
    let w = last k f s f.pair in
    omega (
      arith,
      claim s w.0 (waits k f s f.pair 1 a) (waits_wait k f s f.pair 1 a (omega arith)) (start None),
      first_once k f s f.pair 1 a refl,
    )

-- the bus
module _ (s : State) (opens : on_bus.Serves s) where
  -- the call that is made again and again
  abbrev ring : Cycle
  ring = bus_cycle (ones s.width) (replicate s.width 0) 1

  -- a head that is a token
  abbrev token : Head → Type 0
  token h = BusCalls.state_questions (moved s h) ≡ passed

  first_token : token s.head
  first_token = opened_passed _ s opens

  -- all ask in it, and it is acknowledged
  abbrev Rung : Made → Type 0
  Rung m = Full s.width m × (acknowledged m ≡ true)

  ring_serves : (h : Head) → token h → number (ran (moved s h) ring).answer ≡ 0
  ring_serves h g =
      let n = s.width in
      BusCallsLaws.serves (moved s h) (ones n) (replicate n 0) 1 g
      (length-replicate {A = ℕ} n 1) (length-replicate {A = ℕ} n 0) (ones_bits n) (omega arith)

  token_passes : (h : Head) (k : ℕ) → token h → k < s.width → token (Some k)
  token_passes h k g l = BusCallsLaws.token_moves (moved s h) k g l

  abbrev rings : ℕ → List Step
  rings k = repeated s ring k

  rings_pass : (k : ℕ) → Of on_bus s (rings k)
  rings_pass k = repeated_pass s ring on_bus.is refl k

  all_rung : (k : ℕ) → let ms = served (run s (rings k)) in (length ms ≡ k) × All Rung ms
  all_rung k = all_served s ring token Rung (λ h. (refl, refl)) ring_serves token_passes k s.head first_token

  -- they are acknowledged
  count_rung : (ms : List Made) → All Rung ms → count acknowledged ms ≡ length ms
  count_rung [] all = refl
  count_rung (m ∷ ms) all = rw all.0.1 (omega (arith, count_rung ms all.1))

  -- and all ask in them
  rung_full : (ms : List Made) → All Rung ms → All (Full s.width) ms
  rung_full [] all = tt
  rung_full (m ∷ ms) all = (all.0.0, rung_full ms all.1)

  module _ (w : ℕ) (station : w < s.width) where
    abbrev bus_far : Head → ℕ
    bus_far h = length (before w (order s.width (Some (start h))))

    -- a cycle that grants another
    passed_by : (h : Head) (m : Made) → BusRight s h m → Rung m → 1 ≤ bus_far h → Calls.granted w m ≡ false
    unfolding BusRule.granted
    passed_by h m right rung l =
        let n = s.width in
        let t = start h in
        let r = right.ruled in
        let head = BusLaws.token_head n t r.token in
        let out : member w (granted n 1 (Some t) (everyone n)) ≡ false =
        RoundRobinLaws.granted_member n 1 (Some t) (everyone n) w (omega arith) station
        ∙ rw (asks_all n w station, before_asks n (Some t) w (omega arith) station, le-ltb (bus_far h) 1 l) in
        rw (r.grants, rung.0, BusLaws.grants_member n t (everyone n) w station, out)

    -- the token moves one on
    bus_closer : (h : Head) (m : Made) → BusRight s h m → Rung m → 1 ≤ bus_far h → 1 + bus_far (next_token s h m) ≡ bus_far h
    bus_closer h m right rung l =
        let n = s.width in
        let t = start h in
        let r = right.ruled in
        let head = BusLaws.token_head n t r.token in
        let first : before t (order n (Some t)) ≡ [] = rw (RoundRobinLaws.start_at t) at (RoundRobinLaws.before_first n (Some t) head) in
        let other : eqb w t ≡ false =
        ListsLaws.split (eqb w t)
        (λ e. absurd (omega (arith, ap (λ (v : ℕ). length (before v (order n (Some t)))) (eqb-true w t e), ap length first)))
        (λ f. f) in
        rw (rung.1, rung.0)
        (omega (
          arith,
          ap (λ (u : ℕ). length (before w (order n (Some u)))) (RoundRobinLaws.start_at (BusRule.next n t true (everyone n))),
          bus_nearer n t w (everyone n) r.token station (asks_all n w station) other,
        ))

    all_passed : (ms : List Made) (h : Head) → Chain (BusRight s) (next_token s) h ms → All Rung ms → length ms ≤ bus_far h
        → count (λ m. acknowledged m && Calls.granted w m) ms ≡ 0
    all_passed [] h chain all l = refl
    all_passed (m ∷ ms) h chain all l =
        let some : 1 ≤ bus_far h = omega arith in
        rw (all.0.1, passed_by h m chain.0 all.0 some)
        (omega (
          arith,
          all_passed ms (next_token s h m) chain.1 all.1 (omega (arith, bus_closer h m chain.0 all.0 some)),
        ))

  -- with so many acknowledged cycles a station that keeps asking may not be granted
  pub bus_no_sooner : (k : ℕ) → k < s.width → GrantedAcknowledged s k → ⊥
  bus_no_sooner k l claim =
      let n = s.width in
      let t = (BusCallsLaws.allowed s first_token).station in
      let r = last_station n (Some (start s.head)) (BusLaws.token_head n (start s.head) t) in
      let ms = served (run s (rings k)) in
      let all = all_rung k in
      omega (
        arith,
        claim (rings k) r.0 [] ms [] (rings_pass k) (sym (append-nil ms))
            (all_ask n r.0 r.1 ms (rung_full ms all.1))
            (count_rung ms all.1 ∙ all.0),
        all_passed r.0 r.1 ms s.head (bus_cycles s (rings k) (rings_pass k)) all.1 (omega (arith, r.2, all.0)),
      )
