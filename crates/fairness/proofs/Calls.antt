-- What is known of the calls of a list: of a served cycle, that its grants and its next head are the rule's; of a refused one and of a call
-- that writes what the state holds, that the state stays.
-- Assumes nothing.
use Prim.Native.Nat.{ℕ, ◌*◌}
use mathlib.Core.Path.{◌≡◌, refl, sym, ap, ◌∙◌}
use mathlib.Core.Bool.{Bool, true, false, cond, true≢false}
use mathlib.Core.List.{List, [], ◌∷◌, map}
use mathlib.Core.Logic.{◌⊎◌, inl, inr, ⊎_elim}
use native.Mathlib.Omega.{arith}
use lib.ListN.{length}
use lib.Dec.{eqb}
use borrow.Author.Tests.{eqb-true, eqb-false}
use Rattle.std.proofs.lemmas.List.Sums.{sum_by-cons}
use Rattle.std.specs.Prelude.{Some, Ok, Err}
use Rattle.std.specs.List.{sum_by}
use Rattle.rules.specs.Head.{Head}
use Rattle.rules.specs.Lists.{member}
use Rattle.rules.specs.Lists.Laws as ListsLaws
use Rattle.rules.specs.RoundRobin.{start, granted, next}
use Rattle.rules.specs.Bus as BusRule
use Rattle.arbiter.specs.declared.Answer.{Answer}
use Rattle.arbiter.specs.declared.Granted.{Granted}
use Rattle.arbiter.specs.declared.State.{State}
use Rattle.arbiter.specs.Answers as Answers
use Rattle.arbiter.specs.Answers.{number, with_picks}
use Rattle.arbiter.specs.Questions.{Verdict}
use Rattle.engines.specs.Calls.Laws.{Served, rule_grants, engine_served}
use Rattle.token_bus.specs.Calls.Laws as BusCallsLaws
use Rattle.backlog.specs.Calls.Laws.{backlog_served}
use Rattle.calls.specs.Calls.{Cycle, engine_cycle, bus_cycle, packed_cycle, backlog_cycle, Call, cycle, image_write, snapshot_write, cycle_that, Made, ran, made, Step, run, was_served, served, asks, Each}
use Rattle.calls.specs.Calls as Calls
use Rattle.calls.proofs.EveryCall.{as_scan, ran_is, state_kept}
use Rattle.fairness.specs.Cycles as RuleCycles
use Rattle.fairness.specs.Cycles.{Ruled, next_head, Chain, Follows, total}
use Rattle.fairness.specs.Kinds.{writes_state, among, has_bus, grants_by_rule, by_rule, on_bus, picks_of}
use Rattle.fairness.specs.Waiting.{acknowledged}

-- one more is kept, or is not
kept : {H C : Type 0} (right : H → C → Type 0) (next : H → C → H) (h : H) (c : C) (cs : List C) (keep : Bool)
    → (keep ≡ true → right h c × Chain right next (next h c) cs)
    → (keep ≡ false → Chain right next h cs)
    → Chain right next h (cond keep (c ∷ cs) cs)
kept right next h c cs true f g = f refl
kept right next h c cs false f g = g refl

-- writing what the state holds keeps it, refused or not
kept_state : (v : Verdict) (s : State) (target former : List ℕ) → (Answers.writes v s (Answers.served s) target former).answer.state ≡ s
kept_state (Ok _) s target former = refl
kept_state (Err refusal) s target former = refl

-- a list gives each of its calls a pick count, so that of the state before does not matter
pub run_picks : (s : State) (m : ℕ) (steps : List Step) → run (with_picks s m) steps ≡ run s steps
run_picks s m [] = refl
run_picks s m (k ∷ ks) = refl

-- a call is a cycle, or writes what the state holds
abbrev CycleOrWrite : Call → Type 0
CycleOrWrite c = ((k : Cycle) × (c ≡ cycle k)) ⊎ (writes_state c ≡ true)

-- those of a kind are
pub cycle_or_write : (test : Cycle → Bool) (c : Call) → among test c ≡ true → CycleOrWrite c
cycle_or_write test (cycle k) t = inl (k, refl)
cycle_or_write test (image_write former) t = inr refl
cycle_or_write test (snapshot_write former) t = inr refl
cycle_or_write test _ t = absurd (true≢false (sym t))

-- they are of every kind whose test follows from this one
pub weaker : (a b : Cycle → Bool) → ((c : Cycle) → a c ≡ true → b c ≡ true) → (c : Call) → among a c ≡ true → among b c ≡ true
weaker a b then (cycle k) t = then k t
weaker a b then (image_write former) t = refl
weaker a b then (snapshot_write former) t = refl
weaker a b then _ t = absurd (true≢false (sym t))

-- a call that writes what the state holds returns that state, and is no cycle
pub write_kept : (s : State) (c : Call) → writes_state c ≡ true → let m = made s c in (m.answer.state ≡ s) × (was_served m ≡ false)
write_kept s (image_write former) t = (kept_state _ s _ former, refl)
write_kept s (snapshot_write former) t = (kept_state _ s _ former, refl)
write_kept s _ t = absurd (true≢false (sym t))

-- the served cycles of a list follow one another: all its calls are cycles or write what the state holds, and `serves` is what is known of a
-- single cycle that is served
module _ (n : ℕ) (test : Step → Bool) (right : Head → Made → Type 0) (next : Head → Made → Head)
    (cycles : (k : Step) → test k ≡ true → CycleOrWrite k.call)
    (serves : (m : ℕ) (h : Head) (c : Cycle) → test (record { picks = m; call = cycle c }) ≡ true → let r = ran (Answers.made n m h) c in
    number r.answer ≡ 0 → right h r × (r.answer.state ≡ Answers.made n m (next h r))) where
  one : (m p : ℕ) (h : Head) (c : Cycle) (ks : List Step) → test (record { picks = m; call = cycle c }) ≡ true
      → ((q : ℕ) (k : Head) → Chain right next k (served (run (Answers.made n q k) ks)))
      → Chain right next h (served (run (Answers.made n p h) (record { picks = m; call = cycle c } ∷ ks)))
  one m p h c ks pass rest =
      let q = Answers.made n m h in
      let r = ran q c in
      kept right next h r _ (was_served r)
      (λ t. let s = serves m h c pass (eqb-true _ 0 (ListsLaws.both _ _ t).1) in (s.0, rw s.1 (rest m (next h r))))
      (λ f. rw (state_kept q c (eqb-false _ 0 (rw (ran_is q c).0 at f))) (rest m h))

  follows : (steps : List Step) (p : ℕ) (h : Head) → Each test steps → Chain right next h (served (run (Answers.made n p h) steps))
  follows [] p h pass = tt
  follows (k ∷ ks) p h pass =
      ⊎_elim
      (λ (c : (x : Cycle) × (k.call ≡ cycle x)).
      let same : k ≡ record { picks = k.picks; call = cycle c.0 } = ap (λ (d : Call). record { picks = k.picks; call = d }) c.1 in
      rw same (one k.picks p h c.0 ks (rw same at pass.0) (λ q k. follows ks q k pass.1)))
      (λ (w : writes_state k.call ≡ true). let kept = write_kept (Answers.made n k.picks h) k.call w in rw (kept.1, kept.0) (follows ks k.picks h pass.1))
      (cycles k pass.0)

-- served by the rule: an engine's cycle is, by what it promises; the packed scan's, by the plain scan's; and one with messages waiting, by
-- its engine's
pub rule_served : (s : State) (c : Cycle) → grants_by_rule c ≡ true → let r = ran s c in number r.answer ≡ 0 → Served s r.requests r.answer r.grants
rule_served s (engine_cycle e requests grants nodes) t z = engine_served e s requests grants nodes z
rule_served s (packed_cycle requests grants) t z = as_scan s requests grants z
rule_served s (backlog_cycle e arrivals waiting grants nodes) t z = backlog_served e s arrivals waiting grants nodes z
rule_served s (bus_cycle requests grants byte) t z = absurd (true≢false (sym t))

-- a served cycle of a list whose calls pass a test, with head h before it
pub record Right (n : ℕ) (test : Step → Bool) (h : Head) (m : Made) : Type 0 where
  pub by : Cycle
  pub pass : test (record { picks = m.given.picks; call = cycle by }) ≡ true
  pub given : m.given ≡ Answers.made n m.given.picks h
  pub made : m ≡ ran (Answers.made n m.given.picks h) by
  pub zero : number (ran (Answers.made n m.given.picks h) by).answer ≡ 0
  pub ruled : Served m.given m.requests m.answer m.grants

-- read as a cycle of the rule: its pick count, and who asks and who is granted by the bytes
abbrev pub read : Made → RuleCycles.RuleCycle
read m = record { picks = m.given.picks; asks = λ w. asks w m; grants = λ w. Calls.granted w m }

-- the head after it
abbrev pub head_after : ℕ → Head → Made → Head
head_after n h m = next_head n h (read m)

-- a test that only calls of the rule's kind pass
abbrev pub OfRule : (Step → Bool) → Type 0
OfRule test = (k : Step) → test k ≡ true → by_rule.is k.call ≡ true

-- the served cycles of a list by the rule follow one another
pub cycles : (test : Step → Bool) → OfRule test → (s : State) (steps : List Step) → Each test steps
    → Chain (Right s.width test) (head_after s.width) s.head (served (run s steps))
cycles test of s steps pass =
    follows s.width test (Right s.width test) (head_after s.width)
    (λ k t. cycle_or_write grants_by_rule k.call (of k t))
    (λ m h c t z.
    let q = Answers.made s.width m h in
    let is = ran_is q c in
    let o = ran q c in
    let r = rule_served q c (of (record { picks = m; call = cycle c }) t) z in (
      record {
        by = c;
        pass = rw is.1 t;
        given = is.1 ∙ ap (λ (g : State). Answers.made s.width g.picks h) (sym is.1);
        made = ap (λ (g : State). ran (Answers.made s.width g.picks h) c) (sym is.1);
        zero = rw is.1 z;
        ruled = rw is.1 r;
      },
      ap (λ (a : Answer Granted). a.state) r.answers
          ∙ ap (λ (g : State). Answers.made s.width m (next s.width g.picks h (λ w. asks w o))) (sym is.1),
    ))
    steps
    s.picks
    s.head
    pass

-- each is a cycle by the rule
pub read_ruled : {n : ℕ} {test : Step → Bool} {h : Head} {m : Made} → Right n test h m → Ruled n h (read m)
read_ruled {n} {test} {h} {m} r = record {
  some = r.ruled.allows.picked;
  head = omega (arith, r.ruled.allows.station, ap (λ (s : State). start s.head) r.given, ap (λ (s : State). s.width) r.given);
  granted = λ w. rule_grants r.ruled w ∙ ap (λ (s : State). member w (granted s.width s.picks s.head (λ v. asks v m))) r.given;
}

-- and they follow one another by the rule
pub read_follows : (n : ℕ) (test : Step → Bool) (h : Head) (ms : List Made) → Chain (Right n test) (head_after n) h ms
    → Follows n h (map read ms)
read_follows n test h [] chain = tt
read_follows n test h (m ∷ ms) chain = (read_ruled chain.0, read_follows n test (head_after n h m) ms chain.1)

-- the sum of their pick counts
pub read_total : (ms : List Made) → total (map read ms) ≡ sum_by (λ m. m.given.picks) ms
read_total [] = refl
read_total (m ∷ ms) = omega (arith, read_total ms, sum_by-cons (λ (m : Made). m.given.picks) m ms)

-- where all have one pick count
pub fixed_picks : (is : Call → Bool) {n p : ℕ} {h : Head} {m : Made} → Right n (picks_of p is) h m → m.given.picks ≡ p
fixed_picks is {n} {p} {h} {m} r = eqb-true m.given.picks p (ListsLaws.both (is (cycle r.by)) (eqb m.given.picks p) r.pass).1

pub fixed_total : (n p : ℕ) (is : Call → Bool) (ms : List Made) (h : Head) → Chain (Right n (picks_of p is)) (head_after n) h ms
    → sum_by (λ m. m.given.picks) ms ≡ length ms * p
fixed_total n p is [] h chain = omega arith
fixed_total n p is (m ∷ ms) h chain =
    omega (arith, fixed_total n p is ms (head_after n h m) chain.1, fixed_picks is chain.0, sum_by-cons (λ (m : Made). m.given.picks) m ms)

-- a served cycle of the bus, with the token before it in head h
pub record BusRight (s : State) (h : Head) (m : Made) : Type 0 where
  pub byte : ℕ
  pub acknowledges : acknowledged m ≡ BusRule.acknowledged byte
  pub ruled : BusCallsLaws.Served (Answers.moved s h) m.requests byte (record { answer = m.answer; written = m.grants })

-- the token after it, as a head
abbrev pub next_token : State → Head → Made → Head
next_token s h m = Some (BusRule.next s.width (start h) (acknowledged m) (λ w. asks w m))

pub bus_right : (s : State) (h : Head) (c : Cycle) → has_bus c ≡ true → let r = ran (Answers.moved s h) c in
    number r.answer ≡ 0 → BusRight s h r × (r.answer.state ≡ Answers.moved s (next_token s h r))
bus_right s h (bus_cycle requests grants byte) t z =
    let r = BusCallsLaws.cycle_served (Answers.moved s h) requests grants byte z in (
      record { byte = byte; acknowledges = refl; ruled = r },
      ap (λ (a : Answer Granted). a.state) r.answers,
    )
bus_right s h _ t z = absurd (true≢false (sym t))

-- the served cycles of a list on the bus follow the bus's rule
pub bus_cycles : (s : State) (steps : List Step) → Each (picks_of s.picks on_bus.is) steps
    → Chain (BusRight s) (next_token s) s.head (served (run s steps))
bus_cycles s steps pass =
    follows s.width (picks_of s.picks on_bus.is) (BusRight s) (next_token s)
    (λ k t. cycle_or_write has_bus k.call (ListsLaws.both _ _ t).0)
    (λ m h c t z.
    let b = ListsLaws.both _ _ t in
    let e : m ≡ s.picks = eqb-true m s.picks b.1 in
    rw e (bus_right s h c b.0 (rw e at z)))
    steps
    s.picks
    s.head
    pass
