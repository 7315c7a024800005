-- The kinds whose cycles grant by the round-robin rule: each serves what it says that it serves, and in a list of it all stations can ask
-- in each of several cycles.
-- Assumes nothing.
use Prim.Native.Nat.{ℕ, ◌*◌, ◌≤◌, ◌<◌}
use mathlib.Core.Path.{◌≡◌, refl, sym, ap, ◌∙◌}
use mathlib.Core.Bool.{true, true≢false}
use mathlib.Core.List.{List, []}
use native.Mathlib.Omega.{arith}
use lib.Dec.{ltb}
use lib.ListN.{length, get_or, replicate, length-replicate, get_or-replicate, get_or-eq_default}
use borrow.Author.Tests.{ltb-true, ltb-false}
use Rattle.rules.specs.Head.{Head}
use Rattle.rules.specs.Lists.Laws as ListsLaws
use Rattle.rules.specs.Packing.{packed_length, pack, unpack}
use Rattle.rules.proofs.Packing.Laws as PackingLaws
use Rattle.rules.specs.RoundRobin.{start}
use Rattle.arbiter.specs.declared.Granted.{Granted}
use Rattle.arbiter.specs.declared.State.{State}
use Rattle.arbiter.specs.Cycle as RoundRobinCalls
use Rattle.arbiter.specs.Questions as Questions
use Rattle.arbiter.specs.Questions.{◌then◌}
use Rattle.arbiter.specs.Questions.Laws.{Allowed, then_served}
use Rattle.arbiter.specs.Answers.{Effect, moved, number}
use Rattle.arbiter.specs.Answers.Laws.{writes_passed, opened_passed, passed_opened}
use Rattle.packed_scan.specs.Calls as PackedCalls
use Rattle.packed_scan.specs.Calls.Laws as PackedCallsLaws
use Rattle.packed_scan.proofs.AsScan.{served_packed}
use Rattle.engines.specs.declared.Engine.{Engine}
use Rattle.engines.specs.declared.Engine.TheVariants.{Scan}
use Rattle.engines.specs.Calls.Laws.{engine_opens, engine_serves, nodes_fit, opens_allowed}
use Rattle.calls.specs.Calls.{Cycle, engine_cycle, packed_cycle, backlog_cycle, cycle, ran}
use Rattle.calls.specs.Messages.{has_messages}
use Rattle.fairness.specs.Kinds.{Kind, has_engine, has_packed, grants_by_rule, EngineServes, SomeServes, by_engines, with_messages, packed, by_rule}
use Rattle.fairness.proofs.Calls.{weaker, rule_served}
use Rattle.fairness.proofs.Sharpness.{ones, ones_bits, AllAsking, all_asking, Ruling}
use Rattle.fairness.proofs.Fillings.{filled, filled_pass, filled_served}

-- what some engine serves is allowed
some_allowed : (s : State) → SomeServes s → Allowed s
some_allowed s o = opens_allowed o.0 s o.1

-- and where a cycle of the rule is served, the scan serves the state
some_serves : (s : State) (c : Cycle) → grants_by_rule c ≡ true → number (ran s c).answer ≡ 0 → SomeServes s
some_serves s c t z = (Scan, engine_opens s (rule_served s c t z).allows)

-- an engine that serves the state: the same call of it again and again
module _ (s : State) (e : Engine) (opens : EngineServes e s) where
  abbrev call : Cycle
  call = engine_cycle e (ones s.width) (replicate s.width 0) (replicate (2 * s.width) 0)

  call_serves : (h : Head) → start h < s.width → number (ran (moved s h) call).answer ≡ 0
  call_serves h g =
      let n = s.width in
      let nodes : List ℕ = replicate (2 * n) 0 in
      engine_serves (moved s h) s.head (ones n) (replicate n 0) nodes g
      (length-replicate {A = ℕ} n 1) (length-replicate {A = ℕ} n 0) (ones_bits n) e opens
      (nodes_fit e n (length nodes) (length-replicate {A = ℕ} (2 * n) 0))

  -- of a kind that this call is of
  asking : (k : Kind) → k.is (cycle call) ≡ true → (size : ℕ) → AllAsking k s size
  asking k is size = all_asking k s call is (λ h. refl) call_serves (opens_allowed e s opens).station size

pub engines_ruling : Ruling by_engines
engines_ruling = record {
  ruled = weaker has_engine grants_by_rule of_engine;
  allows = some_allowed;
  serves = λ s c t z. some_serves s c (of_engine c t) z;
  asking = λ s o size l. asking s o.0 o.1 by_engines refl size;
  pair = (Scan, refl);
}
  where
    of_engine : (c : Cycle) → has_engine c ≡ true → grants_by_rule c ≡ true
    of_engine (engine_cycle e requests grants nodes) t = refl
    of_engine _ t = absurd (true≢false (sym t))

pub rule_ruling : Ruling by_rule
rule_ruling = record {
  ruled = λ c t. t;
  allows = some_allowed;
  serves = some_serves;
  asking = λ s o size l. asking s o.0 o.1 by_rule refl size;
  pair = (Scan, refl);
}

pub messages_ruling : Ruling with_messages
messages_ruling = record {
  ruled = weaker has_messages grants_by_rule of_messages;
  allows = some_allowed;
  serves = λ s c t z. some_serves s c (of_messages c t) z;
  asking = λ s o size l.
      let scan = engine_opens s (some_allowed s o) in
      let all = filled_served s scan size l in
      record { steps = filled s scan size; pass = filled_pass s scan size; long = all.0; full = all.1 };
  pair = (Scan, refl);
}
  where
    of_messages : (c : Cycle) → has_messages c ≡ true → grants_by_rule c ≡ true
    of_messages (backlog_cycle e arrivals waiting grants nodes) t = refl
    of_messages _ t = absurd (true≢false (sym t))

-- the packed scan: a state that it serves has one pick, and the plain scan serves it
module _ (s : State) (opens : packed.Serves s) where
  one_pick : PackedCallsLaws.OnePick s
  one_pick = PackedCallsLaws.one_pick_lem s (opened_passed _ s opens)

  -- all ask, packed
  abbrev packed_call : Cycle
  packed_call = packed_cycle (pack (ones s.width)) (replicate (packed_length s.width) 0)

  low : (i : ℕ) → get_or (ones s.width) i 0 ≤ 1
  low i =
      ListsLaws.split (ltb i s.width)
      (λ t. omega (arith, get_or-replicate {A = ℕ} s.width i 1 0 (ltb-true i s.width t)))
      (λ f.
      omega (
        arith,
        get_or-eq_default (ones s.width) 0 {n = i} (omega (arith, ltb-false i s.width f, length-replicate {A = ℕ} s.width 1)),
      ))

  wires : unpack s.width (pack (ones s.width)) ≡ ones s.width
  wires =
      let n = s.width in
      ap (λ (k : ℕ). unpack k (pack (ones n))) (sym (length-replicate {A = ℕ} n 1)) ∙ PackingLaws.unpack_pack (ones n) low

  packed_serves : (h : Head) → start h < s.width → number (ran (moved s h) packed_call).answer ≡ 0
  packed_serves h g =
      let n = s.width in
      let bytes : List ℕ = replicate n 0 in
      let former : List ℕ = replicate (packed_length n) 0 in
      let z =
      engine_serves (moved s h) s.head (ones n) bytes [] g
      (length-replicate {A = ℕ} n 1) (length-replicate {A = ℕ} n 0) (ones_bits n) Scan (engine_opens s one_pick.allows) refl in
      ap (λ (o : Effect Granted). number o.answer) (served_packed (moved s h) (ones n) bytes former z one_pick.one (length-replicate {A = ℕ} (packed_length n) 0))
      ∙ z

pub packed_ruling : Ruling packed
packed_ruling = record {
  ruled = weaker has_packed grants_by_rule of_packed;
  allows = λ s o. (one_pick s o).allows;
  serves = opened;
  asking = λ s o size l. all_asking packed s (packed_call s o) refl (λ h. wires s o) (packed_serves s o) (one_pick s o).allows.station size;
  pair = refl;
}
  where
    of_packed : (c : Cycle) → has_packed c ≡ true → grants_by_rule c ≡ true
    of_packed (packed_cycle requests grants) t = refl
    of_packed _ t = absurd (true≢false (sym t))

    -- what it serves in a cycle it opens with
    opened : (s : State) (c : Cycle) → has_packed c ≡ true → number (ran s c).answer ≡ 0 → packed.Serves s
    opened s (packed_cycle requests grants) t z =
        let n = s.width in
        let one = PackedCalls.state_questions s in
        let five = one then Questions.read_length (packed_length n) (length requests) in
        let six = five then Questions.write_length (packed_length n) (length grants) in
        let wires = unpack n requests in
        let p =
        writes_passed (six then PackedCalls.unused_bits n requests) s (RoundRobinCalls.answer s wires) (pack (RoundRobinCalls.granting s wires)) grants z in
        let a = then_served six (PackedCalls.unused_bits n requests) p in
        let b = then_served five (Questions.write_length (packed_length n) (length grants)) a.0 in
        let c = then_served one (Questions.read_length (packed_length n) (length requests)) b.0 in
        passed_opened one s c.0
    opened s _ t z = absurd (true≢false (sym t))
