-- For each list of calls by the rule there is one of cycles by the engines alone that takes the same turns: each served cycle has one of its
-- engine beside it, and the other calls, which keep the state, fall away.
-- Assumes nothing.
use Prim.Native.Nat.{ℕ}
use mathlib.Core.Path.{◌≡◌, refl, sym, ap, ◌∙◌}
use mathlib.Core.Bool.{true, false, true≢false}
use mathlib.Core.List.{List, [], ◌∷◌, map}
use mathlib.Core.Logic.{⊎_elim}
use lib.ListN.{replicate, length-replicate}
use borrow.Author.Tests.{eqb-true, eqb-false, eq-eqb}
use Rattle.std.specs.Prelude.{Some}
use Rattle.rules.specs.Lists.Laws as ListsLaws
use Rattle.rules.specs.Packing.{unpack}
use Rattle.arbiter.specs.declared.Answer.{Answer}
use Rattle.arbiter.specs.declared.Granted.{Granted}
use Rattle.arbiter.specs.declared.State.{State}
use Rattle.arbiter.specs.Answers.{Effect, with_picks, number}
use Rattle.packed_scan.proofs.AsScan.{served_unpacked}
use Rattle.engines.specs.declared.Engine.{Engine}
use Rattle.engines.specs.declared.Engine.TheVariants.{Scan}
use Rattle.backlog.specs.Calls.{BacklogEffect, arrived, requests}
use Rattle.backlog.specs.Calls.Laws.{passed_cycle, served_passes}
use Rattle.calls.specs.Calls.{Cycle, engine_cycle, bus_cycle, packed_cycle, backlog_cycle, Call, cycle, cycle_that, Made, ran, made, Step, run, was_served, served, Each}
use Rattle.calls.proofs.EveryCall.{ran_is, state_kept}
use Rattle.fairness.specs.Kinds.{writes_state, grants_by_rule, has_engine}
use Rattle.fairness.specs.Turns.{Turn, turn, turns, TurnsOfEngines}
use Rattle.fairness.proofs.Calls.{run_picks, cycle_or_write, write_kept}

-- a cycle of an engine that takes the turn of this one
record Alike (s : State) (c : Cycle) : Type 0 where
  engine : Engine
  wires : List ℕ
  grants : List ℕ
  nodes : List ℕ
  same : turn (ran s (engine_cycle engine wires grants nodes)) ≡ turn (ran s c)

alike : (s : State) (c : Cycle) → grants_by_rule c ≡ true → number (ran s c).answer ≡ 0 → Alike s c
alike s (engine_cycle e wires grants nodes) t z = record { engine = e; wires = wires; grants = grants; nodes = nodes; same = refl }
alike s (packed_cycle packed grants) t z =
    let wires = unpack s.width packed in
    let bytes : List ℕ = replicate s.width 0 in
    record {
      engine = Scan;
      wires = wires;
      grants = bytes;
      nodes = [];
      same = ap
          (λ (o : Effect Granted). record { engine = Some Scan; given = s; requests = wires; grants = o.written; answer = o.answer })
          (served_unpacked s packed grants bytes z (length-replicate s.width 0));
    }
alike s (backlog_cycle e arrivals waiting grants nodes) t z =
    let wires = requests (arrived waiting arrivals) in
    record {
      engine = e;
      wires = wires;
      grants = grants;
      nodes = nodes;
      same = sym
          (ap (λ (o : BacklogEffect). record { engine = Some e; given = s; requests = wires; grants = o.grants; answer = o.answer })
          (passed_cycle e s arrivals waiting grants nodes (served_passes e s arrivals waiting grants nodes z)));
    }
alike s (bus_cycle wires grants byte) t z = absurd (true≢false (sym t))

-- a list by the engines with the turns of this one
abbrev Like : State → List Step → Type 0
Like s steps = (others : List Step) × Each (λ k. cycle_that has_engine k.call) others × (turns s others ≡ turns s steps)

-- a call that is not served, and keeps the state, takes no turn
skipped : (s : State) (k : Step) (ks : List Step) → let q = with_picks s k.picks in let m = made q k.call in
    m.answer.state ≡ q → was_served m ≡ false → Like s ks → Like s (k ∷ ks)
skipped s k ks kept unserved like = rw (unserved, kept, run_picks s k.picks ks) like

-- a served cycle takes the first turn
first_turn : (m : Made) (ms : List Made) → was_served m ≡ true → map turn (served (m ∷ ms)) ≡ turn m ∷ map turn (served ms)
first_turn m ms t = rw t refl

-- so does one of its engine
followed : (s : State) (p : ℕ) (c : Cycle) (ks : List Step) → let m = ran (with_picks s p) c in
    number m.answer ≡ 0 → Alike (with_picks s p) c → Like m.answer.state ks → Like s (record { picks = p; call = cycle c } ∷ ks)
followed s p c ks z a like =
    let q = with_picks s p in
    let call = engine_cycle a.engine a.wires a.grants a.nodes in
    let m = ran q c in
    let other = ran q call in
    let e : other.answer ≡ m.answer = ap (λ (t : Turn). t.answer) a.same in
    let was : was_served m ≡ true = rw (ran_is q c).0 (eq-eqb _ 0 z) in
    let does : was_served other ≡ true = eq-eqb _ 0 (ap (λ (b : Answer Granted). number b) e ∙ z) in (
      record { picks = p; call = cycle call } ∷ like.0,
      (refl, like.1),
      first_turn other (run other.answer.state like.0) does
          ∙ ap (λ (t : Turn). t ∷ turns other.answer.state like.0) a.same
          ∙ ap (λ (b : Answer Granted). turn m ∷ turns b.state like.0) e
          ∙ ap (λ (ts : List Turn). turn m ∷ ts) like.2
          ∙ sym (first_turn m (run m.answer.state ks) was),
    )

-- and one that is refused takes none
cycled : (s : State) (p : ℕ) (c : Cycle) (ks : List Step) → grants_by_rule c ≡ true → ((q : State) → Like q ks)
    → Like s (record { picks = p; call = cycle c } ∷ ks)
cycled s p c ks t rest =
    let q = with_picks s p in
    ListsLaws.split (was_served (ran q c))
    (λ f.
    let z : number (ran q c).answer ≡ 0 = eqb-true _ 0 (ListsLaws.both _ _ f).1 in
    followed s p c ks z (alike q c t z) (rest (ran q c).answer.state))
    (λ f.
    let kept = state_kept q c (eqb-false _ 0 (rw (ran_is q c).0 at f)) in
    skipped s (record { picks = p; call = cycle c }) ks kept f (rest s))

pub turns_of_engines : TurnsOfEngines
turns_of_engines s [] pass = ([], tt, refl)
turns_of_engines s (k ∷ ks) pass =
    ⊎_elim
    (λ (c : (x : Cycle) × (k.call ≡ cycle x)).
    let same : k ≡ record { picks = k.picks; call = cycle c.0 } = ap (λ (d : Call). record { picks = k.picks; call = d }) c.1 in
    rw same (cycled s k.picks c.0 ks (rw c.1 at pass.0) (λ q. turns_of_engines q ks pass.1)))
    (λ (w : writes_state k.call ≡ true). let kept = write_kept (with_picks s k.picks) k.call w in
    skipped s k ks kept.0 kept.1 (turns_of_engines s ks pass.1))
    (cycle_or_write grants_by_rule k.call pass.0)
