-- Laws of the engines' cycles: a served one is by the round-robin rule, and a refused one changes nothing.
-- Promises `Served`, `rule_grants`, `granted_asks`, `engine_served`, `engine_refused`, `engine_serves`, `nodes_fit`,
-- `engine_opens` and `opens_allowed`. The rest are steps of their proofs.
-- Assumes nothing.
use Rattle.std.specs.Prelude.{ℕ, ◌*◌, ◌≤◌, ◌<◌, ◌≡◌, true, List, ltb, length}
use Rattle.std.proofs.Math.Bool.{true≢false}
use Rattle.std.proofs.Math.Path.{refl, ap}
use Rattle.std.proofs.Common.{sym, ◌∙◌, arith, eq-eqb, ltb-true, ltb-false}
use lib.ListN.{get_or-eq_default}
use Rattle.rules.specs.Head.{Head}
use Rattle.rules.specs.Lists.{member}
use Rattle.rules.specs.Lists.Laws as ListsLaws
use Rattle.rules.specs.RoundRobin.{start, granted}
use Rattle.rules.proofs.RoundRobin.Laws as RoundRobinLaws
use Rattle.arbiter.specs.declared.Answer.{Answer}
use Rattle.arbiter.specs.declared.Granted.{Granted}
use Rattle.arbiter.specs.declared.State.{State}
use Rattle.arbiter.specs.declared.refusal.Buffer.TheVariants.{Requests}
use Rattle.search.specs.Places.{Bits}
use Rattle.arbiter.specs.Questions as Questions
use Rattle.arbiter.specs.Questions.{Verdict, passed, ◌then◌}
use Rattle.arbiter.specs.Questions.Laws as QuestionsLaws
use Rattle.arbiter.specs.Answers as Answers
use Rattle.arbiter.specs.Answers.{moved, number}
use Rattle.arbiter.specs.Answers.Laws.{served_passed, passed_is, if_refused, writes_passed, writes_is, writes_refused, opened_passed, passed_opened}
use Rattle.arbiter.specs.Cycle as RoundRobinCalls
use Rattle.arbiter.specs.Decisions.{requested}
use Rattle.tree.specs.Calls as TreeCalls
use Rattle.tree.specs.Calls.{TreeEffect}
use Rattle.tree.specs.Calls.Laws as TreeCallsLaws
use Rattle.engines.specs.declared.Engine.{Engine}
use Rattle.engines.specs.declared.Engine.TheVariants.{Scan, Tree, Thermometer, KoggeStone}
use Rattle.engines.specs.Calls.{nodes_question, opening, cycle}

-- a cycle that was served by the rule: what its state and its requests were, what it answered, and what its grant buffer holds
pub record Served (s : State) (requests : List ℕ) (answer : Answer Granted) (grants : List ℕ) : Type 0 where
  pub allows : QuestionsLaws.Allowed s
  pub asked : length requests ≡ s.width
  pub answers : answer ≡ RoundRobinCalls.answer s requests
  pub granted : grants ≡ RoundRobinCalls.granting s requests

-- its grant buffer holds 1 for those whom the rule grants alone
pub rule_grants : {s : State} {requests : List ℕ} {answer : Answer Granted} {grants : List ℕ} → Served s requests answer grants
    → (w : ℕ) → requested grants w ≡ member w (granted s.width s.picks s.head (requested requests))
rule_grants {s} {requests} r w =
    let asks = requested requests in
    ListsLaws.split (ltb w s.width)
    (λ t. rw (r.granted, RoundRobinLaws.grants_member s.width s.picks s.head asks w (ltb-true w s.width t)) (ListsLaws.bit_one _))
    (λ f.
    let out : s.width ≤ w = omega (arith, ltb-false w s.width f) in
    rw (r.granted, get_or-eq_default (RoundRobinCalls.granting s requests) 0 {n = w} (omega (arith, RoundRobinLaws.grants_length s.width s.picks s.head asks)))
    (sym (RoundRobinLaws.granted_outside s.width s.picks s.head asks w (omega (arith, r.allows.station)) out)))

-- so whoever has a 1 there is a station that asks
pub granted_asks : {s : State} {requests : List ℕ} {answer : Answer Granted} {grants : List ℕ} → Served s requests answer grants
    → (w : ℕ) → requested grants w ≡ true → requested requests w ≡ true
granted_asks {s} {requests} r w t =
    let asks = requested requests in
    let head : start s.head ≤ s.width = omega (arith, r.allows.station) in
    let is = sym (rule_grants r w) ∙ t in
    ListsLaws.split (ltb w s.width)
    (λ u. (ListsLaws.both _ _ (sym (RoundRobinLaws.granted_member s.width s.picks s.head asks w head (ltb-true w s.width u)) ∙ is)).0)
    (λ f. absurd (true≢false (sym is ∙ RoundRobinLaws.granted_outside s.width s.picks s.head asks w head (omega (arith, ltb-false w s.width f)))))

-- scan, thermometer arbiter and Kogge-Stone arbiter
cycle_served : (s : State) (requests former : List ℕ)
    → let o = RoundRobinCalls.cycle s requests former in number o.answer ≡ 0 → Served s requests o.answer o.written
cycle_served s requests former z =
    let v = RoundRobinCalls.questions s requests (length former) in
    let p = writes_passed v s _ _ former z in
    let r = QuestionsLaws.ready s requests (length former) p in
    let is = writes_is v s (RoundRobinCalls.answer s requests) (RoundRobinCalls.granting s requests) former p in
    record {
      allows = r.allows;
      asked = r.lends.asked;
      answers = ap (λ (o : Answers.Effect Granted). o.answer) is;
      granted = ap (λ (o : Answers.Effect Granted). o.written) is;
    }

cycle_refused : (s : State) (requests former : List ℕ)
    → let o = RoundRobinCalls.cycle s requests former in
    (number o.answer ≡ 0 → ⊥) → (o.answer.state ≡ s) × (o.written ≡ former)
cycle_refused s requests former n =
    writes_refused (RoundRobinCalls.questions s requests (length former)) s (RoundRobinCalls.answer s requests) (RoundRobinCalls.granting s requests) former refl n

-- a state that the tree serves, every engine of the rule serves
as_allowed : {s : State} → TreeCallsLaws.Allowed s → QuestionsLaws.Allowed s
as_allowed a = record {
  some = a.some;
  most = a.most;
  picked = omega (arith, a.one);
  few = omega (arith, a.one);
  fit = omega (arith, a.one, a.some);
  station = a.station;
}

-- the tree
module _ (s : State) (requests former nodes : List ℕ) where
  abbrev questions : Verdict
  questions = TreeCalls.questions s requests (length former) (length nodes)

  tree_served : let o = TreeCalls.cycle s requests former nodes in number o.answer ≡ 0 → Served s requests o.answer o.grants
  unfolding TreeCalls.cycle
  tree_served z =
      let p = served_passed questions _ _ (λ (o : TreeEffect). number o.answer) (λ e f. refl) z in
      let r = TreeCallsLaws.ready s requests (length former) (length nodes) p in
      record {
        allows = as_allowed r.allows;
        asked = r.asked;
        answers = ap (λ (o : TreeEffect). o.answer) (passed_is questions _ _ p);
        granted = ap (λ (o : TreeEffect). o.grants) (passed_is questions _ _ p);
      }

  tree_refused : let o = TreeCalls.cycle s requests former nodes in
      (number o.answer ≡ 0 → ⊥) → (o.answer.state ≡ s) × (o.grants ≡ former) × (o.nodes ≡ nodes)
  unfolding TreeCalls.cycle
  tree_refused n =
      if_refused questions _ _ (λ (o : TreeEffect). (o.answer.state ≡ s) × (o.grants ≡ former) × (o.nodes ≡ nodes))
      (λ p. n (ap (λ (o : TreeEffect). number o.answer) (passed_is questions _ _ p)))
      (λ e f. (refl, refl, refl))

-- so every cycle is served by the rule
pub engine_served : (e : Engine) (s : State) (requests former nodes : List ℕ)
    → let o = cycle e s requests former nodes in number o.answer ≡ 0 → Served s requests o.answer o.grants
engine_served Scan s requests former nodes z = cycle_served s requests former z
engine_served Tree s requests former nodes z = tree_served s requests former nodes z
engine_served Thermometer s requests former nodes z = cycle_served s requests former z
engine_served KoggeStone s requests former nodes z = cycle_served s requests former z

-- or changes nothing
pub engine_refused : (e : Engine) (s : State) (requests former nodes : List ℕ)
    → let o = cycle e s requests former nodes in
    (number o.answer ≡ 0 → ⊥) → (o.answer.state ≡ s) × (o.grants ≡ former) × (o.nodes ≡ nodes)
engine_refused Scan s requests former nodes n = let u = cycle_refused s requests former n in (u.0, u.1, refl)
engine_refused Tree s requests former nodes n = tree_refused s requests former nodes n
engine_refused Thermometer s requests former nodes n = let u = cycle_refused s requests former n in (u.0, u.1, refl)
engine_refused KoggeStone s requests former nodes n = let u = cycle_refused s requests former n in (u.0, u.1, refl)

-- a state that an engine opens with any head, requests and grants for each station, and bytes that are bits: it serves the cycle,
-- the tree with its nodes
module _ (s : State) (k : Head) (requests former nodes : List ℕ) (head : start s.head < s.width)
    (asked : length requests ≡ s.width) (room : length former ≡ s.width) (wires : Bits requests) where
  cycle_serves : number (RoundRobinCalls.opening s.width s.picks k) ≡ 0 → number (RoundRobinCalls.cycle s requests former).answer ≡ 0
  cycle_serves z =
      let before = Questions.width s.width then Questions.picks s.width s.picks in
      let p = QuestionsLaws.head_moves before s.width k s.head (opened_passed _ (moved s k) z) head in
      let v = RoundRobinCalls.questions s requests (length former) in
      ap (λ (o : Answers.Effect Granted). number o.answer)
      (writes_is v s (RoundRobinCalls.answer s requests) (RoundRobinCalls.granting s requests) former
      (QuestionsLaws.then_passed _ _ p (QuestionsLaws.lends s.width requests (length former) asked room wires)))

  tree_serves : number (TreeCalls.opening s.width s.picks k) ≡ 0 → TreeCalls.nodes_length s.width (length nodes) ≡ passed
      → number (TreeCalls.cycle s requests former nodes).answer ≡ 0
  unfolding TreeCalls.cycle
  tree_serves z space =
      let n = s.width in
      let before = Questions.width n then TreeCalls.tree_width n then Questions.one_pick s.picks in
      let four = QuestionsLaws.head_moves before n k s.head (opened_passed _ (moved s k) z) head in
      let five = QuestionsLaws.then_passed (TreeCalls.state_questions s) (Questions.read_length n (length requests)) four (rw (eq-eqb (length requests) n asked)) in
      let six = QuestionsLaws.then_passed _ (Questions.write_length n (length former)) five (rw (eq-eqb (length former) n room)) in
      let seven = QuestionsLaws.then_passed _ (TreeCalls.nodes_length n (length nodes)) six space in
      ap (λ (o : TreeEffect). number o.answer)
      (passed_is (questions s requests former nodes) _ _ (QuestionsLaws.then_passed _ (Questions.bits Requests 0 requests) seven (QuestionsLaws.bits_passes Requests requests wires)))

  pub engine_serves : (e : Engine) → number (opening e s.width s.picks k) ≡ 0 → nodes_question e s.width (length nodes) ≡ passed
      → number (cycle e s requests former nodes).answer ≡ 0
  engine_serves Scan z space = cycle_serves z
  engine_serves Tree z space = tree_serves z space
  engine_serves Thermometer z space = cycle_serves z
  engine_serves KoggeStone z space = cycle_serves z

-- a node buffer of 2N fits every engine
pub nodes_fit : (e : Engine) (n size : ℕ) → size ≡ 2 * n → nodes_question e n size ≡ passed
nodes_fit Scan n size long = refl
nodes_fit Tree n size long = rw (eq-eqb size (2 * n) long)
nodes_fit Thermometer n size long = refl
nodes_fit KoggeStone n size long = refl

-- whatever serves a cycle, the scan opens the state
pub engine_opens : (s : State) → QuestionsLaws.Allowed s → number (opening Scan s.width s.picks s.head) ≡ 0
engine_opens s a = passed_opened _ s (QuestionsLaws.allows s a)

-- what is known of a state that an engine opens
pub opens_allowed : (e : Engine) (s : State) → number (opening e s.width s.picks s.head) ≡ 0 → QuestionsLaws.Allowed s
opens_allowed Scan s z = QuestionsLaws.allowed s (opened_passed _ s z)
opens_allowed Tree s z = as_allowed (TreeCallsLaws.allowed s (opened_passed _ s z))
opens_allowed Thermometer s z = QuestionsLaws.allowed s (opened_passed _ s z)
opens_allowed KoggeStone s z = QuestionsLaws.allowed s (opened_passed _ s z)
