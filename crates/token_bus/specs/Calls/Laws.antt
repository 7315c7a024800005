-- Laws of the bus's calls: what is known once the questions have passed; that a served cycle is by the bus's rule; what a cycle
-- decides and grants once the first station that asks is found.
-- Assumes nothing.
use Rattle.std.specs.Prelude.{ℕ, ◌+◌, ◌%◌, ◌≤◌, ◌<◌, ◌≡◌, Bool, true, false, cond, not, ◌&&◌, nat_eq, eqb, List, [], ◌∷◌, length, set, replicate, Option, None, Some, MatchOption, Ok}
use Rattle.std.proofs.Math.Path.{refl, sym}
use Rattle.std.proofs.Common.{ap, ◌∙◌, arith, ltb-true, lt-ltb, le-leb}
use Rattle.rules.specs.Head.{Head}
use Rattle.rules.specs.Lists.{bit, marks}
use Rattle.rules.specs.Lists.Laws as ListsLaws
use Rattle.rules.specs.RoundRobin.{start}
use Rattle.rules.proofs.RoundRobin.Laws as RoundRobinLaws
use lib.Pointwise.{pointwise}
use Rattle.rules.specs.Pending.{more}
use Rattle.rules.specs.Bus as BusRule
use Rattle.rules.proofs.Bus.Laws as BusLaws
use Rattle.arbiter.specs.declared.Granted.{Granted}
use Rattle.arbiter.specs.declared.State.{State}
use Rattle.search.specs.Places.{ones, first, Bits, highest}
use Rattle.search.specs.Places.Laws.{first_none}
use Rattle.arbiter.specs.Questions as Questions
use Rattle.arbiter.specs.Questions.{passed, ◌then◌}
use Rattle.arbiter.specs.Questions.Laws.{then_served, then_passed, unless_served, width_served, one_pick_served, Lent, lent, lends, read_passed}
use Rattle.arbiter.specs.Questions.Laws as QuestionsLaws
use Rattle.arbiter.specs.Answers.{Effect, moved, number}
use Rattle.arbiter.specs.Answers.Laws.{writes_passed, writes_is, writes_refused}
use Rattle.arbiter.specs.Decisions as Decisions
use Rattle.arbiter.specs.Decisions.{requested}
use Rattle.arbiter.specs.Decisions.Laws.{none_granted, none_more, pending_bytes}
use Rattle.arbiter.specs.Decisions.OnePick as OnePick
use Rattle.token_bus.specs.Calls.{token_question, acknowledge, state_questions, decision, answer, granting, questions, cycle}

-- what 4 says where it passes
token_served : (n : ℕ) (h : Head) → token_question n h ≡ passed → (t : ℕ) × (t < n) × (h ≡ Some t)
token_served n None z = let no : ⊥ = cc in absurd no
token_served n (Some t) z = (t, ltb-true t n (unless_served _ _ z), refl)

-- what is known once 1, 3 and 4 have passed
pub record Allowed (s : State) : Type 0 where
  pub most : s.width ≤ Questions.max_width
  pub station : start s.head < s.width

pub allowed : (s : State) → state_questions s ≡ passed → Allowed s
allowed s z =
    let b = then_served (Questions.width s.width then Questions.one_pick s.picks) (token_question s.width s.head) z in
    let a = then_served (Questions.width s.width) (Questions.one_pick s.picks) b.0 in
    let t = token_served s.width s.head b.1 in
    let is : start s.head ≡ t.0 = ap start t.2 ∙ RoundRobinLaws.start_at t.0 in
    record {
      most = (width_served s.width a.0).1;
      station = omega (arith, is, t.1);
    }

-- what is known of a cycle once all its questions have passed
pub record Ready (s : State) (requests : List ℕ) (size : ℕ) : Type 0 where
  pub before : state_questions s ≡ passed
  pub allows : Allowed s
  pub lends : Lent s.width requests size

pub ready : (s : State) (requests : List ℕ) (size byte : ℕ) → questions s requests size byte ≡ passed → Ready s requests size
ready s requests size byte z =
    let read = then_served (state_questions s then Questions.cycle_questions s.width requests size) (acknowledge byte) z in
    let both = then_served (state_questions s) (Questions.cycle_questions s.width requests size) read.0 in
    record { before = both.0; allows = allowed s both.0; lends = lent s.width requests size both.1 }

-- the same as an arbiter by the round-robin rule has it
pub as_ready : (s : State) (requests : List ℕ) (size byte : ℕ) → questions s requests size byte ≡ passed → QuestionsLaws.Ready s requests size
as_ready s requests size byte z =
    let r = ready s requests size byte z in
    let two = then_served (Questions.width s.width then Questions.one_pick s.picks) (token_question s.width s.head) r.before in
    let one = then_served (Questions.width s.width) (Questions.one_pick s.picks) two.0 in
    let w = width_served s.width one.0 in
    let pick = one_pick_served s.picks one.1 in
    record {
      allows =
          record {
            some = w.0;
            most = w.1;
            picked = omega (arith, pick);
            few = omega (arith, pick);
            fit = omega (arith, pick, w.0);
            station = r.allows.station;
          };
      lends = r.lends;
    }

-- those of a cycle, asked in three steps, with the highest byte in hand
pub asked : (s : State) (requests : List ℕ) (size byte : ℕ) {u : Unit {0}} {high : ℕ} → state_questions s ≡ Ok u
    → (Questions.cycle_questions s.width requests size then Ok (highest requests)) ≡ Ok high → acknowledge byte ≡ passed
    → (questions s requests size byte ≡ passed) × (high ≡ highest requests)
asked s requests size byte z e y =
    let k = read_passed _ s.width requests size z e in
    (then_passed (state_questions s then Questions.cycle_questions s.width requests size) _ k.0 y, k.1)

-- where they have passed there is a token
pub token_is : (s : State) → state_questions s ≡ passed → s.head ≡ Some (start s.head)
token_is s z =
    let two = then_served (Questions.width s.width then Questions.one_pick s.picks) (token_question s.width s.head) z in
    let t = token_served s.width s.head two.1 in t.2 ∙ ap Some (sym (ap start t.2 ∙ RoundRobinLaws.start_at t.0))

-- a cycle that was served by the rule: what its token and its requests were, what it answered, and what its grant buffer holds
pub record Served (s : State) (requests : List ℕ) (byte : ℕ) (o : Effect Granted) : Type 0 where
  pub passed : state_questions s ≡ passed
  pub token : start s.head < s.width
  pub asked : length requests ≡ s.width
  pub answers : o.answer ≡ answer s requests byte
  pub grants : o.written ≡ granting s requests

pub cycle_served : (s : State) (requests former : List ℕ) (byte : ℕ)
    → let o = cycle s requests former byte in number o.answer ≡ 0 → Served s requests byte o
cycle_served s requests former byte z =
    let v = questions s requests (length former) byte in
    let p = writes_passed v s _ _ former z in
    let r = ready s requests (length former) byte p in
    let is = writes_is v s (answer s requests byte) (granting s requests) former p in
    record {
      passed = r.before;
      token = r.allows.station;
      asked = r.lends.asked;
      answers = ap (λ (o : Effect Granted). o.answer) is;
      grants = ap (λ (o : Effect Granted). o.written) is;
    }

-- where a token passes, every station does
pub token_moves : (s : State) (t : ℕ) → state_questions s ≡ passed → t < s.width → state_questions (moved s (Some t)) ≡ passed
token_moves s t z l =
    let before = Questions.width s.width then Questions.one_pick s.picks in
    then_passed before _ (then_served before (token_question s.width s.head) z).0 (rw (lt-ltb t s.width l))

-- a cycle with buffers of the right lengths and bytes that are bits passes
pub serves : (s : State) (requests former : List ℕ) (byte : ℕ) → state_questions s ≡ passed
    → length requests ≡ s.width → length former ≡ s.width → Bits requests → byte ≤ 1
    → number (cycle s requests former byte).answer ≡ 0
serves s requests former byte z asked room wires bit =
    let read = then_passed (state_questions s) _ z (lends s.width requests (length former) asked room wires) in
    ap (λ (o : Effect Granted). number o.answer)
    (writes_is _ s (answer s requests byte) (granting s requests) former (then_passed _ (acknowledge byte) read (rw (le-leb byte 1 bit))))

-- a cycle that no question refuses, from the token t
module _ (n t : ℕ) (requests : List ℕ) (station : t < n) where
  abbrev asks : ℕ → Bool
  asks = requested requests

  abbrev granted : List ℕ
  granted = BusRule.granted n t asks

  head : start (Some t) < n
  head = BusLaws.token_head n t station

  -- where every byte is 0 the bus grants no one
  pub found_none : highest requests ≡ 0 → None ≡ first granted
  unfolding BusRule.granted
  found_none e = sym (ap first (none_granted n 1 (Some t) requests e))

  -- a search from the token on finds whom the bus grants, and where it finds no one, one from 0 on does
  pub found : {P : Type 0} {r : Option ℕ} (above : Option ℕ) → length requests ≡ n → above ≡ first (ones t requests)
      → MatchOption above P (λ w. r ≡ Some w) → (P → r ≡ first (ones 0 requests)) → r ≡ first granted
  unfolding BusRule.granted
  found None long e f low = low f ∙ OnePick.found_low n (Some t) requests head long (rw (RoundRobinLaws.start_at t) (sym e))
  found (Some w) long e f low = f ∙ OnePick.found_high n (Some t) requests head long w (rw (RoundRobinLaws.start_at t) (sym e))

  -- no grant: the token stays, and nobody asks
  pub idle_decides : (ack : Bool) → first granted ≡ None → Decisions.headed (Some t) ≡ decision n t ack asks
  unfolding BusRule.granted
  idle_decides ack e =
      let none = first_none granted e in
      rw (BusLaws.next_idle n t ack asks none, none)
      (ap (λ b. record { count = 0; next = Some t; more = b }) (sym (none_more n 1 (Some t) asks (omega arith) (omega (arith, head)) none)))

  pub idle_grants : first granted ≡ None → replicate n 0 ≡ BusRule.grants n t asks
  idle_grants e = ListsLaws.marks_none n ∙ sym (BusLaws.grants_marks n t asks ∙ ap (marks n) (first_none granted e))

  -- a grant: the token moves one on if it is acknowledged
  module _ (w : ℕ) (e : first granted ≡ Some w) where
    only : granted ≡ w ∷ []
    unfolding BusRule.granted
    only = OnePick.only_granted n (Some t) asks head w e

    pub granted_below : w < n
    unfolding BusRule.granted
    granted_below = OnePick.granted_below n (Some t) asks head w e

    pub granted_grants : set (replicate n 0) w 1 ≡ BusRule.grants n t asks
    granted_grants = ListsLaws.marks_one n w granted_below ∙ sym (BusLaws.grants_marks n t asks ∙ ap (marks n) only)

    -- more are pending exactly if the grants are not the requests
    pending : {m : ℕ} {new : List ℕ} → length requests ≡ n → Bits requests → m ≡ 1 → new ≡ set (replicate n 0) w 1
        → (eqb 1 m && not (pointwise nat_eq requests new)) ≡ more n asks (w ∷ [])
    unfolding BusRule.granted BusRule.grants
    pending long bits one made =
        rw one (pending_bytes n 1 (Some t) requests (omega (arith, head)) long bits (sym (ap length only)) (made ∙ granted_grants))
        ∙ ap (more n asks) only

    pub granted_decides : (ack : Bool) {m : ℕ} {new : List ℕ} {b : Bool} → length requests ≡ n → Bits requests → m ≡ 1 → new ≡ set (replicate n 0) w 1
        → b ≡ (eqb 1 m && not (pointwise nat_eq requests new))
        → record { count = 1; next = Some (cond ack ((t + 1) % n) t); more = b } ≡ decision n t ack asks
    granted_decides ack long bits one made e =
        rw (e ∙ pending long bits one made, only) (ap (λ (k : ℕ). record { count = 1; next = Some k; more = more n asks (w ∷ []) }) (to ack))
      where
        to : (b : Bool) → cond b ((t + 1) % n) t ≡ BusRule.next n t b asks
        to true = sym (BusLaws.next_acknowledged n t asks (omega (arith, ap length only)))
        to false = sym (BusLaws.next_unacknowledged n t asks)

-- a refused cycle changes nothing
pub cycle_refused : (s : State) (requests former : List ℕ) (byte : ℕ)
    → let o = cycle s requests former byte in (number o.answer ≡ 0 → ⊥) → (o.answer.state ≡ s) × (o.written ≡ former)
cycle_refused s requests former byte n =
    writes_refused (questions s requests (length former) byte) s (answer s requests byte) (granting s requests) former refl n
