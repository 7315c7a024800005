-- Laws of the backlog's calls: what is known once the questions have passed, what a served and a refused call leave, and the numbers
-- station by station.
-- Assumes nothing.
use Rattle.std.specs.Prelude.{ℕ, ◌+◌, ◌-◌, ◌≤◌, ◌<◌, ◌≡◌, true, List, map, ltb, length, get_or, Err}
use Rattle.std.proofs.Common.{refl, sym, ap, ◌∙◌, arith, zero-add, ltb-true, ltb-false, le-ltb}
use lib.ListN.{get_or-eq_default}
use Rattle.rules.specs.Lists.{bit, range}
use Rattle.rules.specs.Lists.Laws as ListsLaws
use Rattle.rules.proofs.RoundRobin.Laws as RoundRobinLaws
use Rattle.arbiter.specs.declared.State.{State}
use Rattle.arbiter.specs.declared.refusal.Refusal.{Refusal}
use Rattle.arbiter.specs.declared.refusal.Refusal.TheVariants.{Overflow}
use Rattle.search.specs.Places.{Bits}
use Rattle.search.specs.Places.Laws.{Free, free_of, places_none}
use Rattle.arbiter.specs.Questions as Questions
use Rattle.arbiter.specs.Questions.{Verdict, passed, ◌then◌, refuse_at_first}
use Rattle.arbiter.specs.Questions.Laws.{then_served, first_served, length_served}
use Rattle.arbiter.specs.Answers.{number, refused}
use Rattle.arbiter.specs.Answers.Laws.{served_passed, passed_is, if_refused, passed_opened}
use Rattle.arbiter.specs.Decisions.{requested}
use Rattle.engines.specs.declared.Engine.{Engine}
use Rattle.engines.specs.Calls as EngineCalls
use Rattle.engines.specs.Calls.Laws.{Served, engine_served, granted_asks, engine_serves, opens_allowed}
use Rattle.backlog.specs.Calls.{BacklogEffect, arrived, requests, taken, max_waiting, waiting_length, overflow, lent_questions, questions, cycle}

-- a table over the places of a list, where its entry is 0 past the end: it holds at each place the entry
table_at : (f : ℕ → ℕ) (n w : ℕ) → (n ≤ w → f w ≡ 0) → get_or (map f (range 0 n)) w 0 ≡ f w
table_at f n w past =
    ListsLaws.split (ltb w n)
    (λ t. ListsLaws.get_d_table f 0 n w (ltb-true w n t) ∙ rw zero-add)
    (λ u.
    let out : n ≤ w = omega (arith, ltb-false w n u) in
    get_or-eq_default (map f (range 0 n)) 0 {n = w} (omega (arith, ListsLaws.length_table f 0 n)) ∙ sym (past out))

-- the numbers after the arrivals
module _ (waiting arrivals : List ℕ) where
  pub arrived_length : length (arrived waiting arrivals) ≡ length waiting
  unfolding arrived
  arrived_length = ListsLaws.length_table _ 0 (length waiting)

  pub arrived_at : length arrivals ≡ length waiting → (w : ℕ) → get_or (arrived waiting arrivals) w 0 ≡ get_or waiting w 0 + get_or arrivals w 0
  unfolding arrived
  arrived_at long w =
      table_at (λ w. get_or waiting w 0 + get_or arrivals w 0) (length waiting) w
      (λ out. omega (arith, get_or-eq_default waiting 0 {n = w} out, get_or-eq_default arrivals 0 {n = w} (omega (arith, long))))

-- the requests that numbers make
module _ (numbers : List ℕ) where
  pub requests_length : length (requests numbers) ≡ length numbers
  unfolding requests
  requests_length = ListsLaws.length_table _ 0 (length numbers)

  pub requests_at : (w : ℕ) → get_or (requests numbers) w 0 ≡ bit (ltb 0 (get_or numbers w 0))
  unfolding requests
  requests_at w = table_at (λ w. bit (ltb 0 (get_or numbers w 0))) (length numbers) w (λ out. rw (get_or-eq_default numbers 0 {n = w} out))

  -- they are bits
  pub requests_bits : Bits (requests numbers)
  requests_bits w l = omega (arith, requests_at w, ListsLaws.bit_le (ltb 0 (get_or numbers w 0)))

  -- a station asks exactly if its number is not 0
  pub requests_ask : (w : ℕ) → requested (requests numbers) w ≡ ltb 0 (get_or numbers w 0)
  requests_ask w = rw (requests_at w) (ListsLaws.bit_one _)

-- the numbers after the grants
module _ (numbers grants : List ℕ) where
  pub taken_length : length (taken numbers grants) ≡ length numbers
  unfolding taken
  taken_length = ListsLaws.length_table _ 0 (length numbers)

  pub taken_at : (w : ℕ) → get_or (taken numbers grants) w 0 ≡ get_or numbers w 0 - bit (requested grants w)
  unfolding taken
  taken_at w =
      table_at (λ w. get_or numbers w 0 - bit (requested grants w)) (length numbers) w
      (λ out. omega (arith, get_or-eq_default numbers 0 {n = w} out))

-- what is known once the questions about what a cycle is lent have passed
pub record Lent (e : Engine) (n : ℕ) (arrivals waiting : List ℕ) (grantsSize nodesSize : ℕ) : Type 0 where
  pub came : length arrivals ≡ n
  pub room : grantsSize ≡ n
  pub counted : length waiting ≡ n
  pub space : EngineCalls.nodes_question e n nodesSize ≡ passed
  pub fits : (w : ℕ) → w < n → get_or waiting w 0 + get_or arrivals w 0 ≤ max_waiting

-- question 16 passes where all numbers stay within the most
pub overflow_passes : (numbers : List ℕ) → ((w : ℕ) → w < length numbers → get_or numbers w 0 ≤ max_waiting) → overflow numbers ≡ passed
overflow_passes numbers within =
    let free : Free (ltb max_waiting) 0 (length numbers) numbers = record { at = λ k l u. le-ltb max_waiting (get_or numbers k 0) (within k u) } in
    ap (refuse_at_first Overflow) (places_none free (omega arith))

pub lent : (e : Engine) (n : ℕ) (arrivals waiting : List ℕ) (grantsSize nodesSize : ℕ)
    → lent_questions e n arrivals waiting grantsSize nodesSize ≡ passed → Lent e n arrivals waiting grantsSize nodesSize
lent e n arrivals waiting grantsSize nodesSize z =
    let five = Questions.read_length n (length arrivals) in
    let six = five then Questions.write_length n grantsSize in
    let fifteen = six then waiting_length n (length waiting) in
    let seven = fifteen then EngineCalls.nodes_question e n nodesSize in
    let d = then_served seven (overflow (arrived waiting arrivals)) z in
    let c = then_served fifteen (EngineCalls.nodes_question e n nodesSize) d.0 in
    let b = then_served six (waiting_length n (length waiting)) c.0 in
    let a = then_served five (Questions.write_length n grantsSize) b.0 in
    let came : length arrivals ≡ n = length_served _ n (length arrivals) a.0 in
    let long : length waiting ≡ n = length_served _ n (length waiting) b.1 in
    let none = free_of {test = ltb max_waiting} {from = 0} {bytes = arrived waiting arrivals} (first_served _ _ d.1) in
    record {
      came = came;
      room = length_served _ n grantsSize a.1;
      counted = long;
      space = c.1;
      fits = λ w l.
          omega (
            arith,
            ltb-false max_waiting (get_or (arrived waiting arrivals) w 0) (none.at w (omega arith) (omega (arith, arrived_length waiting arrivals))),
            arrived_at waiting arrivals (came ∙ sym long) w,
          );
    }

-- a call, with the engine's own cycle in it
module _ (e : Engine) (s : State) (arrivals waiting grants nodes : List ℕ) where
  abbrev verdict : Verdict
  verdict = questions e s arrivals waiting (length grants) (length nodes)

  abbrev numbers : List ℕ
  numbers = arrived waiting arrivals

  -- a call whose questions pass leaves what it is to
  pub passed_cycle : verdict ≡ passed → let o = EngineCalls.cycle e s (requests numbers) grants nodes in
      cycle e s arrivals waiting grants nodes ≡ record {
        answer = o.answer;
        waiting = taken numbers o.grants;
        grants = o.grants;
        nodes = o.nodes;
      }
  unfolding cycle
  passed_cycle z = passed_is verdict _ _ z

  -- and one of which a question refuses changes nothing
  pub refused_cycle : (refusal : Refusal) → verdict ≡ Err refusal
      → cycle e s arrivals waiting grants nodes ≡ record { answer = refused refusal s; waiting = waiting; grants = grants; nodes = nodes }
  unfolding cycle
  refused_cycle refusal z = rw z

  -- what is known where the questions pass
  pub lent_passed : verdict ≡ passed → Lent e s.width arrivals waiting (length grants) (length nodes)
  lent_passed z = lent e s.width arrivals waiting (length grants) (length nodes) (then_served (EngineCalls.state_questions e s) _ z).1

  -- the engine serves its cycle
  pub engine_number : verdict ≡ passed → number (EngineCalls.cycle e s (requests numbers) grants nodes).answer ≡ 0
  engine_number z =
      let l = lent_passed z in
      let opens = passed_opened _ s (then_served (EngineCalls.state_questions e s) _ z).0 in
      engine_serves s s.head (requests numbers) grants nodes (opens_allowed e s opens).station
      (requests_length numbers ∙ arrived_length waiting arrivals ∙ l.counted)
      l.room (requests_bits numbers) e opens l.space

  -- so its grants are the rule's, and whoever is granted has a message waiting
  pub granted_wait : verdict ≡ passed → (w : ℕ) → requested (EngineCalls.cycle e s (requests numbers) grants nodes).grants w ≡ true
      → 1 ≤ get_or numbers w 0
  granted_wait z w t =
      let r = engine_served e s (requests numbers) grants nodes (engine_number z) in
      omega (arith, ltb-true 0 (get_or numbers w 0) (sym (requests_ask numbers w) ∙ granted_asks r w t))

  -- and its grant bytes are bits
  pub granted_bits : verdict ≡ passed → Bits (EngineCalls.cycle e s (requests numbers) grants nodes).grants
  granted_bits z w l =
      let r = engine_served e s (requests numbers) grants nodes (engine_number z) in
      rw r.granted (RoundRobinLaws.grants_bit s.width s.picks s.head (requested (requests numbers)) w)

  -- a served call has passed its questions, and is by the rule
  pub served_passes : number (cycle e s arrivals waiting grants nodes).answer ≡ 0 → verdict ≡ passed
  unfolding cycle
  served_passes z = served_passed verdict _ _ (λ (o : BacklogEffect). number o.answer) (λ e f. refl) z

  pub backlog_served : let o = cycle e s arrivals waiting grants nodes in number o.answer ≡ 0 → Served s (requests numbers) o.answer o.grants
  backlog_served z =
      let p = served_passes z in
      rw (passed_cycle p) (engine_served e s (requests numbers) grants nodes (engine_number p))

  -- a refused one changes nothing
  pub backlog_refused : let o = cycle e s arrivals waiting grants nodes in
      (number o.answer ≡ 0 → ⊥)
      → (o.answer.state ≡ s) × (o.waiting ≡ waiting) × (o.grants ≡ grants) × (o.nodes ≡ nodes)
  unfolding cycle
  backlog_refused n =
      if_refused verdict _ _
      (λ (o : BacklogEffect). (o.answer.state ≡ s) × (o.waiting ≡ waiting) × (o.grants ≡ grants) × (o.nodes ≡ nodes))
      (λ p. n (ap (λ (o : BacklogEffect). number o.answer) (passed_is verdict _ _ p) ∙ engine_number p))
      (λ e f. (refl, refl, refl, refl))
