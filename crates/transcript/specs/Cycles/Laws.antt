-- How long the lines of a run are, and what a cycle line leaves of the state.
-- Promises `number_few`, `Printable`, `bus_formed`, `formed_long`, `cycle_called`, `cycle_refused`, `cycle_printable`,
-- `cycle_width`, `cycle_place`, `served_long`, `refusal_short`, `run_short`, `opening_nowhere` and `opening_wide`. The rest are
-- steps of their proofs.
-- Assumes nothing.
use Rattle.std.specs.Prelude.{ℕ, suc, ◌+◌, ◌*◌, ◌^◌, ◌≤◌, ◌<◌, ◌≡◌, refl, Bool, true, false, ◌&&◌, List, [], ◌∷◌, ◌++◌, map, eqb, ltb, leb, length, take, get_or, replicate, None, Some, Result, Ok, Err}
use Rattle.std.proofs.Common.{sym, ap, ◌∙◌, arith, length-append, length-take, eqb-true, leb-true, leb-false}
use Rattle.std.proofs.lemmas.List.{length-map, length-replicate}
use Rattle.rules.specs.Head.{Head}
use Rattle.rules.specs.Lists.{range, member}
use Rattle.rules.specs.Lists.Laws as ListsLaws
use Rattle.rules.specs.RoundRobin.{start, next}
use Rattle.rules.proofs.RoundRobin.Laws as RoundRobinLaws
use Rattle.rules.specs.Bus as BusRule
use Rattle.rules.proofs.Bus.Laws as BusLaws
use Rattle.text.specs.Characters.{line_feed, space, decimal, bit, bits}
use Rattle.text.specs.Characters.Laws.{decimal_few}
use Rattle.arbiter.specs.declared.Answer.{Answer}
use Rattle.arbiter.specs.declared.Granted.{Granted}
use Rattle.arbiter.specs.declared.State.{State}
use Rattle.arbiter.specs.declared.refusal.Refusal.{Refusal}
use Rattle.arbiter.specs.declared.refusal.Buffer.TheVariants.{Requests}
use Rattle.arbiter.specs.declared.refusal.Refusal.TheVariants.{Width, TreeWidth, Picks, HeadRange, ReadLength, WriteLength, NodesLength, NotABit, Acknowledge}
use Rattle.arbiter.specs.Refusals as Refusals
use Rattle.arbiter.specs.Refusals.Laws.{numbered}
use Rattle.search.specs.Places.{places, first}
use Rattle.search.specs.Places.Laws.{found}
use Rattle.arbiter.specs.Questions as Questions
use Rattle.arbiter.specs.Questions.{Verdict, passed, ◌then◌, refuse_unless, refuse_at_first}
use Rattle.arbiter.specs.Questions.Laws as QuestionsLaws
use Rattle.arbiter.specs.Answers as Answers
use Rattle.arbiter.specs.Answers.{Effect, made, number_of, place_of, number, place, if_passed, writes}
use Rattle.arbiter.specs.Answers.Laws.{refusal_number}
use Rattle.arbiter.specs.Cycle as RoundRobinCalls
use Rattle.tree.specs.Calls as TreeCalls
use Rattle.tree.specs.Calls.Laws as TreeCallsLaws
use Rattle.token_bus.specs.Calls as BusCalls
use Rattle.token_bus.specs.Calls.Laws as BusCallsLaws
use Rattle.transcript.specs.declared.first_line.Kind.{Kind}
use Rattle.engines.specs.declared.Engine.TheVariants.{Scan, Tree, Thermometer, KoggeStone}
use Rattle.transcript.specs.declared.first_line.Kind.TheVariants.{RoundRobin, TokenBus}
use Rattle.transcript.specs.Lines.Laws.{total_length}
use Rattle.transcript.specs.Cycles.{opening, well_formed, wire, called, cycle, refused_word, refusal_line, granted, told, printed, run}

-- the number of a refusal has two digits at most
pub number_few : (refusal : Refusal) → Refusals.number refusal < 100
number_few refusal = omega (arith, (numbered refusal).1)

-- a verdict whose place is within bounds
record Small (most : ℕ) (v : Verdict) : Type 0 where
  pub place : place_of v ≤ most

module _ {most : ℕ} where
  unless_small : (yes : Bool) (refusal : Refusal) → Refusals.place refusal ≡ 0 → Small most (refuse_unless yes refusal)
  unless_small true refusal e = record { place = omega arith }
  unless_small false refusal e = record { place = omega arith }

  then_small : (a b : Verdict) → Small most a → Small most b → Small most (a then b)
  then_small (Ok _) b p q = q
  then_small (Err refusal) b p q = p

  width_small : (n : ℕ) → Small most (Questions.width n)
  width_small n = unless_small (leb 1 n && leb n Questions.max_width) Width refl

  one_pick_small : (m : ℕ) → Small most (Questions.one_pick m)
  one_pick_small m = unless_small (eqb m 1) Picks refl

  head_small : (n : ℕ) (h : Head) → Small most (Questions.head n h)
  head_small n None = record { place = omega arith }
  head_small n (Some h) = unless_small (ltb h n) HeadRange refl

  token_small : (n : ℕ) (h : Head) → Small most (BusCalls.token_question n h)
  token_small n None = record { place = omega arith }
  token_small n (Some t) = unless_small (ltb t n) HeadRange refl

  -- 5, 6 and 7
  length_small : (stated length : ℕ) (refusal : Refusal) → Refusals.place refusal ≡ 0
      → Small most (refuse_unless (eqb length stated) refusal)
  length_small stated length refusal e = unless_small (eqb length stated) refusal e

  -- 1, 3 and 4 of each kind
  state_small : (s : State) → Small most (Questions.state_questions s)
  state_small s =
      let n = s.width in
      let m = s.picks in
      then_small _ _ (then_small _ _ (width_small n) (unless_small ((leb 1 m && leb m Questions.max_picks) && leb m n) Picks refl)) (head_small n s.head)

  tree_state_small : (s : State) → Small most (TreeCalls.state_questions s)
  tree_state_small s =
      let n = s.width in
      then_small _ _
      (then_small _ _ (then_small _ _ (width_small n) (unless_small (member n (map (λ k. 2 ^ k) (range 1 n))) TreeWidth refl)) (one_pick_small s.picks))
      (head_small n s.head)

  bus_state_small : (s : State) → Small most (BusCalls.state_questions s)
  bus_state_small s = then_small _ _ (then_small _ _ (width_small s.width) (one_pick_small s.picks)) (token_small s.width s.head)

first_small : (refusal : ℕ → Refusal) (most : ℕ) (ps : List ℕ)
    → ((i : ℕ) → first ps ≡ Some i → Refusals.place (refusal i) ≤ most) → Small most (refuse_at_first refusal ps)
first_small refusal most [] f = record { place = omega arith }
first_small refusal most (p ∷ ps) f = record { place = f p refl }

bits_small : (bytes : List ℕ) → Small (length bytes) (Questions.bits Requests 0 bytes)
bits_small bytes =
    first_small (NotABit Requests) (length bytes) (places (ltb 1) 0 bytes) (λ i e. omega (arith, (found (ltb 1) 0 i bytes e).high))

-- an outcome that can be printed: what its place and its grants are bounded by
pub record Printable (s : State) (most : ℕ) (o : Effect Granted) : Type 0 where
  pub width : o.answer.state.width ≡ s.width
  pub place : place o.answer ≤ most
  pub grants : length o.written ≡ s.width
  pub next : number o.answer ≡ 0 → start o.answer.state.head < s.width

-- a call that writes: `answer` is what it answers if it is served
writes_printable : {most : ℕ} (v : Verdict) (s : State) (answer : Answer Granted) (target former : List ℕ) → Small most v
    → place answer ≡ 0 → answer.state.width ≡ s.width → length target ≡ s.width
    → length former ≡ s.width → (v ≡ passed → start answer.state.head < s.width)
    → Printable s most (writes v s answer target former)
writes_printable (Ok _) s answer target former small nowhere same long short station =
    record { width = same; place = omega arith; grants = long; next = λ _. station refl }
writes_printable (Err refusal) s answer target former small nowhere same long short station =
    record { width = refl; place = small.place; grants = short; next = λ z. absurd (refusal_number refusal z) }

-- the station of the next head
next_station : (n m : ℕ) (h : Head) (asks : ℕ → Bool) → start h < n → start (next n m h asks) < n
next_station n m h asks l =
    let k = RoundRobinLaws.next_head n m h asks l in omega (arith, k.1, ap start k.2 ∙ RoundRobinLaws.start_at k.0)

module _ (s : State) (requests : List ℕ) where
  abbrev size : ℕ
  size = length {A = ℕ} (replicate s.width 0)

  -- by the round-robin rule
  ruled_printable : (v : Verdict) → Small (length requests) v → (v ≡ passed → start s.head < s.width)
      → Printable s (length requests) (writes v s (RoundRobinCalls.answer s requests) (RoundRobinCalls.granting s requests) (replicate s.width 0))
  ruled_printable v small station =
      writes_printable v s (RoundRobinCalls.answer s requests) (RoundRobinCalls.granting s requests) (replicate s.width 0) small
      refl
      refl
      (RoundRobinLaws.grants_length s.width s.picks s.head (RoundRobinCalls.asking s requests))
      (length-replicate s.width 0)
      (λ z. next_station s.width s.picks s.head (RoundRobinCalls.asking s requests) (station z))

  -- 5, 6 and 8
  cycle_small : Small (length requests) (Questions.cycle_questions s.width requests size)
  cycle_small =
      let n = s.width in
      then_small _ _
      (then_small _ _ (length_small n (length requests) ReadLength refl) (length_small n size WriteLength refl))
      (bits_small requests)

  scan_printable : Printable s (length requests) (RoundRobinCalls.cycle s requests (replicate s.width 0))
  scan_printable =
      let n = s.width in
      ruled_printable (RoundRobinCalls.questions s requests size) (then_small _ _ (state_small s) cycle_small)
      (λ z. (QuestionsLaws.ready s requests size z).allows.station)

  -- the tree's cycle, as a call that writes its grants
  tree_written : (v : Verdict) (answer : Answer Granted) (target formerGrants tree formerNodes : List ℕ)
      → let o = if_passed {A = TreeCalls.TreeEffect} v (record { answer = answer; grants = target; nodes = tree })
      (λ e. record { answer = Answers.refused e s; grants = formerGrants; nodes = formerNodes }) in
      ◌≡◌ {A = Effect Granted} (record { answer = o.answer; written = o.grants }) (writes v s answer target formerGrants)
  tree_written (Ok _) answer target formerGrants tree formerNodes = refl
  tree_written (Err e) answer target formerGrants tree formerNodes = refl

  tree_writes : (grants nodes : List ℕ) → let o = TreeCalls.cycle s requests grants nodes in
      record { answer = o.answer; written = o.grants }
      ≡ writes (TreeCalls.questions s requests (length grants) (length nodes)) s (RoundRobinCalls.answer s requests) (RoundRobinCalls.granting s requests) grants
  unfolding TreeCalls.cycle
  tree_writes grants nodes = tree_written (TreeCalls.questions s requests (length grants) (length nodes)) _ _ _ _ _

  tree_printable : (nodes : List ℕ) → let o = TreeCalls.cycle s requests (replicate s.width 0) nodes in
      Printable s (length requests) (record { answer = o.answer; written = o.grants })
  tree_printable nodes =
      let n = s.width in
      rw (tree_writes (replicate n 0) nodes)
      (ruled_printable (TreeCalls.questions s requests size (length nodes))
      (then_small _ _
      (then_small _ _
      (then_small _ _
      (then_small _ _ (tree_state_small s) (length_small n (length requests) ReadLength refl))
      (length_small n size WriteLength refl))
      (length_small (2 * n) (length nodes) NodesLength refl))
      (bits_small requests))
      (λ z. (TreeCallsLaws.ready s requests size (length nodes) z).allows.station))

  bus_printable : (byte : ℕ) → Printable s (length requests) (BusCalls.cycle s requests (replicate s.width 0) byte)
  bus_printable byte =
      let n = s.width in
      let t = BusCalls.token s in
      let asks = RoundRobinCalls.asking s requests in
      let ack = BusRule.acknowledged byte in
      writes_printable (BusCalls.questions s requests size byte) s (BusCalls.answer s requests byte) (BusCalls.granting s requests) (replicate n 0)
      (then_small _ _ (then_small _ _ (bus_state_small s) cycle_small) (unless_small (leb byte 1) Acknowledge refl))
      refl
      refl
      (ap length (BusLaws.grants_marks n t asks) ∙ ListsLaws.length_table _ 0 n)
      (length-replicate n 0)
      (λ z.
      let station = (BusCallsLaws.ready s requests size byte z).allows.station in
      omega (arith, BusLaws.next_below n t ack asks station, RoundRobinLaws.start_at (BusRule.next n t ack asks)))

  called_printable : (e : Kind) (byte : ℕ) → Printable s (length requests) (called e s requests byte)
  called_printable (RoundRobin Scan) byte = scan_printable
  called_printable (RoundRobin Tree) byte = tree_printable (replicate (2 * s.width) 0)
  called_printable (RoundRobin Thermometer) byte = scan_printable
  called_printable (RoundRobin KoggeStone) byte = scan_printable
  called_printable TokenBus byte = bus_printable byte

pub bus_formed : (n : ℕ) (line : List ℕ) → well_formed TokenBus n line ≡ true → length line ≡ n + 2
bus_formed n line t = eqb-true (length line) (n + 2) (ListsLaws.both (eqb (length line) (n + 2)) (eqb (get_or line n 0) space) t).0

-- a line that question 5 lets pass has a character for each station
pub formed_long : (e : Kind) (n : ℕ) (line : List ℕ) → well_formed e n line ≡ true → n ≤ length line
formed_long (RoundRobin e) n line t = omega (arith, eqb-true (length line) n t)
formed_long TokenBus n line t = omega (arith, bus_formed n line t)

-- a cycle line
module _ (e : Kind) (s : State) (line : List ℕ) where
  abbrev requests : List ℕ
  requests = map wire (take s.width line)

  pub cycle_called : well_formed e s.width line ≡ true → cycle e s line ≡ called e s requests (wire (get_or line (s.width + 1) 0))
  unfolding cycle
  cycle_called t = rw t

  pub cycle_refused : well_formed e s.width line ≡ false
      → cycle e s line ≡ record { answer = Answers.refused ReadLength s; written = replicate s.width 0 }
  unfolding cycle
  cycle_refused f = rw f

  pub cycle_printable : Printable s s.width (cycle e s line)
  cycle_printable =
      ListsLaws.split (well_formed e s.width line)
      (λ t.
      let p = called_printable s requests e (wire (get_or line (s.width + 1) 0)) in
      let long = length-map (take s.width line) wire in
      let part = length-take s.width line in
      rw (cycle_called t)
      (record {
        width = p.width;
        place = omega (arith, p.place, long, part, formed_long e s.width line t);
        grants = p.grants;
        next = p.next;
      }))
      (λ f.
      rw (cycle_refused f)
      (record {
        width = refl;
        place = omega arith;
        grants = length-replicate s.width 0;
        next = λ z. absurd (refusal_number ReadLength z);
      }))

  pub cycle_width : (cycle e s line).answer.state.width ≡ s.width
  cycle_width = cycle_printable.width

  -- a place that is named is a character's
  pub cycle_place : place (cycle e s line).answer ≤ length line
  cycle_place =
      ListsLaws.split (well_formed e s.width line) (λ t. omega (arith, cycle_printable.place, formed_long e s.width line t))
      (λ f. omega (arith, ap (λ (o : Effect Granted). place o.answer) (cycle_refused f)))

  -- a served line has a character for each station
  pub served_long : number (cycle e s line).answer ≡ 0 → s.width ≤ length line
  served_long z =
      ListsLaws.split (well_formed e s.width line) (formed_long e s.width line)
      (λ f. absurd (refusal_number ReadLength (sym (ap (λ (o : Effect Granted). number o.answer) (cycle_refused f)) ∙ z)))

-- a refusal's line: five digits at most for the line's number, two for the refusal's, and those of the place
refusal_long : (k number place digits : ℕ) → k < 100000 → number < 100 → place < 10 ^ suc digits → length (refusal_line k number place) ≤ 19 + digits
unfolding refusal_line
refusal_long k number place digits a b c =
    let one = length-append (decimal k) (refused_word ++ (decimal number ++ ((space ∷ []) ++ (decimal place ++ (line_feed ∷ []))))) in
    let two = length-append (decimal number) ((space ∷ []) ++ (decimal place ++ (line_feed ∷ []))) in
    let three = length-append (decimal place) (line_feed ∷ []) in
    omega (arith, decimal_few 4 k a, decimal_few 1 number b, decimal_few digits place c)

-- one that names no place
pub refusal_short : (k number place : ℕ) → k < 100000 → number < 100 → place ≤ 0 → length (refusal_line k number place) ≤ 19
refusal_short k number place a b c = refusal_long k number place 0 a b (omega arith)

granted_short : (k : ℕ) (grants : List ℕ) (next : ℕ) → k < 100000 → next < 10000 → length (granted k grants next) ≤ length grants + 12
unfolding granted
granted_short k grants next a b =
    let one = length-append (decimal k) ((space ∷ []) ++ (bits grants ++ ((space ∷ []) ++ (decimal next ++ (line_feed ∷ []))))) in
    let two = length-append (bits grants) ((space ∷ []) ++ (decimal next ++ (line_feed ∷ []))) in
    let three = length-append (decimal next) (line_feed ∷ []) in
    let shown = length-map grants bit in
    omega (arith, decimal_few 4 k a, decimal_few 3 next b)

-- what a cycle line prints is at most 19 times as long as the line with its line feed: a place above 0 is in a line with characters
told_short : (k : ℕ) (r : Result Granted Refusal) (grants : List ℕ) (next long : ℕ) → k < 100000 → length grants ≤ Questions.max_width
    → (number_of r ≡ 0 → (next < 10000) × (length grants ≤ long)) → place_of r ≤ length grants → place_of r ≤ long
    → length (told k r grants next) ≤ 19 * (1 + long)
told_short k (Ok _) grants next long few wide served place within =
    let z = served refl in omega (arith, granted_short k grants next few z.0, z.1)
told_short k (Err refusal) grants next long few wide served place within =
    ListsLaws.split (leb (Refusals.place refusal) 0)
    (λ t. omega (arith, refusal_short k (Refusals.number refusal) (Refusals.place refusal) few (number_few refusal) (leb-true (Refusals.place refusal) 0 t)))
    (λ f.
    omega (
      arith,
      refusal_long k (Refusals.number refusal) (Refusals.place refusal) 3 few (number_few refusal) (omega arith),
      leb-false (Refusals.place refusal) 0 f,
    ))

printed_short : (e : Kind) (s : State) (line : List ℕ) (k : ℕ) → s.width ≤ Questions.max_width → k < 100000
    → length (printed k (cycle e s line)) ≤ 19 * (1 + length line)
unfolding printed
printed_short e s line k most few =
    let o = cycle e s line in
    let p = cycle_printable e s line in
    told_short k o.answer.outcome o.written (start o.answer.state.head) (length line) few (omega (arith, p.grants))
    (λ z. (omega (arith, p.next z), omega (arith, p.grants, served_long e s line z)))
    (omega (arith, p.place, p.grants))
    (cycle_place e s line)

-- what lines print is at most 19 times as long as they are with their line feeds, where their numbers have five digits at most
pub run_short : (e : Kind) (s : State) (k : ℕ) (ls : List (List ℕ)) → s.width ≤ Questions.max_width → k + length ls ≤ 100000
    → length (run e s k ls) ≤ 19 * total_length ls
unfolding run
run_short e s k [] wide few = omega arith
run_short e s k (line ∷ ls) wide few =
    let o = cycle e s line in
    let short = printed_short e s line k wide (omega arith) in
    let rest = run_short e o.answer.state (k + 1) ls (omega (arith, cycle_width e s line)) (omega arith) in
    omega (arith, length-append (printed k o) (run e o.answer.state (k + 1) ls))

-- a refused opening names no place
opened_nowhere : (v : Verdict) (s : State) → Small 0 v → place (Answers.opened v s) ≤ 0
opened_nowhere (Ok _) s p = omega arith
opened_nowhere (Err refusal) s p = p.place

pub opening_nowhere : (e : Kind) (n m : ℕ) → place (opening e n m) ≤ 0
opening_nowhere (RoundRobin Scan) n m = opened_nowhere _ (made n m None) (state_small (made n m None))
opening_nowhere (RoundRobin Tree) n m = opened_nowhere _ (made n m None) (tree_state_small (made n m None))
opening_nowhere (RoundRobin Thermometer) n m = opened_nowhere _ (made n m None) (state_small (made n m None))
opening_nowhere (RoundRobin KoggeStone) n m = opened_nowhere _ (made n m None) (state_small (made n m None))
opening_nowhere TokenBus n m = opened_nowhere _ (made n m (Some 0)) (bus_state_small (made n m (Some 0)))

-- and the width of the state that an opening makes is bounded
opened_wide : (v : Verdict) (s : State) → (v ≡ passed → s.width ≤ Questions.max_width) → (Answers.opened v s).state.width ≤ Questions.max_width
opened_wide (Ok _) s p = p refl
opened_wide (Err refusal) s p = omega arith

pub opening_wide : (e : Kind) (n m : ℕ) → (opening e n m).state.width ≤ Questions.max_width
opening_wide (RoundRobin Scan) n m = opened_wide _ (made n m None) (λ z. (QuestionsLaws.allowed (made n m None) z).most)
opening_wide (RoundRobin Tree) n m = opened_wide _ (made n m None) (λ z. (TreeCallsLaws.allowed (made n m None) z).most)
opening_wide (RoundRobin Thermometer) n m = opened_wide _ (made n m None) (λ z. (QuestionsLaws.allowed (made n m None) z).most)
opening_wide (RoundRobin KoggeStone) n m = opened_wide _ (made n m None) (λ z. (QuestionsLaws.allowed (made n m None) z).most)
opening_wide TokenBus n m = opened_wide _ (made n m (Some 0)) (λ z. (BusCallsLaws.allowed (made n m (Some 0)) z).most)
