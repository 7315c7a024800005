-- The code that a walk carries is the running code of the cycle: at each station 01's saturated count of those that ask before it.
-- Promises `code_first`, `code_next`, `code_coded`, `code_counts`, `hands_code`, `to_counts`, `to_codes`, `carried_high`,
-- `carried_low`, `carried_from_head` and `carried_from_zero`. The rest are steps of their proofs.
-- Assumes nothing.
use Rattle.std.specs.Prelude.{ℕ, suc, ◌+◌, ◌-◌, ◌≤◌, ◌<◌, min, ◌≡◌, Bool, true, ◌||◌, List, [], ◌++◌, map, ltb, length, get_or}
use Rattle.std.proofs.Common.{sym, ap, ◌∙◌, append_assoc, arith}
use Rattle.std.proofs.lemmas.List.{map-append}
use Rattle.std.specs.Int.Count.{ones}
use Rattle.rules.specs.Head.{Head}
use Rattle.rules.specs.Lists.{range}
use Rattle.rules.specs.Lists.Laws as ListsLaws
use Rattle.rules.specs.RoundRobin.{start}
use Rattle.rules.specs.Thermometer.{is_code, add, input, running, running_codes}
use Rattle.rules.proofs.Thermometer.Laws.{ones_code, add_input}
use Rattle.rules.proofs.Thermometer.Running.{running_first, running_next, running_prefix, running_carried, running_is_code, running_run, inputs_runs, codes_inputs}
use Rattle.rules.specs.Walk as Walks
use Rattle.rules.specs.Walk.{reached}
use Rattle.rules.proofs.Walk.Laws as WalkLaws
use Rattle.arbiter.specs.Decisions.{requested}
use Rattle.thermometer.specs.declared.Walk.{Walk}
use Rattle.thermometer.specs.Runs.{Ran, begun, asked, code_at, CarriedHigh, CarriedLow}

-- the requests of a run of stations
module _ (m : ℕ) (requests : List ℕ) where
  asked_length : (from k : ℕ) → length (asked m requests from k) ≡ k
  asked_length = ListsLaws.length_table (input m (requested requests))

  asked_append : (from j k : ℕ) → asked m requests from (j + k) ≡ asked m requests from j ++ asked m requests (from + j) k
  asked_append from j k =
      ap (map (input m (requested requests))) (ListsLaws.range_append from j k)
      ∙ map-append (input m (requested requests)) (range from j) (range (from + j) k)

-- the running code of a run that starts from c
module _ (m : ℕ) (requests : List ℕ) (from to c : ℕ) where
  abbrev asks : ℕ → Bool
  asks = requested requests

  abbrev inputs : List ℕ
  inputs = asked m requests from (to - from)

  many : length inputs ≡ to - from
  many = asked_length m requests from (to - from)

  -- before its first station
  pub code_first : code_at m requests from to c from ≡ c
  code_first = let none : from - from ≡ 0 = omega arith in rw none (running_first m c inputs)

  -- one adder step takes it past a station
  pub code_next : (i : ℕ) → from ≤ i → i < to → get_or requests i 0 ≤ 1
      → code_at m requests from to c (i + 1) ≡ add m (code_at m requests from to c i) (get_or requests i 0)
  code_next i l u wire =
      let k = i - from in
      let here : from + k ≡ i = omega arith in
      let request : get_or inputs k 0 ≡ input m asks i = ListsLaws.get_d_table (input m asks) from (to - from) k (omega arith) ∙ ap (input m asks) here in
      let before = get_or (running m c inputs) k 0 in
      let next : i + 1 - from ≡ suc k = omega arith in
      ap (λ (j : ℕ). get_or (running m c inputs) j 0) next
      ∙ running_next m c inputs k (omega (arith, many))
      ∙ ap (add m before) request
      ∙ add_input m before (get_or requests i 0) wire

  module _ (coded : is_code m c ≡ true) (w : ℕ) (l : from ≤ w) (u : w ≤ to) where
    -- it stays a code
    pub code_coded : is_code m (code_at m requests from to c w) ≡ true
    code_coded = running_is_code m c inputs (w - from) coded (omega (arith, many))

    -- and counts on from what c counts
    pub code_counts : ones (code_at m requests from to c w) ≡ min m (reached asks from w (ones c))
    code_counts = ap ones (running_run m asks c from to w coded l u) ∙ ones_code (min m (reached asks from w (ones c)))

-- a run to which the walk comes with a code for m
module _ (m : ℕ) (requests : List ℕ) (from to : ℕ) (walk now : Walk) (old new : List ℕ) (coded : is_code m walk.code ≡ true)
    (l : from ≤ to) where
  -- hands on such a code
  pub hands_code : Ran m requests from to walk old now new → is_code m now.code ≡ true
  hands_code r = rw r.carried (code_coded m requests from to walk.code coded to l (omega arith))

  -- and is the run that counts the stations which ask
  abbrev ByCounts : Type 0
  ByCounts =
      Walks.Ran m (requested requests) from to (ones walk.code) walk.last old (ones now.code) now.last new

  same : (w : ℕ) → from ≤ w → w ≤ to
      → min m (ones (code_at m requests from to walk.code w)) ≡ min m (reached (requested requests) from w (ones walk.code))
  same w k u = omega (arith, code_counts m requests from to walk.code coded w k u)

  -- with what it says of more than m
  abbrev Over : Type 0
  Over = now.more ≡ (walk.more || ltb m (reached (requested requests) from to (ones walk.code)))

  pub to_counts : Ran m requests from to walk old now new → ByCounts
  to_counts r = WalkLaws.recounted l same r.ran

  pub to_codes : ByCounts → now.code ≡ code_at m requests from to walk.code to → Over → Ran m requests from to walk old now new
  to_codes r e o = record { carried = e; ran = WalkLaws.recounted l (λ w k u. sym (same w k u)) r; more = o }

-- a walk from the first station, and a walk that goes on from 0: `half` is how far it has come at the last station, and `now` how
-- far before station w. What it carries is the cycle's running code at the position of w, and past the last where no station is left
module _ (n m : ℕ) (h : Head) (requests old mid new : List ℕ) (half now : Walk) (w : ℕ) where
  abbrev f : ℕ
  f = start h

  abbrev part : ℕ → ℕ → List ℕ
  part = asked m requests

  cycle_codes : running_codes n m h (requested requests) ≡ running m 0 (part f (n - f) ++ part 0 f)
  cycle_codes = codes_inputs n m h (requested requests) ∙ ap (running m 0) (inputs_runs n m h (requested requests))

  -- from the first on
  pub carried_high : f ≤ w → w ≤ n → Ran m requests f w begun old now new → now.code ≡ get_or (running_codes n m h (requested requests)) (w - f) 0
  carried_high l u r =
      let parts : n - f ≡ (w - f) + (n - w) = omega arith in
      let all : part f (n - f) ++ part 0 f ≡ part f (w - f) ++ (part (f + (w - f)) (n - w) ++ part 0 f) =
      rw (parts, asked_append m requests f (w - f) (n - w)) (append_assoc (part f (w - f)) (part (f + (w - f)) (n - w)) (part 0 f)) in
      r.carried
      ∙ sym (rw (cycle_codes, all) (running_prefix m 0 (part f (w - f)) _ (w - f) (omega (arith, asked_length m requests f (w - f)))))

  -- and from 0 on
  pub carried_low : w ≤ f → Ran m requests f n begun old half mid → Ran m requests 0 w half mid now new
      → now.code ≡ get_or (running_codes n m h (requested requests)) (n - f + w) 0
  carried_low l one two =
      let whole : w - 0 ≡ w = omega arith in
      let parts : f ≡ w + (f - w) = omega arith in
      let upto : get_or (running m half.code (part 0 f)) w 0 ≡ get_or (running m half.code (part 0 w)) w 0 =
      ap (λ (xs : List ℕ). get_or (running m half.code xs) w 0) (ap (part 0) parts ∙ asked_append m requests 0 w (f - w))
      ∙ running_prefix m half.code (part 0 w) _ w (omega (arith, asked_length m requests 0 w)) in
      let on = rw (asked_length m requests f (n - f)) at (running_carried m 0 (part f (n - f)) (part 0 f) w) in
      (rw whole at two.carried)
      ∙ sym (rw cycle_codes (on ∙ ap (λ (c : ℕ). get_or (running m c (part 0 f)) w 0) (sym one.carried) ∙ upto))

-- as they are promised
pub carried_from_head : CarriedHigh
carried_from_head n m h requests old new now w = carried_high n m h requests old [] new now now w

pub carried_from_zero : CarriedLow
carried_from_zero n m h requests old mid new half now w = carried_low n m h requests old mid new half now w
