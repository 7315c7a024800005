-- Laws of the questions: what is known once all have passed, and what passes.
-- Assumes nothing.
use Rattle.std.specs.Prelude.{ℕ, ◌≤◌, ◌<◌, ◌≡◌, refl, Bool, true, false, ◌&&◌, List, [], ◌∷◌, eqb, leb, ltb, length, get_or, None, Some, Result, Ok, Err}
use Rattle.std.proofs.Common.{sym, ap, ◌∙◌, arith, eq-eqb, eqb-true, leb-true, ltb-true, ltb-false, le-leb, lt-ltb, le-ltb}
use Rattle.rules.specs.Head.{Head}
use Rattle.rules.specs.Lists.Laws as ListsLaws
use Rattle.rules.specs.RoundRobin.{start}
use Rattle.rules.proofs.RoundRobin.Laws as RoundRobinLaws
use Rattle.arbiter.specs.declared.State.{State}
use Rattle.arbiter.specs.declared.refusal.Buffer.{Buffer}
use Rattle.arbiter.specs.declared.refusal.Buffer.TheVariants.{Requests}
use Rattle.arbiter.specs.declared.refusal.Refusal.{Refusal}
use Rattle.arbiter.specs.declared.refusal.Refusal.TheVariants.{NotABit}
use Rattle.arbiter.specs.declared.question.RefusedReading.{RefusedReading}
use Rattle.search.specs.Places.{Bits, highest}
use Rattle.search.specs.Places.Laws.{Free, free_of, places_none, highest_bits, bits_highest}
use Rattle.arbiter.specs.Questions.{Verdict, passed, refuse_unless, refuse_at_first, ◌then◌, max_width, max_picks, width, picks, one_pick, head, read_length, write_length, bits, state_questions, write_questions, cycle_questions, with_highest, read, cycle}

-- it does not matter which questions are taken together
pub then_assoc : {A : Type 0} (a b : Verdict) (c : Result A Refusal) → (a then b then c) ≡ (a then (b then c))
then_assoc (Ok _) b c = refl
then_assoc (Err e) b c = refl

-- where no question refuses, neither the first does nor any after it
pub then_served : {A : Type 0} {x : A} (a : Verdict) (b : Result A Refusal) → (a then b) ≡ Ok x → (a ≡ passed) × (b ≡ Ok x)
then_served (Ok _) b z = (refl, z)
then_served {A} {x} (Err e) b z = let no : ⊥ = cc in absurd no

-- and the other way round
pub then_passed : {A : Type 0} {x : A} (a : Verdict) (b : Result A Refusal) → a ≡ passed → b ≡ Ok x → (a then b) ≡ Ok x
then_passed a b z y = rw z y

-- a question that does not refuse has been answered yes
pub unless_served : (yes : Bool) (refusal : Refusal) → refuse_unless yes refusal ≡ passed → yes ≡ true
unless_served true refusal z = refl
unless_served false refusal z = let no : ⊥ = cc in absurd no

-- a question with a place passes where there is none to refuse
pub first_served : (refusal : ℕ → Refusal) (ps : List ℕ) → refuse_at_first refusal ps ≡ passed → ps ≡ []
first_served refusal [] z = refl
first_served refusal (p ∷ ps) z = let no : ⊥ = cc in absurd no

-- what is known once 1, 3 and 4 have passed
pub record Allowed (s : State) : Type 0 where
  pub some : 1 ≤ s.width
  pub most : s.width ≤ max_width
  pub picked : 1 ≤ s.picks
  pub few : s.picks ≤ max_picks
  pub fit : s.picks ≤ s.width
  pub station : start s.head < s.width

pub width_served : (n : ℕ) → width n ≡ passed → (1 ≤ n) × (n ≤ max_width)
width_served n z =
    let t = ListsLaws.both (leb 1 n) (leb n max_width) (unless_served _ _ z) in
    (leb-true 1 n t.0, leb-true n max_width t.1)

pub picks_served : (n m : ℕ) → picks n m ≡ passed → (1 ≤ m) × (m ≤ max_picks) × (m ≤ n)
picks_served n m z =
    let t = ListsLaws.both (leb 1 m && leb m max_picks) (leb m n) (unless_served _ _ z) in
    let u = ListsLaws.both (leb 1 m) (leb m max_picks) t.0 in
    (leb-true 1 m u.0, leb-true m max_picks u.1, leb-true m n t.1)

pub one_pick_served : (m : ℕ) → one_pick m ≡ passed → m ≡ 1
one_pick_served m z = eqb-true m 1 (unless_served _ _ z)

pub head_served : (n : ℕ) (h : Head) → 1 ≤ n → head n h ≡ passed → start h < n
head_served n None l z = omega (arith, RoundRobinLaws.start_none)
head_served n (Some h) l z = omega (arith, RoundRobinLaws.start_at h, ltb-true h n (unless_served _ _ z))

pub length_served : (refusal : Refusal) (stated length : ℕ) → refuse_unless (eqb length stated) refusal ≡ passed → length ≡ stated
length_served refusal stated length z = eqb-true length stated (unless_served _ _ z)

pub bits_served : (buffer : Buffer) (bytes : List ℕ) → bits buffer 0 bytes ≡ passed → Bits bytes
bits_served buffer bytes z i l =
    let none = free_of {test = ltb 1} {from = 0} {bytes = bytes} (first_served _ _ z) in ltb-false 1 (get_or bytes i 0) (none.at i (omega arith) l)

-- 8 passes exactly if the highest byte is at most 1
pub highest_served : (buffer : Buffer) (bytes : List ℕ) → bits buffer 0 bytes ≡ passed → highest bytes ≤ 1
highest_served buffer bytes z = bits_highest bytes (bits_served buffer bytes z)

pub highest_passes : (buffer : Buffer) (bytes : List ℕ) → highest bytes ≤ 1 → bits buffer 0 bytes ≡ passed
highest_passes buffer bytes l =
    let free : Free (ltb 1) 0 (length bytes) bytes =
    record { at = λ k a u. le-ltb 1 (get_or bytes k 0) (highest_bits bytes l k u) } in
    ap (refuse_at_first (NotABit buffer)) (places_none free (omega arith))

pub allowed : (s : State) → state_questions s ≡ passed → Allowed s
allowed s z =
    let two = then_served (width s.width then picks s.width s.picks) (head s.width s.head) z in
    let one = then_served (width s.width) (picks s.width s.picks) two.0 in
    let w = width_served s.width one.0 in
    let p = picks_served s.width s.picks one.1 in
    record {
      some = w.0;
      most = w.1;
      picked = p.0;
      few = p.1;
      fit = p.2;
      station = head_served s.width s.head w.0 two.1;
    }

-- what is known of a call that writes once 1, 3, 4 and 6 have passed
pub record Writable (s : State) (stated length : ℕ) : Type 0 where
  pub allows : Allowed s
  pub long : length ≡ stated

pub writable : (s : State) (stated length : ℕ) → write_questions s stated length ≡ passed → Writable s stated length
writable s stated length z =
    let both = then_served (state_questions s) (write_length stated length) z in
    record { allows = allowed s both.0; long = length_served _ stated length both.1 }

-- what is known of a cycle once 5, 6 and 8 have passed
pub record Lent (n : ℕ) (requests : List ℕ) (size : ℕ) : Type 0 where
  pub asked : length requests ≡ n
  pub room : size ≡ n
  pub wires : Bits requests

pub lent : (n : ℕ) (requests : List ℕ) (size : ℕ) → cycle_questions n requests size ≡ passed → Lent n requests size
lent n requests size z =
    let five = read_length n (length requests) in
    let b = then_served (five then write_length n size) (bits Requests 0 requests) z in
    let a = then_served five (write_length n size) b.0 in
    record {
      asked = length_served _ n (length requests) a.0;
      room = length_served _ n size a.1;
      wires = bits_served Requests requests b.1;
    }

-- what is known of a cycle once 1, 3, 4, 5, 6 and 8 have passed
pub record Ready (s : State) (requests : List ℕ) (size : ℕ) : Type 0 where
  pub allows : Allowed s
  pub lends : Lent s.width requests size

pub ready : (s : State) (requests : List ℕ) (size : ℕ) → (state_questions s then cycle_questions s.width requests size) ≡ passed
    → Ready s requests size
ready s requests size z =
    let both = then_served (state_questions s) (cycle_questions s.width requests size) z in
    record { allows = allowed s both.0; lends = lent s.width requests size both.1 }

-- the same told by the requests alone: there is one for each station
pub of_requests : {s : State} {requests : List ℕ} {size : ℕ} → Ready s requests size → Ready (record s { width = length requests }) requests size
of_requests r = rw r.lends.asked r

-- questions that pass
pub width_passes : (n : ℕ) → 1 ≤ n → n ≤ max_width → width n ≡ passed
width_passes n l u = rw (le-leb 1 n l, le-leb n max_width u)

pub picks_passes : (n m : ℕ) → 1 ≤ m → m ≤ max_picks → m ≤ n → picks n m ≡ passed
picks_passes n m l u f = rw (le-leb 1 m l, le-leb m max_picks u, le-leb m n f)

pub head_passes : (n : ℕ) (h : Head) → start h < n → head n h ≡ passed
head_passes n None l = refl
head_passes n (Some h) l = let below : h < n = omega (arith, RoundRobinLaws.start_at h) in rw (lt-ltb h n below)

pub allows : (s : State) → Allowed s → state_questions s ≡ passed
allows s a =
    then_passed _ (head s.width s.head)
    (then_passed (width s.width) _ (width_passes s.width a.some a.most) (picks_passes s.width s.picks a.picked a.few a.fit))
    (head_passes s.width s.head a.station)

pub writes : (s : State) (stated length : ℕ) → Allowed s → length ≡ stated → write_questions s stated length ≡ passed
writes s stated length a e = then_passed (state_questions s) _ (allows s a) (rw (eq-eqb length stated e))

pub bits_passes : (buffer : Buffer) (bytes : List ℕ) → Bits bytes → bits buffer 0 bytes ≡ passed
bits_passes buffer bytes b = highest_passes buffer bytes (bits_highest bytes b)

-- another head that is none or a station passes where one did
pub head_moves : (a : Verdict) (n : ℕ) (h k : Head) → (a then head n h) ≡ passed → start k < n → (a then head n k) ≡ passed
head_moves a n h k z l = then_passed a _ (then_served a (head n h) z).0 (head_passes n k l)

pub lends : (n : ℕ) (requests : List ℕ) (size : ℕ) → length requests ≡ n → size ≡ n → Bits requests
    → cycle_questions n requests size ≡ passed
lends n requests size long room wires =
    then_passed (read_length n (length requests) then write_length n size) _
    (then_passed (read_length n (length requests)) _ (rw (eq-eqb (length requests) n long)) (rw (eq-eqb size n room)))
    (bits_passes Requests requests wires)

-- the refusal alone, without the highest byte
abbrev pub refusal_alone : Result ℕ RefusedReading → Result ℕ Refusal
refusal_alone (Ok high) = Ok high
refusal_alone (Err reading) = Err reading.refusal

-- a reading is its questions and then the highest byte, but for the highest byte beside a refusal
pub reading_alone : (before : Verdict) (buffer : Buffer) (bytes : List ℕ)
    → refusal_alone (read before buffer bytes) ≡ (before then bits buffer 0 bytes then Ok (highest bytes))
reading_alone (Err refusal) buffer bytes = refl
reading_alone (Ok _) buffer bytes = told (bits buffer 0 bytes)
  where
    told : (v : Verdict) → refusal_alone (with_highest (highest bytes) v) ≡ (v then Ok (highest bytes))
    told (Ok _) = refl
    told (Err refusal) = refl

-- where a cycle's requests have been read all its questions have passed
pub cycle_read : {high : ℕ} (n : ℕ) (requests : List ℕ) (size : ℕ) → cycle n requests size ≡ Ok high
    → (cycle_questions n requests size then Ok (highest requests)) ≡ Ok high
cycle_read n requests size e =
    sym (reading_alone (read_length n (length requests) then write_length n size) Requests requests) ∙ ap refusal_alone e

-- a cycle that has asked all its questions in two steps has passed them, and has the highest byte in hand
pub read_passed : {u : Unit {0}} {high : ℕ} (byState : Verdict) (n : ℕ) (requests : List ℕ) (size : ℕ) → byState ≡ Ok u
    → (cycle_questions n requests size then Ok (highest requests)) ≡ Ok high
    → ((byState then cycle_questions n requests size) ≡ passed) × (high ≡ highest requests)
read_passed {u} {high} byState n requests size z e =
    let both = then_served {x = high} (cycle_questions n requests size) (Ok (highest requests)) e in
    let same : highest requests ≡ high = cc in
    (then_passed byState (cycle_questions n requests size) z both.0, sym same)
