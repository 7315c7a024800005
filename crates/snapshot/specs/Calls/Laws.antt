-- Laws of the snapshot.
-- Assumes nothing.
use Rattle.std.specs.Int.{from_bool}
use Rattle.std.specs.Prelude.{ℕ, ◌+◌, ◌-◌, ◌*◌, ◌/◌, ◌%◌, ◌<◌, ◌≤◌, ◌≡◌, refl, cond, ◌||◌, List, [], ◌∷◌, eqb, length, get_or, set}
use Rattle.std.proofs.Common.{is_some, sym, ap, arith, eq-eqb, ne_eqb, eqb-true}
use Rattle.std.proofs.lemmas.Bool.{eqb-false}
use Rattle.rules.specs.Head.{Head}
use Rattle.std.specs.Prelude.{None, Some, Ok, Err}
use Rattle.rules.specs.Lists.Laws as ListsLaws
use Rattle.rules.specs.RoundRobin.{start}
use Rattle.rules.proofs.RoundRobin.Laws.{start_none, start_at}
use Rattle.arbiter.specs.declared.State.{State}
use Rattle.arbiter.specs.declared.refusal.Buffer.TheVariants.{Snapshot}
use Rattle.arbiter.specs.declared.refusal.Refusal.{Refusal}
use Rattle.arbiter.specs.Questions as Questions
use Rattle.arbiter.specs.Questions.{Verdict, passed, ◌then◌}
use Rattle.arbiter.specs.Questions.Laws.{then_served, unless_served, width_passes}
use Rattle.search.specs.Words.{number}
use Rattle.arbiter.specs.Answers.{served, refused, nothing}
use Rattle.snapshot.specs.declared.Fields.{Fields}
use Rattle.snapshot.specs.Calls.{size, short_size, mark, head_bytes, saved, long_fields, short_fields, fields, marked, read_length, no_stray, allowed, state, long_questions, short_questions, questions, read}

-- six bytes that are all set
pub six_set : (a b c d f g : ℕ) (l : List ℕ) → length l ≡ size
    → set (set (set (set (set (set l 0 a) 1 b) 2 c) 3 d) 4 f) 5 g ≡ a ∷ b ∷ c ∷ d ∷ f ∷ g ∷ []
six_set a b c d f g [] e = absurd (omega arith)
six_set a b c d f g (h ∷ []) e = absurd (omega arith)
six_set a b c d f g (h ∷ i ∷ []) e = absurd (omega arith)
six_set a b c d f g (h ∷ i ∷ j ∷ []) e = absurd (omega arith)
six_set a b c d f g (h ∷ i ∷ j ∷ k ∷ []) e = absurd (omega arith)
six_set a b c d f g (h ∷ i ∷ j ∷ k ∷ l ∷ []) e = absurd (omega arith)
six_set a b c d f g (h ∷ i ∷ j ∷ k ∷ l ∷ m ∷ []) e = refl
six_set a b c d f g (h ∷ i ∷ j ∷ k ∷ l ∷ m ∷ o ∷ r) e = absurd (omega arith)

-- a list of six
pub six : (l : List ℕ) → length l ≡ size → l ≡ get_or l 0 0 ∷ get_or l 1 0 ∷ get_or l 2 0 ∷ get_or l 3 0 ∷ get_or l 4 0 ∷ get_or l 5 0 ∷ []
six [] e = absurd (omega arith)
six (a ∷ []) e = absurd (omega arith)
six (a ∷ b ∷ []) e = absurd (omega arith)
six (a ∷ b ∷ c ∷ []) e = absurd (omega arith)
six (a ∷ b ∷ c ∷ d ∷ []) e = absurd (omega arith)
six (a ∷ b ∷ c ∷ d ∷ f ∷ []) e = absurd (omega arith)
six (a ∷ b ∷ c ∷ d ∷ f ∷ g ∷ []) e = refl
six (a ∷ b ∷ c ∷ d ∷ f ∷ g ∷ h ∷ l) e = absurd (omega arith)

-- the head's bytes, by the station where the order starts
head_bytes_lem : (h : Head) → head_bytes h ≡ start h % 256 ∷ start h / 256 ∷ mark h ∷ []
head_bytes_lem None = rw start_none
head_bytes_lem (Some h) = rw (start_at h)

-- once 5 has passed, what is not short is long
pub long_size : (n : ℕ) → read_length n ≡ passed → (n ≡ short_size → ⊥) → n ≡ size
long_size n z not_short =
    eqb-true n size (rw (ne_eqb n short_size not_short) at (unless_served (eqb n short_size || eqb n size) _ z))

pub fields_short : (bytes : List ℕ) → length bytes ≡ short_size → fields bytes ≡ short_fields bytes
unfolding fields
fields_short bytes e = rw (eq-eqb (length bytes) short_size e)

pub fields_long : (bytes : List ℕ) → length bytes ≡ size → fields bytes ≡ long_fields bytes
unfolding fields
fields_long bytes e =
    let not_short : length bytes ≡ short_size → ⊥ = λ s. absurd (omega arith) in rw (ne_eqb (length bytes) short_size not_short)

-- two bytes as the library puts them together
pub word : (low high : ℕ) → low + high * 256 ≡ number (low ∷ high ∷ [])
word low high = omega arith

-- so once 5 has passed, either form says what its bytes say
pub held_short : (bytes : List ℕ) → length bytes ≡ short_size → (read_length (length bytes) then Ok (fields bytes)) ≡ Ok (short_fields bytes)
held_short bytes e = rw (fields_short bytes e, e)

pub held_long : (bytes : List ℕ) → length bytes ≡ size → (read_length (length bytes) then Ok (fields bytes)) ≡ Ok (long_fields bytes)
held_long bytes e = rw (fields_long bytes e, e)

short_width : (bytes : List ℕ) → (short_fields bytes).width ≡ get_or bytes 0 0 + 1
unfolding short_fields
short_width bytes = refl

-- where 1 passes, it makes no difference that it is asked
width_asked : (n : ℕ) (b c d : Verdict) → 1 ≤ n → n ≤ Questions.max_width
    → (Questions.width n then b then c then d) ≡ (b then c then d)
width_asked n b c d l u = rw (width_passes n l u)

-- the questions after 5, in the order in which they are asked of either form
pub asked : (bytes : List ℕ) → get_or bytes 0 0 < 256 → read_length (length bytes) ≡ passed
    → (Questions.bits Snapshot (length bytes - 1) bytes then allowed (fields bytes))
    ≡ cond (eqb (length bytes) short_size) (short_questions bytes) (long_questions bytes)
asked bytes byte z =
    ListsLaws.split (eqb (length bytes) short_size)
    (λ t.
    let e = eqb-true (length bytes) short_size t in
    let last : length bytes - 1 ≡ 3 = omega arith in
    let f = short_fields bytes in
    rw (t, last, fields_short bytes e)
    (ap (λ (v : Verdict). Questions.bits Snapshot 3 bytes then v)
    (width_asked f.width (Questions.picks f.width f.picks) (Questions.head f.width (marked f.station f.mark)) (no_stray f)
    (omega (arith, short_width bytes)) (omega (arith, short_width bytes)))))
    (λ n.
    let e = long_size (length bytes) z (eqb-false (length bytes) short_size n) in
    let last : length bytes - 1 ≡ 5 = omega arith in
    rw (n, last, fields_long bytes e))

-- and the whole of the questions, once 5 has passed
asked_whole : (bytes : List ℕ) → get_or bytes 0 0 < 256 → read_length (length bytes) ≡ passed
    → questions bytes ≡ (Questions.bits Snapshot (length bytes - 1) bytes then allowed (fields bytes))
asked_whole bytes byte z = rw z (sym (asked bytes byte z))

-- the questions once 5 has passed, of a snapshot that says f, and what is made of what it says
pub asked_rest : {A : Type 0} (make : Fields → A) (bytes : List ℕ) (f : Fields) → get_or bytes 0 0 < 256
    → (read_length (length bytes) then Ok (fields bytes)) ≡ Ok f
    → (questions bytes then Ok (make (fields bytes))) ≡ (Questions.bits Snapshot (length bytes - 1) bytes then allowed f then Ok (make f))
asked_rest make bytes f byte e =
    let five = then_served (read_length (length bytes)) (Ok (fields bytes)) e in
    let same : fields bytes ≡ f = cc in
    rw (asked_whole bytes byte five.0, same)

-- reading answers by what the questions say
pub read_passed : (bytes : List ℕ) (f : Fields) → (questions bytes then Ok (fields bytes)) ≡ Ok f
    → read bytes ≡ served (state f)
read_passed bytes f e =
    let both = then_served (questions bytes) (Ok (fields bytes)) e in
    let same : fields bytes ≡ f = cc in
    rw (both.0, same)

pub read_refused : (bytes : List ℕ) (refusal : Refusal) → (questions bytes then Ok (fields bytes)) ≡ Err refusal
    → read bytes ≡ refused refusal nothing
read_refused bytes refusal e = rw (by (questions bytes) e)
  where
    by : (v : Verdict) → (v then Ok (fields bytes)) ≡ Err refusal → v ≡ Err refusal
    by (Ok _) e = let no : ⊥ = cc in absurd no
    by (Err r) e = let same : r ≡ refusal = cc in rw same

-- the mark, by whether there is a head
pub mark_bit : (h : Head) → from_bool (is_some h) ≡ mark h
mark_bit None = refl
mark_bit (Some h) = refl

-- the bytes that are written, each as it was worked out: `at` is the station
pub six_saved : (s : State) {a b at c d m : ℕ} → a ≡ (s.width - 1) % 256 → b ≡ (s.width - 1) / 256 → at ≡ start s.head
    → c ≡ at % 256 → d ≡ at / 256 → m ≡ mark s.head → (a ∷ b ∷ s.picks ∷ c ∷ d ∷ m ∷ []) ≡ saved s
six_saved s is-a is_b is_at is_c is-d is_m = rw (is-a, is_b, is_c, is-d, is_at, is_m, head_bytes_lem s.head)
