-- The theorems of specs/RoundTrips.antt.
-- Assumes nothing.
use Prim.Native.Nat.{ℕ, ◌+◌, ◌-◌, ◌/◌, ◌%◌, ◌≤◌, ◌<◌}
use mathlib.Core.Path.{◌≡◌, refl, sym, ap, ◌∙◌}
use mathlib.Core.Bool.{true, ◌||◌}
use mathlib.Core.List.{List, [], ◌∷◌}
use native.Mathlib.Omega.{arith}
use lib.Dec.{eqb, ltb}
use lib.ListN.{length, get_or}
use borrow.Author.Tests.{eqb-true, eqb-false, ltb-false}
use Rattle.rules.specs.Head.{Head}
use Rattle.std.specs.Prelude.{None, Some, Ok, Err}
use Rattle.rules.specs.Lists.Laws as ListsLaws
use Rattle.arbiter.specs.declared.Answer.{Answer}
use Rattle.arbiter.specs.declared.State.{State}
use Rattle.arbiter.specs.declared.refusal.Buffer.TheVariants.{Snapshot}
use Rattle.search.specs.Words as Words
use Rattle.search.specs.Places.Laws.{Free, free_of}
use Rattle.arbiter.specs.Questions as Questions
use Rattle.arbiter.specs.Questions.{Verdict, passed, ◌then◌}
use Rattle.arbiter.specs.Questions.Laws as QuestionsLaws
use Rattle.arbiter.specs.Answers.{made, number, number_of, served, opened}
use Rattle.arbiter.specs.Answers.Laws as AnswersLaws
use Rattle.snapshot.specs.declared.Fields.{Fields}
use Rattle.snapshot.specs.Calls as SnapshotCalls
use Rattle.snapshot.specs.Calls.{marked, fields, allowed, no_stray, state, questions, saved}
use Rattle.snapshot.specs.Calls.Laws as SnapshotCallsLaws
use Rattle.snapshot.specs.RoundTrips.{SnapshotReadBack, SnapshotWrittenBack, ShortReadAlike, ShortLengthened}

-- the head that fields say
abbrev head_of : Fields → Head
head_of f = marked f.station f.mark

-- what a snapshot says was what it was made of
record Holds (n m : ℕ) (h : Head) (bytes : List ℕ) : Type 0 where
  pub width : (fields bytes).width ≡ n
  pub picks : (fields bytes).picks ≡ m
  pub head : head_of (fields bytes) ≡ h
  pub clean : no_stray (fields bytes) ≡ passed
  pub mark : Questions.bits Snapshot (length bytes - 1) bytes ≡ passed
  pub long : length bytes ≡ SnapshotCalls.size

two_bytes_lem : (x : ℕ) → Words.number (SnapshotCalls.two_bytes x) ≡ x
two_bytes_lem x = omega arith

holds : (n m : ℕ) (h : Head) → 1 ≤ n → Holds n m h (saved (made n m h))
unfolding fields SnapshotCalls.long_fields
holds n m None l =
    record {
      width = omega (arith, two_bytes_lem (n - 1));
      picks = refl;
      head = refl;
      clean = refl;
      mark = refl;
      long = refl;
    }
holds n m (Some h) l =
    record {
      width = omega (arith, two_bytes_lem (n - 1));
      picks = refl;
      head = ap (λ (x : ℕ). Some x) (two_bytes_lem h);
      clean = refl;
      mark = refl;
      long = refl;
    }

-- a state that passes 1, 3 and 4 is read from its snapshot
read_saved : (s : State) → QuestionsLaws.Allowed s → SnapshotCalls.read (saved s) ≡ served s
read_saved s a =
    let bytes = saved s in
    let k = holds s.width s.picks s.head a.some in
    let f = fields bytes in
    let five : SnapshotCalls.read_length (length bytes) ≡ passed = rw k.long in
    let four : Questions.state_questions (state f) ≡ passed =
    rw (k.width, k.picks, k.head) (QuestionsLaws.allows s a) in
    let rest = QuestionsLaws.then_passed (Questions.bits Snapshot (length bytes - 1) bytes) (allowed f) k.mark (QuestionsLaws.then_passed _ (no_stray f) four k.clean) in
    let passes : questions bytes ≡ passed =
    QuestionsLaws.then_passed (SnapshotCalls.read_length (length bytes)) _ five
    (sym (SnapshotCallsLaws.asked bytes (omega arith) five) ∙ rest) in
    let same : served (state f) ≡ served s = rw (k.width, k.picks, k.head) in
    AnswersLaws.passed_is (questions bytes) _ _ passes ∙ same

pub snapshot_read_back : SnapshotReadBack
snapshot_read_back s former z =
    let v = Questions.write_questions s SnapshotCalls.size (length former) in
    let passes : v ≡ passed = AnswersLaws.writes_passed v s (served s) (saved s) former z in
    let a = (QuestionsLaws.writable s SnapshotCalls.size (length former) passes).allows in
    ap (λ o. SnapshotCalls.read o.written) (AnswersLaws.writes_is v s (served s) (saved s) former passes) ∙ read_saved s a

-- what is known of a snapshot that is served
record Served (bytes : List ℕ) : Type 0 where
  pub read : SnapshotCalls.read bytes ≡ served (state (fields bytes))
  pub allows : QuestionsLaws.Allowed (state (fields bytes))
  pub clean : (eqb (fields bytes).mark 1 || eqb (fields bytes).station 0) ≡ true
  pub mark : get_or bytes (length bytes - 1) 0 ≤ 1

serves : (bytes : List ℕ) → ((i : ℕ) → get_or bytes i 0 < 256) → 1 ≤ length bytes → number (SnapshotCalls.read bytes) ≡ 0 → Served bytes
serves bytes byte some z =
    let f = fields bytes in
    let v = questions bytes in
    let last = length bytes - 1 in
    let passes : v ≡ passed = AnswersLaws.opened_passed v (state f) z in
    let five = QuestionsLaws.then_served (SnapshotCalls.read_length (length bytes)) _ passes in
    let rest : (Questions.bits Snapshot last bytes then allowed f) ≡ passed = SnapshotCallsLaws.asked bytes (byte 0) five.0 ∙ five.1 in
    let eight = QuestionsLaws.then_served (Questions.bits Snapshot last bytes) (allowed f) rest in
    let four = QuestionsLaws.then_served (Questions.state_questions (state f)) (no_stray f) eight.1 in
    let free : Free (ltb 1) last (length bytes) bytes = free_of (QuestionsLaws.first_served _ _ eight.0) in
    record {
      read = AnswersLaws.passed_is v _ _ passes;
      allows = QuestionsLaws.allowed (state f) four.0;
      clean = QuestionsLaws.unless_served _ _ four.1;
      mark = ltb-false 1 (get_or bytes last 0) (free.at last (omega arith) (omega arith));
    }

-- a snapshot is made of what it says: x is the width less one, y the head's station, g the mark
saved_marked : (x m y g : ℕ) → g ≤ 1 → (eqb g 1 || eqb y 0) ≡ true
    → saved (made (x + 1) m (marked y g)) ≡ x % 256 ∷ x / 256 ∷ m ∷ y % 256 ∷ y / 256 ∷ g ∷ []
saved_marked x m y g low clean =
    let back : x + 1 - 1 ≡ x = omega arith in
    ListsLaws.split (eqb g 1)
    (λ t. let one : g ≡ 1 = eqb-true g 1 t in rw (t, back, one))
    (λ n.
    let zero : g ≡ 0 = omega (arith, eqb-false g 1 n) in
    let none : y ≡ 0 = eqb-true y 0 (rw n at clean) in
    rw (n, back, zero, none))

low_byte : (x y : ℕ) → x < 256 → Words.number (x ∷ y ∷ []) % 256 ≡ x
low_byte x y l = omega arith

high_byte : (x y : ℕ) → x < 256 → Words.number (x ∷ y ∷ []) / 256 ≡ y
high_byte x y l = omega arith

abbrev byte_at : List ℕ → ℕ → ℕ
byte_at bytes i = get_or bytes i 0

saved_held : (bytes : List ℕ) → ((i : ℕ) → get_or bytes i 0 < 256) → length bytes ≡ SnapshotCalls.size → get_or bytes 5 0 ≤ 1
    → let f = SnapshotCalls.long_fields bytes in
    (eqb f.mark 1 || eqb f.station 0) ≡ true → saved (state f) ≡ bytes
unfolding SnapshotCalls.long_fields
saved_held bytes byte e low clean =
    let x = Words.number (byte_at bytes 0 ∷ byte_at bytes 1 ∷ []) in
    let y = Words.number (byte_at bytes 3 ∷ byte_at bytes 4 ∷ []) in
    let same : (x % 256 ∷ x / 256 ∷ byte_at bytes 2 ∷ y % 256 ∷ y / 256 ∷ byte_at bytes 5 ∷ []) ≡ (byte_at bytes 0 ∷ byte_at bytes 1 ∷ byte_at bytes 2 ∷ byte_at bytes 3 ∷ byte_at bytes 4 ∷ byte_at bytes 5 ∷ []) =
    rw (low_byte (byte_at bytes 0) (byte_at bytes 1) (byte 0), high_byte (byte_at bytes 0) (byte_at bytes 1) (byte 0), low_byte (byte_at bytes 3) (byte_at bytes 4) (byte 3), high_byte (byte_at bytes 3) (byte_at bytes 4) (byte 3)) in
    saved_marked x (byte_at bytes 2) y (byte_at bytes 5) low clean ∙ same ∙ sym (SnapshotCallsLaws.six bytes e)

pub snapshot_written_back : SnapshotWrittenBack
snapshot_written_back bytes former byte long z e =
    let k = serves bytes byte (omega arith) z in
    let f = fields bytes in
    let s = state f in
    let six : f ≡ SnapshotCalls.long_fields bytes = SnapshotCallsLaws.fields_long bytes long in
    let last : length bytes - 1 ≡ 5 = omega arith in
    let same : saved s ≡ bytes = rw six (saved_held bytes byte long (rw last at k.mark) (rw six at k.clean)) in
    rw k.read
    (AnswersLaws.writes_is (Questions.write_questions s SnapshotCalls.size (length former)) s (served s) (saved s) former
    (QuestionsLaws.writes s SnapshotCalls.size (length former) k.allows e)
    ∙ rw same)

pub short_read_alike : ShortReadAlike
short_read_alike bytes byte short z =
    let k = serves bytes byte (omega arith) z in
    let f = fields bytes in
    ap (λ (a : Answer (Unit {0})). SnapshotCalls.read (saved a.state)) k.read
    ∙ read_saved (state f) k.allows
    ∙ sym k.read

-- two openings whose first questions say the same number, and whose further ones are the same, answer with the same number and state
opened_alike : (v w q : Verdict) (s : State) → number_of v ≡ number_of w
    → (number (opened (v then q) s) ≡ number (opened (w then q) s)) × ((opened (v then q) s).state ≡ (opened (w then q) s).state)
opened_alike (Ok _) (Ok _) q s e = (refl, refl)
opened_alike (Ok _) (Err r) q s e = absurd (AnswersLaws.refusal_number r (sym e))
opened_alike (Err r) (Ok _) q s e = absurd (AnswersLaws.refusal_number r e)
opened_alike (Err p) (Err r) q s e = (e, refl)

module _ (a b c d : ℕ) where
  abbrev short : List ℕ
  short = a ∷ b ∷ c ∷ d ∷ []

  abbrev long : List ℕ
  long = a ∷ 0 ∷ b ∷ c ∷ 0 ∷ d ∷ []

  same_fields : fields short ≡ fields long
  unfolding fields SnapshotCalls.short_fields SnapshotCalls.long_fields
  same_fields =
      let wide : Words.number (a ∷ 0 ∷ []) ≡ a = omega arith in
      let far : Words.number (c ∷ 0 ∷ []) ≡ c = omega arith in
      rw (wide, far)

  same_mark : number_of (Questions.bits Snapshot 3 short) ≡ number_of (Questions.bits Snapshot 5 long)
  same_mark = ListsLaws.split (ltb 1 d) (λ t. rw t) (λ f. rw f)

  -- the questions of the short one, by the fields of the long one
  short_asked : a < 256 → questions short ≡ (Questions.bits Snapshot 3 short then allowed (fields long))
  short_asked l = sym (SnapshotCallsLaws.asked short l refl) ∙ ap (λ (f : Fields). Questions.bits Snapshot 3 short then allowed f) same_fields

  long_asked : questions long ≡ (Questions.bits Snapshot 5 long then allowed (fields long))
  unfolding fields
  long_asked = refl

pub short_lengthened : ShortLengthened
short_lengthened a b c d l =
    let f = fields (long a b c d) in
    rw (same_fields a b c d, short_asked a b c d l, long_asked a b c d)
    (opened_alike (Questions.bits Snapshot 3 (short a b c d)) (Questions.bits Snapshot 5 (long a b c d)) (allowed f) (state f) (same_mark a b c d))
