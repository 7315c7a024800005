-- The two round trips of specs/RoundTrips.antt.
-- Assumes nothing.
use Prim.Native.Nat.{ℕ, ◌≤◌, ◌<◌}
use mathlib.Core.Path.{◌≡◌, refl, sym, ap, ◌∙◌}
use mathlib.Core.List.{List, []}
use native.Mathlib.Omega.{arith}
use lib.Dec.{eqb, ltb}
use lib.ListN.{length, drop}
use borrow.Author.Tests.{eq-eqb}
use Rattle.rules.specs.Head.{Head}
use Rattle.std.specs.Prelude.{None, Some}
use Rattle.rules.specs.RoundRobin.{start}
use Rattle.rules.proofs.RoundRobin.Laws.{start_none, start_at}
use Rattle.arbiter.specs.declared.Answer.{Answer}
use Rattle.arbiter.specs.declared.State.{State}
use Rattle.arbiter.specs.declared.refusal.Buffer.TheVariants.{Image}
use Rattle.arbiter.specs.declared.refusal.Refusal.{Refusal}
use Rattle.search.specs.Places.{places, ones}
use Rattle.search.specs.Places.Laws.{found}
use Rattle.arbiter.specs.Questions as Questions
use Rattle.arbiter.specs.Questions.{passed, ◌then◌}
use Rattle.arbiter.specs.Questions.Laws as QuestionsLaws
use Rattle.arbiter.specs.Answers.{number, moved, served, refused}
use Rattle.arbiter.specs.Answers.Laws as AnswersLaws
use Rattle.one_hot.specs.Calls as OneHotCalls
use Rattle.one_hot.specs.Calls.Laws as OneHotCallsLaws
use Rattle.one_hot.specs.RoundTrips.{ImageReadBack, ImageWrittenBack}

-- an image of the right width is readable
readable : (t : State) (h : Head) → Questions.state_questions t ≡ passed → start h < t.width
    → OneHotCalls.questions t (OneHotCalls.image t.width h) ≡ passed
readable t h z l =
    let n = t.width in
    let bytes = OneHotCalls.image n h in
    QuestionsLaws.then_passed _ (OneHotCalls.one_hot bytes)
    (QuestionsLaws.then_passed _ (Questions.bits Image 0 bytes)
    (QuestionsLaws.then_passed (Questions.state_questions t) _ z (rw (eq-eqb (length bytes) n (OneHotCallsLaws.image_length n h))))
    (rw (OneHotCallsLaws.image_bits n h)))
    (rw (OneHotCallsLaws.image_single n h l))

pub image_read_back : ImageReadBack
image_read_back s t former z y w =
    let v = Questions.write_questions s s.width (length former) in
    let bytes = OneHotCalls.image s.width s.head in
    let passes : v ≡ passed = AnswersLaws.writes_passed v s (served s) bytes former z in
    let a = (QuestionsLaws.writable s s.width (length former) passes).allows in
    let back = OneHotCalls.image t.width s.head in
    let l : start s.head < t.width = omega (arith, a.station) in
    ap (λ o. OneHotCalls.read t o.written) (AnswersLaws.writes_is v s (served s) bytes former passes)
    ∙ rw (← w)
    (AnswersLaws.passed_is (OneHotCalls.questions t back) _ _ (readable t s.head y l)
    ∙ ap (λ (h : Head). served (moved t h)) (OneHotCallsLaws.image_head t.width s.head l))

-- what is known of an image that was read
record Read (s : State) (bytes : List ℕ) : Type 0 where
  allowed : QuestionsLaws.Allowed s
  long : length bytes ≡ s.width
  bits : places (ltb 1) 0 bytes ≡ []
  single : drop 1 (ones 0 bytes) ≡ []

was_read : (s : State) (bytes : List ℕ) → OneHotCalls.questions s bytes ≡ passed → Read s bytes
was_read s bytes z =
    let five = Questions.state_questions s then Questions.read_length s.width (length bytes) in
    let c = QuestionsLaws.then_served (five then Questions.bits Image 0 bytes) (OneHotCalls.one_hot bytes) z in
    let b = QuestionsLaws.then_served five (Questions.bits Image 0 bytes) c.0 in
    let a = QuestionsLaws.then_served (Questions.state_questions s) (Questions.read_length s.width (length bytes)) b.0 in
    record {
      allowed = QuestionsLaws.allowed s a.0;
      long = QuestionsLaws.length_served _ s.width (length bytes) a.1;
      bits = QuestionsLaws.first_served _ _ b.1;
      single = QuestionsLaws.first_served _ _ c.1;
    }

-- the head that an image shows is a station
shown : (bytes : List ℕ) → 1 ≤ length bytes → start (OneHotCalls.head_of bytes) < length bytes
shown bytes l = by (OneHotCalls.head_of bytes) refl
  where
    by : (h : Head) → OneHotCalls.head_of bytes ≡ h → start h < length bytes
    by None e = omega (arith, start_none)
    by (Some i) e = omega (arith, start_at i, (found (λ b. eqb b 1) 0 i bytes e).high)

pub image_written_back : ImageWrittenBack
image_written_back s bytes former z e =
    let v = OneHotCalls.questions s bytes in
    let t = moved s (OneHotCalls.head_of bytes) in
    let refuses : Refusal → Answer (Unit {0}) = λ refusal. refused refusal s in
    let passes : v ≡ passed = AnswersLaws.served_passed v (served t) refuses (λ (a : Answer (Unit {0})). number a) (λ e f. refl) z in
    let r = was_read s bytes passes in
    let a = r.allowed in
    let in-width : start t.head < t.width = omega (arith, shown bytes (omega (arith, r.long, a.some)), r.long) in
    let allowed : QuestionsLaws.Allowed t =
    record { some = a.some; most = a.most; picked = a.picked; few = a.few; fit = a.fit; station = in-width } in
    let same : OneHotCalls.image s.width (OneHotCalls.head_of bytes) ≡ bytes =
    ap (λ (n : ℕ). OneHotCalls.image n (OneHotCalls.head_of bytes)) (sym r.long) ∙ OneHotCallsLaws.image_of bytes r.bits r.single in
    let read : OneHotCalls.read s bytes ≡ served t = AnswersLaws.passed_is v (served t) refuses passes in
    rw read
    (AnswersLaws.writes_is (Questions.write_questions t t.width (length former)) t (served t) (OneHotCalls.image t.width t.head) former
    (QuestionsLaws.writes t t.width (length former) allowed (e ∙ r.long))
    ∙ rw same)
