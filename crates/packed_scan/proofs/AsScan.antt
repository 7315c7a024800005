-- The packed scan beside the plain scan: where one is served, so is the other, since packing and unpacking undo each other.
-- Assumes nothing.
use Prim.Native.Nat.{ℕ, ◌+◌, ◌*◌, ◌/◌, ◌%◌, ◌≤◌, ◌<◌}
use mathlib.Core.Path.{◌≡◌, sym, ap, ◌∙◌}
use mathlib.Core.List.{List, [], map}
use native.Mathlib.Omega.{arith}
use lib.Dec.{eqb, ltb}
use lib.ListN.{length, get_or, get_or-eq_default}
use borrow.Author.Tests.{eq-eqb, ltb-true, ltb-false}
use Rattle.rules.specs.Lists.Laws as ListsLaws
use Rattle.rules.specs.Packing.{line, packed_length, pack, unpack}
use Rattle.rules.proofs.Packing.Laws as PackingLaws
use Rattle.rules.proofs.RoundRobin.Laws as RoundRobinLaws
use Rattle.arbiter.specs.Answers.{Effect}
use Rattle.arbiter.specs.Answers.Laws.{writes_passed, writes_is}
use Rattle.arbiter.specs.Cycle as RoundRobinCalls
use Rattle.search.specs.Places.{Bits}
use Rattle.search.specs.Places.Laws.{Free, places_none}
use Rattle.arbiter.specs.Questions as Questions
use Rattle.arbiter.specs.declared.Granted.{Granted}
use Rattle.arbiter.specs.declared.State.{State}
use Rattle.arbiter.specs.declared.refusal.Refusal.TheVariants.{UnusedBit}
use Rattle.arbiter.specs.Questions.{passed, ◌then◌, refuse_at_first}
use Rattle.arbiter.specs.Questions.Laws as QuestionsLaws
use Rattle.packed_scan.specs.Lines.{set_lines}
use Rattle.packed_scan.specs.Calls as PackedCalls
use Rattle.packed_scan.specs.Calls.Laws.{ready}
use Rattle.packed_scan.specs.AsScan.{ServedUnpacked, ServedPacked}

-- bytes that are 0 or 1, and none past the last
low : (bytes : List ℕ) → Bits bytes → (i : ℕ) → get_or bytes i 0 ≤ 1
low bytes bits i =
    ListsLaws.split (ltb i (length bytes))
    (λ t. bits i (ltb-true i (length bytes) t))
    (λ f. omega (arith, get_or-eq_default bytes 0 {n = i} (ltb-false i (length bytes) f)))

pub served_unpacked : ServedUnpacked
served_unpacked s requests former bytes z room =
    let n = s.width in
    let wires = unpack n requests in
    let v = PackedCalls.questions s requests (length former) in
    let p = writes_passed v s (RoundRobinCalls.answer s wires) (pack (RoundRobinCalls.granting s wires)) former z in
    let r = ready s requests (length former) p in
    let long = PackingLaws.unpack_length n requests in
    let passes =
    QuestionsLaws.then_passed (Questions.state_questions s) _ (QuestionsLaws.allows s r.state.allows)
    (QuestionsLaws.lends n wires (length bytes) long room (λ i _. PackingLaws.unpack_bit n requests i)) in
    let size = RoundRobinLaws.grants_length n s.picks s.head (RoundRobinCalls.asking s wires) in
    let back : unpack n (pack (RoundRobinCalls.granting s wires)) ≡ RoundRobinCalls.granting s wires =
    ap (λ (k : ℕ). unpack k (pack (RoundRobinCalls.granting s wires))) (sym size)
    ∙ PackingLaws.unpack_pack (RoundRobinCalls.granting s wires) (RoundRobinLaws.grants_bit n s.picks s.head (RoundRobinCalls.asking s wires)) in
    let is = writes_is v s (RoundRobinCalls.answer s wires) (pack (RoundRobinCalls.granting s wires)) former p in
    writes_is (RoundRobinCalls.questions s wires (length bytes)) s (RoundRobinCalls.answer s wires) (RoundRobinCalls.granting s wires) bytes passes
    ∙ sym (ap (λ (o : Effect Granted). record { answer = o.answer; written = unpack n o.written }) is
    ∙ ap (λ (w : List ℕ). record { answer = RoundRobinCalls.answer s wires; written = w }) back)

-- no line of packed wires is set that is no wire
packed_unused : (wires : List ℕ) → Bits wires → set_lines (length wires) (pack wires) ≡ []
packed_unused wires bits =
    let packed = pack wires in
    let n = length wires in
    let all = PackingLaws.unpack_length (8 * length packed) packed in
    let free : Free (λ b. eqb b 1) n (length (unpack (8 * length packed) packed)) (unpack (8 * length packed) packed) =
    record {
      at = λ i l u.
          let here : 8 * (i / 8) + i % 8 ≡ i = omega arith in
          let k : i / 8 < packed_length n = omega (arith, all, PackingLaws.pack_length wires) in
          ap (λ (b : ℕ). eqb b 1)
          (PackingLaws.unpack_at (8 * length packed) packed i (omega (arith, all))
          ∙ ap (λ (b : ℕ). line b (i % 8)) (PackingLaws.pack_at wires (i / 8) k)
          ∙ PackingLaws.line_packed wires (low wires bits) (i / 8) (i % 8) (omega arith)
          ∙ ap (λ (x : ℕ). get_or wires x 0) here
          ∙ get_or-eq_default wires 0 {n = i} l);
    } in
    places_none free (omega arith)

-- a state that the plain scan allows and that has one pick
allowed : (s : State) → QuestionsLaws.Allowed s → s.picks ≡ 1 → PackedCalls.state_questions s ≡ passed
allowed s a one =
    QuestionsLaws.then_passed _ (Questions.head s.width s.head)
    (QuestionsLaws.then_passed (Questions.width s.width) (Questions.one_pick s.picks)
    (QuestionsLaws.width_passes s.width a.some a.most)
    (rw (eq-eqb s.picks 1 one)))
    (QuestionsLaws.head_passes s.width s.head a.station)

pub served_packed : ServedPacked
served_packed s wires bytes former z one room =
    let n = s.width in
    let q = RoundRobinCalls.questions s wires (length bytes) in
    let p = writes_passed q s (RoundRobinCalls.answer s wires) (RoundRobinCalls.granting s wires) bytes z in
    let r = QuestionsLaws.ready s wires (length bytes) p in
    let asked : length wires ≡ n = r.lends.asked in
    let size : length (pack wires) ≡ packed_length n = PackingLaws.pack_length wires ∙ ap packed_length asked in
    let unused : set_lines n (pack wires) ≡ [] = ap (λ (k : ℕ). set_lines k (pack wires)) (sym asked) ∙ packed_unused wires r.lends.wires in
    let back : unpack n (pack wires) ≡ wires =
    ap (λ (k : ℕ). unpack k (pack wires)) (sym asked) ∙ PackingLaws.unpack_pack wires (low wires r.lends.wires) in
    let passes : PackedCalls.questions s (pack wires) (length former) ≡ passed =
    QuestionsLaws.then_passed _ (PackedCalls.unused_bits n (pack wires))
    (QuestionsLaws.then_passed _ (Questions.write_length (packed_length n) (length former))
    (QuestionsLaws.then_passed (PackedCalls.state_questions s) (Questions.read_length (packed_length n) (length (pack wires)))
    (allowed s r.allows one)
    (rw (eq-eqb (length (pack wires)) (packed_length n) size)))
    (rw (eq-eqb (length former) (packed_length n) room)))
    (ap (λ (ls : List ℕ). refuse_at_first UnusedBit (map (λ i. i / 8) ls)) unused) in
    let target = unpack n (pack wires) in
    writes_is (PackedCalls.questions s (pack wires) (length former)) s (RoundRobinCalls.answer s target) (pack (RoundRobinCalls.granting s target)) former passes
    ∙ ap (λ (w : List ℕ). record { answer = RoundRobinCalls.answer s w; written = pack (RoundRobinCalls.granting s w) }) back
    ∙ sym (ap (λ (o : Effect Granted). record { answer = o.answer; written = pack o.written })
    (writes_is q s (RoundRobinCalls.answer s wires) (RoundRobinCalls.granting s wires) bytes p))
