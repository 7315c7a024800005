-- Laws of the packed scan's calls: what is known once the questions have passed; and that a served cycle is the plain scan's on the
-- unpacked wires.
-- Assumes nothing.
use Rattle.std.specs.Prelude.{ℕ, ◌/◌, ◌<◌, ◌≡◌, List, map, length}
use Rattle.std.proofs.Common.{sym, ap, ◌∙◌, arith}
use Rattle.std.proofs.lemmas.List.{length-map}
use Rattle.std.specs.Prelude.{None, Some, Err}
use Rattle.rules.specs.Lists.Laws as ListsLaws
use Rattle.rules.specs.Packing.{packed_length}
use Rattle.arbiter.specs.declared.State.{State}
use Rattle.arbiter.specs.declared.refusal.Refusal.TheVariants.{UnusedBit}
use Rattle.search.specs.Places.{first}
use Rattle.search.specs.Places.Laws.{first_none, first_some}
use Rattle.arbiter.specs.Questions as Questions
use Rattle.arbiter.specs.Questions.{passed, refuse_at_first, ◌then◌}
use Rattle.arbiter.specs.Questions.Laws.{then_served, width_served, one_pick_served, head_served, length_served, first_served, Allowed}
use Rattle.packed_scan.specs.Calls.{unused_bits, state_questions, questions}
use Rattle.packed_scan.specs.Lines.{set_lines, Packed, in_byte}
use Rattle.packed_scan.specs.Lines.Laws.{in_some, in_place}

-- what is known once 1, 3 and 4 have passed: all that the plain scan asks of a state, and one pick
pub record OnePick (s : State) : Type 0 where
  pub allows : Allowed s
  pub one : s.picks ≡ 1

pub one_pick_lem : (s : State) → state_questions s ≡ passed → OnePick s
one_pick_lem s z =
    let b = then_served (Questions.width s.width then Questions.one_pick s.picks) (Questions.head s.width s.head) z in
    let a = then_served (Questions.width s.width) (Questions.one_pick s.picks) b.0 in
    let w = width_served s.width a.0 in
    let one : s.picks ≡ 1 = one_pick_served s.picks a.1 in
    record {
      allows = record {
        some = w.0;
        most = w.1;
        picked = omega arith;
        few = omega arith;
        fit = omega (arith, w.0);
        station = head_served s.width s.head w.0 b.1;
      };
      one = one;
    }

-- and once 5 and 6 have too
pub record Sized (s : State) (asked size : ℕ) : Type 0 where
  pub state : OnePick s
  pub long : asked ≡ packed_length s.width
  pub room : size ≡ packed_length s.width

pub sized : (s : State) (asked size : ℕ)
    → (state_questions s then Questions.read_length (packed_length s.width) asked then Questions.write_length (packed_length s.width) size) ≡ passed
    → Sized s asked size
sized s asked size z =
    let stated = packed_length s.width in
    let five = state_questions s then Questions.read_length stated asked in
    let b = then_served five (Questions.write_length stated size) z in
    let a = then_served (state_questions s) (Questions.read_length stated asked) b.0 in
    record {
      state = one_pick_lem s a.0;
      long = length_served _ stated asked a.1;
      room = length_served _ stated size b.1;
    }

-- 14 by the first line that is set and no station's, if there is one
pub unused_none : (n : ℕ) (packed : List ℕ) → first (set_lines n packed) ≡ None → unused_bits n packed ≡ passed
unused_none n packed e = ap (λ (ls : List ℕ). refuse_at_first UnusedBit (map (λ i. i / 8) ls)) (first_none (set_lines n packed) e)

pub unused_at : (n : ℕ) (packed : List ℕ) (i k : ℕ) → first (set_lines n packed) ≡ Some i → i / 8 ≡ k
    → unused_bits n packed ≡ Err (UnusedBit k)
unused_at n packed i k e place = rw (← place) (ap (λ (ls : List ℕ). refuse_at_first UnusedBit (map (λ i. i / 8) ls)) (first_some (set_lines n packed) i e).1)

-- which is in the byte that has station n's line, if that byte is there
pub unused_in : (n : ℕ) (packed : List ℕ) (w : ℕ) → n / 8 < length packed → in_byte n packed ≡ Some w
    → unused_bits n packed ≡ Err (UnusedBit (n / 8))
unused_in n packed w within e = unused_at n packed w (n / 8) (sym (in_some packed n w within e)) (in_place packed n w e)

-- and 14
pub record Ready (s : State) (requests : List ℕ) (size : ℕ) : Type 0 where
  pub state : OnePick s
  pub packed : Packed s.width requests
  pub room : size ≡ packed_length s.width

pub ready : (s : State) (requests : List ℕ) (size : ℕ) → questions s requests size ≡ passed → Ready s requests size
ready s requests size z =
    let n = s.width in
    let unread = state_questions s then Questions.read_length (packed_length n) (length requests) then Questions.write_length (packed_length n) size in
    let c = then_served unread (unused_bits n requests) z in
    let l = sized s (length requests) size c.0 in
    let none = first_served _ (map (λ i. i / 8) (set_lines n requests)) c.1 in
    record {
      state = l.state;
      packed = record {
        most = l.state.allows.most;
        long = l.long;
        unused = ListsLaws.empty (set_lines n requests) (sym (length-map (set_lines n requests) (λ i. i / 8)) ∙ ap length none);
      };
      room = l.room;
    }
