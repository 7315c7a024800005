-- Laws of packed wires: packing and unpacking undo each other, a single grant is a single bit, and what the table's entries say.
-- Promises `line_bit`, `line_zero`, `unpack_past`, `unpack_bit`, `line_packed`, `unpack_pack`, `pack_is`, `wire_at`,
-- `pack_unpack`, `pack_none`, `pack_one`, `entry`, `some_line`, `entry_none`, `entry_own` and `entry_at`. The rest are
-- steps of their proofs.
-- Assumes nothing.
use Rattle.std.specs.Prelude.{ℕ, zero, suc, ◌+◌, ◌-◌, ◌*◌, ◌/◌, ◌%◌, ◌^◌, ◌≤◌, ◌<◌, ◌≡◌, refl, false, List, [], ◌∷◌, map, ltb, eqb, length, get_or, set, replicate}
use Rattle.std.proofs.Common.{sym, ap, ◌∙◌, arith, zero-add, shr-shr, length-set, ext_get_or, get_or-set_same, get_or-set_other, eqb-true, eq-eqb, ne_eqb, ltb-true, ltb-false}
use Rattle.std.proofs.Math.Nat.{zero-div, pow-succ', div-div-eq-div-mul}
use Rattle.std.proofs.Math.Pow.{pow-lt}
use Rattle.std.proofs.lemmas.List.{length-replicate, get_or-replicate}
use Rattle.std.proofs.Math.ListN.{get_or-eq_default}
use Rattle.std.proofs.lemmas.Bool.{eqb-false}
use Rattle.rules.specs.Lists.{bit, range, filter, marks}
use Rattle.rules.specs.Lists.Laws as ListsLaws
use Rattle.rules.specs.Packing.{line, wire, unpack, packed_length, binary, packed_byte, pack, first_or8, first_line, entries}
pub use Rattle.rules.specs.Theorems.{Entry}
pub use Rattle.rules.specs.Packing.Laws.{unpack_length, unpack_at, pack_length, pack_at}

-- a line is 0 or 1
pub line_bit : (byte j : ℕ) → line byte j ≤ 1
line_bit byte j = omega arith

-- a byte that is 0 has no line set
pub line_zero : (j : ℕ) → line 0 j ≡ 0
line_zero j = rw (zero-div (2 ^ j))

-- and past the last station there is none
pub unpack_past : (n : ℕ) (packed : List ℕ) (i : ℕ) → n ≤ i → get_or (unpack n packed) i 0 ≡ 0
unpack_past n packed i l = get_or-eq_default (unpack n packed) 0 {n = i} (omega (arith, unpack_length n packed))

-- so each is 0 or 1
pub unpack_bit : (n : ℕ) (packed : List ℕ) (i : ℕ) → get_or (unpack n packed) i 0 ≤ 1
unpack_bit n packed i =
    ListsLaws.split (ltb i n)
    (λ t. rw (unpack_at n packed i (ltb-true i n t)) (line_bit _ (i % 8)))
    (λ f. omega (arith, unpack_past n packed i (ltb-false i n f)))

-- the lines of a number are the bits that it is made of
line_binary : (bits : List ℕ) → ((i : ℕ) → get_or bits i 0 ≤ 1) → (j : ℕ) → line (binary bits) j ≡ get_or bits j 0
line_binary [] small j = line_zero j
line_binary (b ∷ bits) small zero = omega (arith, small 0)
line_binary (b ∷ bits) small (suc j) =
    let half : (b + 2 * binary bits) / 2 ≡ binary bits = omega (arith, small 0) in
    rw (pow-succ' 2 j, ← div-div-eq-div-mul (b + 2 * binary bits) 2 (2 ^ j), half) (line_binary bits (λ i. small (suc i)) j)

-- so the lines of a packed byte are the wires that it is made of
module _ (wires : List ℕ) (small : (i : ℕ) → get_or wires i 0 ≤ 1) (k : ℕ) where
  abbrev own_bits : List ℕ
  own_bits = map (λ i. get_or wires (8 * k + i) 0) (range 0 8)

  own_bit : (i : ℕ) → i < 8 → get_or own_bits i 0 ≡ get_or wires (8 * k + i) 0
  own_bit i u = ListsLaws.get_d_table (λ i. get_or wires (8 * k + i) 0) 0 8 i u ∙ rw zero-add

  own_small : (i : ℕ) → get_or own_bits i 0 ≤ 1
  own_small i =
      ListsLaws.split (ltb i 8)
      (λ t. rw (own_bit i (ltb-true i 8 t)) (small (8 * k + i)))
      (λ f. omega (arith, get_or-eq_default own_bits 0 {n = i} (ltb-false i 8 f)))

  pub line_packed : (j : ℕ) → j < 8 → line (packed_byte wires k) j ≡ get_or wires (8 * k + j) 0
  line_packed j l = line_binary own_bits own_small j ∙ own_bit j l

-- Unpacking undoes packing, of wires that are 0 or 1
pub unpack_pack : (wires : List ℕ) → ((i : ℕ) → get_or wires i 0 ≤ 1) → unpack (length wires) (pack wires) ≡ wires
unpack_pack wires small =
    let n = length wires in
    ext_get_or 0 (unpack n (pack wires)) wires (unpack_length n (pack wires))
    (λ i l.
    let k : i < n = omega (arith, unpack_length n (pack wires)) in
    let here : 8 * (i / 8) + i % 8 ≡ i = omega arith in
    unpack_at n (pack wires) i k
    ∙ ap (λ (b : ℕ). line b (i % 8)) (pack_at wires (i / 8) (omega arith))
    ∙ line_packed wires small (i / 8) (i % 8) (omega arith)
    ∙ ap (λ (x : ℕ). get_or wires x 0) here)

-- what two rules give for each number below n is the same where their tables are
computed : (f g : ℕ → ℕ) (n : ℕ) → map f (range 0 n) ≡ map g (range 0 n) → (i : ℕ) → i < n → f i ≡ g i
computed f g n e i l =
    rw zero-add at (sym (ListsLaws.get_d_table f 0 n i l) ∙ ap (λ (t : List ℕ). get_or t i 0) e ∙ ListsLaws.get_d_table g 0 n i l)

-- a byte is made of its lines: all 256 are
made_of_lines : map (λ byte. binary (map (line byte) (range 0 8))) (range 0 256) ≡ map (λ byte. byte) (range 0 256)
made_of_lines = refl

byte_lines : (byte : ℕ) → byte < 256 → binary (map (line byte) (range 0 8)) ≡ byte
byte_lines byte l = computed (λ b. binary (map (line b) (range 0 8))) (λ b. b) 256 made_of_lines byte l

-- bytes are the packed form of wires if they are as many as it takes, and their lines are the wires
pub pack_is : (wires packed : List ℕ) → length packed ≡ packed_length (length wires) → ((k : ℕ) → get_or packed k 0 < 256)
    → ((k j : ℕ) → j < 8 → get_or wires (8 * k + j) 0 ≡ line (get_or packed k 0) j) → pack wires ≡ packed
pack_is wires packed long bytes same =
    ext_get_or 0 (pack wires) packed (pack_length wires ∙ sym long)
    (λ k l.
    pack_at wires k (omega (arith, pack_length wires))
    ∙ ap binary (ListsLaws.table_same (λ j. get_or wires (8 * k + j) 0) (line (get_or packed k 0)) 0 8 (λ j _ u. same k j u))
    ∙ byte_lines (get_or packed k 0) (bytes k))

-- the wires of byte k are its lines
pub wire_at : (packed : List ℕ) (k j : ℕ) → j < 8 → wire packed (8 * k + j) ≡ line (get_or packed k 0) j
wire_at packed k j l =
    let byte : (8 * k + j) / 8 ≡ k = omega arith in
    let here : (8 * k + j) % 8 ≡ j = omega arith in
    rw (byte, here)

-- Packing undoes unpacking, of as many bytes as N stations take, with no unused bit set
pub pack_unpack : (n : ℕ) (packed : List ℕ) → length packed ≡ packed_length n → ((k : ℕ) → get_or packed k 0 < 256)
    → ((i : ℕ) → n ≤ i → wire packed i ≡ 0) → pack (unpack n packed) ≡ packed
pack_unpack n packed long bytes unused =
    pack_is (unpack n packed) packed (long ∙ ap packed_length (sym (unpack_length n packed))) bytes
    (λ k j l.
    ListsLaws.split (ltb (8 * k + j) n)
    (λ t. unpack_at n packed (8 * k + j) (ltb-true _ n t) ∙ wire_at packed k j l)
    (λ f. let out = ltb-false (8 * k + j) n f in unpack_past n packed (8 * k + j) out ∙ sym (unused (8 * k + j) out) ∙ wire_at packed k j l))

zeros : (n i : ℕ) → ◌≡◌ {A = ℕ} (get_or (replicate n 0) i 0) 0
zeros n i =
    ListsLaws.split (ltb i n)
    (λ t. get_or-replicate n i 0 0 (ltb-true i n t))
    (λ f. get_or-eq_default (replicate n 0) 0 {n = i} (omega (arith, length-replicate {A = ℕ} n 0, ltb-false i n f)))

-- a grant buffer without a grant, packed
pub pack_none : (n : ℕ) → pack (marks n []) ≡ replicate (packed_length n) 0
pack_none n =
    let size = packed_length n in
    ap pack (sym (ListsLaws.marks_none n))
    ∙ pack_is (replicate n 0) (replicate size 0) (length-replicate size 0 ∙ ap packed_length (sym (length-replicate {A = ℕ} n 0)))
    (λ k. omega (arith, zeros size k))
    (λ k j l. rw (zeros n (8 * k + j), zeros size k) (sym (line_zero j)))

-- the lines of a power of two: its own, and no other
power_lines : map (λ i. line (2 ^ (i / 8)) (i % 8)) (range 0 64) ≡ map (λ i. bit (eqb (i % 8) (i / 8))) (range 0 64)
power_lines = refl

line_power : (r j : ℕ) → r < 8 → j < 8 → line (2 ^ r) j ≡ bit (eqb j r)
line_power r j l u =
    let power : (8 * r + j) / 8 ≡ r = omega arith in
    let here : (8 * r + j) % 8 ≡ j = omega arith in
    rw (power, here) at (computed (λ i. line (2 ^ (i / 8)) (i % 8)) (λ i. bit (eqb (i % 8) (i / 8))) 64 power_lines (8 * r + j) (omega arith))

-- the byte of a single mark, and of no other
one_at : (n w i : ℕ) → w < n → get_or (marks n (w ∷ [])) i 0 ≡ bit (eqb i w)
one_at n w i station =
    rw (← ListsLaws.marks_one n w station)
    (ListsLaws.split (eqb i w)
    (λ t.
    rw (t, eqb-true i w t) (get_or-set_same (replicate n 0) w 1 0 (omega (arith, length-replicate {A = ℕ} n 0))))
    (λ f. rw f (get_or-set_other (replicate n 0) w i 1 0 (eqb-false i w f) ∙ zeros n i)))

same_test : (a b c d : ℕ) → (a ≡ b → c ≡ d) → (c ≡ d → a ≡ b) → eqb a b ≡ eqb c d
same_test a b c d f g =
    ListsLaws.both_ways (eqb a b) (eqb c d) (λ t. eq-eqb c d (f (eqb-true a b t))) (λ t. eq-eqb a b (g (eqb-true c d t)))

-- a grant buffer with one grant, packed: station w's bit, and no other
module _ (n w : ℕ) (station : w < n) where
  abbrev single : List ℕ
  single = set (replicate (packed_length n) 0) (w / 8) (2 ^ (w % 8))

  single_length : length single ≡ packed_length n
  single_length = length-set (replicate (packed_length n) 0) (w / 8) (2 ^ (w % 8)) ∙ length-replicate (packed_length n) 0

  own_byte : (k : ℕ) → k ≡ w / 8 → get_or single k 0 ≡ 2 ^ (w % 8)
  own_byte k e =
      rw e (get_or-set_same (replicate (packed_length n) 0) (w / 8) (2 ^ (w % 8)) 0 (omega (arith, length-replicate {A = ℕ} (packed_length n) 0)))

  other_byte : (k : ℕ) → (k ≡ w / 8 → ⊥) → get_or single k 0 ≡ 0
  other_byte k away = get_or-set_other (replicate (packed_length n) 0) (w / 8) k (2 ^ (w % 8)) 0 away ∙ zeros (packed_length n) k

  single_byte : (k : ℕ) → get_or single k 0 < 256
  single_byte k =
      ListsLaws.split (eqb k (w / 8))
      (λ t. omega (arith, own_byte k (eqb-true k _ t), pow-lt {i = w % 8} {j = 8} (omega arith)))
      (λ f. omega (arith, other_byte k (eqb-false k _ f)))

  single_line : (k j : ℕ) → j < 8 → bit (eqb (8 * k + j) w) ≡ line (get_or single k 0) j
  single_line k j l =
      ListsLaws.split (eqb k (w / 8))
      (λ t.
      let here : k ≡ w / 8 = eqb-true k _ t in
      ap bit (same_test (8 * k + j) w j (w % 8) (λ e. omega arith) (λ e. omega arith))
      ∙ sym (ap (λ (b : ℕ). line b j) (own_byte k here) ∙ line_power (w % 8) j (omega arith) l))
      (λ f.
      let away = eqb-false k (w / 8) f in
      ap bit (ne_eqb (8 * k + j) w (λ e. away (omega arith)))
      ∙ sym (ap (λ (b : ℕ). line b j) (other_byte k away) ∙ line_zero j))

  pub pack_one : pack (marks n (w ∷ [])) ≡ single
  pack_one =
      pack_is (marks n (w ∷ [])) single (single_length ∙ ap packed_length (sym (ListsLaws.length_table _ 0 n))) single_byte
      (λ k j l. one_at n w (8 * k + j) station ∙ single_line k j l)

off : (byte j : ℕ) → eqb (line byte j) 1 ≡ false → line byte j ≡ 0
off byte j e = omega (arith, line_bit byte j, eqb-false (line byte j) 1 e)

-- by the lines that are set from the start on
entry_of : (byte start : ℕ) (js : List ℕ) → start ≤ 8 → filter (λ j. eqb (line byte j) 1) (range start (8 - start)) ≡ js
    → Entry byte start (first_or8 js)
entry_of byte start [] l e = record {
  low = l;
  most = omega arith;
  quiet = λ j a u. off byte j (ListsLaws.none_of (λ j. eqb (line byte j) 1) start (8 - start) j e a (omega arith));
  set = λ u. absurd (omega arith);
}
entry_of byte start (j ∷ js) l e =
    let r = ListsLaws.first_of (λ j. eqb (line byte j) 1) start (8 - start) j js e in
    record {
      low = r.low;
      most = omega (arith, r.high);
      quiet = λ i a u. off byte i (r.earlier i a u);
      set = λ _. eqb-true (line byte j) 1 r.passes;
    }

pub entry : (byte start : ℕ) → start ≤ 8 → Entry byte start (first_line byte start)
unfolding first_line
entry byte start l = entry_of byte start _ l refl

-- a byte that is not 0 has a line set
pub some_line : (byte : ℕ) → 0 < byte → byte < 256 → first_line byte 0 < 8
some_line byte some l =
    ListsLaws.split (ltb (first_line byte 0) 8)
    (λ t. ltb-true _ 8 t)
    (λ f.
    let e = entry byte 0 (omega arith) in
    let none : map (line byte) (range 0 8) ≡ map (λ _. 0) (range 0 8) =
    ListsLaws.table_same (line byte) (λ _. 0) 0 8 (λ j a u. e.quiet j a (omega (arith, ltb-false (first_line byte 0) 8 f))) in
    absurd (omega (arith, byte_lines byte l, ap binary none)))

-- where no line is set from the start on, the entry is 8
pub entry_none : (byte start : ℕ) → start ≤ 8 → byte / 2 ^ start ≡ 0 → first_line byte start ≡ 8
entry_none byte start l z =
    let e = entry byte start l in
    let f = first_line byte start in
    let on : start + (f - start) ≡ f = omega (arith, e.low) in
    let high : byte / 2 ^ f ≡ 0 = rw (on, z, zero-div) at (sym (shr-shr byte start (f - start))) in
    ListsLaws.split (ltb f 8)
    (λ t. let one : byte / 2 ^ f % 2 ≡ 1 = e.set (ltb-true f 8 t) in absurd (omega arith))
    (λ n. omega (arith, e.most, ltb-false f 8 n))

-- where the line at the start is set, it is that
pub entry_own : (byte start : ℕ) → start < 8 → line byte start ≡ 1 → first_line byte start ≡ start
entry_own byte start l one =
    let e = entry byte start (omega arith) in
    ListsLaws.split (ltb start (first_line byte start))
    (λ t. absurd (omega (arith, e.quiet start (omega arith) (ltb-true start _ t))))
    (λ f. omega (arith, e.low, ltb-false start (first_line byte start) f))

-- an entry of a list that is the table's of a start line
pub entry_at : (line : ℕ) {byte start : ℕ} (list : List ℕ) → list ≡ entries line → byte < 256 → start ≡ line
    → get_or list byte 0 ≡ first_line byte start
unfolding entries
entry_at line {byte} {start} list e l same =
    ap (λ (t : List ℕ). get_or t byte 0) e
    ∙ ListsLaws.get_d_table (λ byte. first_line byte line) 0 256 byte l
    ∙ rw zero-add (ap (first_line byte) (sym same))
