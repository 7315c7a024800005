-- Laws of the set lines of packed bytes: how a search by the table finds the first, and that it is whom the rule grants.
-- Promises `table_entry`, `listed_some`, `listed_none`, `set_past`, `set_home`, `set_none`, `set_after`, `some_entry`,
-- `in_some`, `in_place`, `in_none`, `in_last`, `round_quiet`, `highest_zero`, `Next`, `next_some`, `next_within`, `next_bound`,
-- `next_none`, `round_high`, `round_low`, `round_next`, `round_some`, `round_other`, `round_granted`, `none_decides`,
-- `none_grants`, `one_below`, `one_grants` and `one_decides`. The rest are steps of their proofs.
-- Assumes nothing.
use Rattle.std.specs.Prelude.{Option, IfSome, ℕ, ◌+◌, ◌-◌, ◌*◌, ◌/◌, ◌%◌, ◌^◌, ◌≤◌, ◌<◌, ◌≡◌, refl, Bool, true, false, not, nat_eq, ◌⊎◌, List, [], ◌∷◌, ◌++◌, map, eqb, ltb, length, get_or, take, set, replicate}
use Rattle.std.proofs.lemmas.List.{get_or-map}
use Rattle.std.proofs.lemmas.Bool.{eqb-false}
use Rattle.std.proofs.Math.ListN.{get_or-eq_default}
use Rattle.std.proofs.Common.{sym, ap, ap₂, ◌∙◌, inl, inr, ⊎_elim, arith, zero-add, length-take-le, get_or-take, eq-eqb, ltb-true, ltb-false}
use borrow.Author.Tests.{lt-ltb}
use Rattle.rules.specs.Head.{Head}
use Rattle.std.specs.Prelude.{None, Some}
use Rattle.rules.specs.Lists.{range, marks}
use Rattle.rules.specs.Lists.Laws as ListsLaws
use Rattle.std.specs.Cmp.Lexicographic.{same_text, other_text}
use lib.Pointwise.{pointwise}
use Rattle.rules.specs.Pending.{more}
use Rattle.rules.proofs.Pending.Laws as PendingLaws
use Rattle.rules.specs.Packing.{line, wire, unpack, packed_length, pack, first_line, entries}
use Rattle.rules.proofs.Packing.Laws as PackingLaws
use Rattle.rules.specs.RoundRobin.{start, granted, grants}
use Rattle.rules.proofs.RoundRobin.Laws as RoundRobinLaws
use Rattle.search.specs.Places.{ones, nonzero, first, highest}
use Rattle.search.specs.Places.Laws.{first_none, Free, free_none, free_on, free_of, places_none, places_first, Found, found, is_zero, highest_most}
use Rattle.arbiter.specs.Decisions.{requested, decision, deciding, counted}
use Rattle.arbiter.specs.Decisions.Laws.{counted_one, decided_granted, decided_none}
use Rattle.arbiter.specs.Decisions.OnePick as OnePick
use Rattle.packed_scan.specs.Lines.{set_lines, Packed, listed, through, in_byte}

-- a line is set
abbrev is_set : ℕ → Bool
is_set b = eqb b 1

-- a table whose rows are the definition's, one for each start line, has its entries
pub table_entry : (rows : List (List ℕ)) (d : List ℕ) {byte start : ℕ} → rows ≡ map entries (range 0 8) → byte < 256 → start < 8
    → get_or (get_or rows start d) byte 0 ≡ first_line byte start
table_entry rows d {byte} {start} e small l =
    let row : get_or rows start d ≡ entries start =
    ap (λ (t : List (List ℕ)). get_or t start d) e ∙ get_or-map entries (range 0 8) start 0 d l ∙ ap entries (ListsLaws.get_d_table (λ i. i) 0 8 start l ∙ zero-add start) in
    PackingLaws.entry_at start (get_or rows start d) row small refl

-- an entry names a line exactly if it is below 8
pub listed_some : (entry line : ℕ) → listed entry ≡ Some line → (line ≡ entry) × (line < 8)
listed_some entry line e =
    ListsLaws.split (ltb entry 8)
    (λ t.
    let named : Some entry ≡ Some line = rw t at e in
    let same : line ≡ entry = cc in
    (same, omega (arith, ltb-true entry 8 t)))
    (λ f. let none : None ≡ Some line = rw f at e in let no : ⊥ = cc in absurd no)

pub listed_none : (entry : ℕ) → listed entry ≡ None → 8 ≤ entry
listed_none entry e =
    ListsLaws.split (ltb entry 8)
    (λ t. let some : Some entry ≡ None = rw t at e in let no : ⊥ = cc in absurd no)
    (λ f. ltb-false entry 8 f)

module _ (packed : List ℕ) where
  -- all the lines of these bytes
  abbrev lines : List ℕ
  lines = unpack (8 * length packed) packed

  lines_length : length lines ≡ 8 * length packed
  lines_length = PackingLaws.unpack_length (8 * length packed) packed

  -- line j of byte k
  line_at : (k j : ℕ) → k < length packed → j < 8 → get_or lines (8 * k + j) 0 ≡ line (get_or packed k 0) j
  line_at k j l u = PackingLaws.unpack_at (8 * length packed) packed (8 * k + j) (omega arith) ∙ PackingLaws.wire_at packed k j u

  -- no line of a byte is set from a start up to the table's entry
  entry_free : (k start : ℕ) → k < length packed → start < 8
      → Free is_set (8 * k + start) (8 * k + first_line (get_or packed k 0) start) lines
  entry_free k start l u =
      let e = PackingLaws.entry (get_or packed k 0) start (omega arith) in
      record {
        at = λ i a b.
            let here : 8 * k + (i - 8 * k) ≡ i = omega arith in
            ap is_set
            (ap (λ (x : ℕ). get_or lines x 0) (sym here)
            ∙ line_at k (i - 8 * k) l (omega (arith, e.most))
            ∙ e.quiet (i - 8 * k) (omega arith) (omega arith));
      }

  -- where an entry is below 8 its line is set
  entry_set : (k start : ℕ) → k < length packed → start < 8 → first_line (get_or packed k 0) start < 8
      → is_set (get_or lines (8 * k + first_line (get_or packed k 0) start) 0) ≡ true
  entry_set k start l u below =
      let e = PackingLaws.entry (get_or packed k 0) start (omega arith) in
      eq-eqb _ 1 (line_at k (first_line (get_or packed k 0) start) l below ∙ e.set below)

  -- no line is set of bytes that are 0
  zero_free : (a b : ℕ) → b ≤ length packed → Free (ltb 0) a b packed → Free is_set (8 * a) (8 * b) lines
  zero_free a b l zeros =
      record {
        at = λ i u v.
            let here : 8 * (i / 8) + i % 8 ≡ i = omega arith in
            let zero : get_or packed (i / 8) 0 ≡ 0 = omega (arith, ltb-false 0 (get_or packed (i / 8) 0) (zeros.at (i / 8) (omega arith) (omega arith))) in
            ap is_set
            (ap (λ (x : ℕ). get_or lines x 0) (sym here)
            ∙ line_at (i / 8) (i % 8) (omega arith) (omega arith)
            ∙ ap (λ (x : ℕ). line x (i % 8)) zero
            ∙ PackingLaws.line_zero (i % 8));
      }

  -- a search from a line on: past the last byte there is none
  pub set_past : (from : ℕ) → length packed ≤ from / 8 → None ≡ first (set_lines from packed)
  set_past from l = sym (ap first (places_none {test = is_set} {from = from} {i = from} {bytes = lines} free_none (omega (arith, lines_length))))

  module _ (from entry : ℕ) (within : from / 8 < length packed) (is : entry ≡ first_line (get_or packed (from / 8) 0) (from % 8)) where
    -- in the byte of that line
    pub set_home : entry < 8 → Some (8 * (from / 8) + entry) ≡ first (set_lines from packed)
    set_home below =
        let home : 8 * (from / 8) + from % 8 ≡ from = omega arith in
        let e = PackingLaws.entry (get_or packed (from / 8) 0) (from % 8) (omega arith) in
        let small : first_line (get_or packed (from / 8) 0) (from % 8) < 8 = omega (arith, is) in
        let free = rw home at (entry_free (from / 8) (from % 8) within (omega arith)) in
        rw is
        (sym (ap first (places_first free (omega (arith, e.low)) (omega (arith, lines_length)) (entry_set (from / 8) (from % 8) within (omega arith) small))))

    -- not there, so none up to the next byte
    home_free : 8 ≤ entry → Free is_set from (8 * (from / 8 + 1)) lines
    home_free full =
        let home : 8 * (from / 8) + from % 8 ≡ from = omega arith in
        let e = PackingLaws.entry (get_or packed (from / 8) 0) (from % 8) (omega arith) in
        let end : 8 * (from / 8) + first_line (get_or packed (from / 8) 0) (from % 8) ≡ 8 * (from / 8 + 1) = omega (arith, is, e.most) in
        rw (home, end) at (entry_free (from / 8) (from % 8) within (omega arith))

    -- and none in the bytes after it
    pub set_none : 8 ≤ entry → Free (ltb 0) (from / 8 + 1) (length packed) packed → None ≡ first (set_lines from packed)
    set_none full zeros =
        let free = free_on (home_free full) (zero_free (from / 8 + 1) (length packed) (omega arith) zeros).at in
        sym (ap first (places_none free (omega (arith, lines_length))))

    -- or in the first of these that is not 0
    pub set_after : 8 ≤ entry → (k line : ℕ) → Found (ltb 0) (from / 8 + 1) k packed → line ≡ first_line (get_or packed k 0) 0 → line < 8
        → Some (8 * k + line) ≡ first (set_lines from packed)
    set_after full k line hit e below =
        let zeros = zero_free (from / 8 + 1) k (omega (arith, hit.high)) hit.free in
        let here = rw (← e) at (entry_free k 0 hit.high (omega arith)) in
        let start : 8 * k + 0 ≡ 8 * k = omega arith in
        let free = free_on (free_on (home_free full) zeros.at) (rw start at here).at in
        let set = rw (← e) at (entry_set k 0 hit.high (omega arith) (omega (arith, e))) in
        sym (ap first (places_first free (omega (arith, hit.low)) (omega (arith, lines_length, hit.high)) set))

-- the entry of a byte that is not 0
pub some_entry : (byte line : ℕ) → 0 < byte → byte < 256 → line ≡ first_line byte 0 → line < 8
some_entry byte line some small e = omega (arith, e, PackingLaws.some_line byte some small)

-- from the first line on: in the first byte that is not 0
set_first : (packed : List ℕ) (k line : ℕ) → Found (ltb 0) 0 k packed → line ≡ first_line (get_or packed k 0) 0 → line < 8
    → Some (8 * k + line) ≡ first (set_lines 0 packed)
set_first packed k line hit e below =
    let zeros = zero_free packed 0 k (omega (arith, hit.high)) hit.free in
    let start : 8 * k + 0 ≡ 8 * k = omega arith in
    let here = rw (← e, start) at (entry_free packed k 0 hit.high (omega arith)) in
    let set = rw (← e) at (entry_set packed k 0 hit.high (omega arith) (omega (arith, e))) in
    sym (ap first (places_first (free_on zeros here.at) (omega arith) (omega (arith, lines_length packed, hit.high)) set))

-- a search from a line on in that line's byte
module _ (packed : List ℕ) (from : ℕ) where
  abbrev own : ℕ
  own = first_line (get_or packed (from / 8) 0) (from % 8)

  -- finds the line that the entry names
  in_found : (w : ℕ) → in_byte from packed ≡ Some w → (w ≡ 8 * (from / 8) + own) × (own < 8)
  in_found w e = by (listed own) refl e
    where
      by : (o : Option ℕ) → listed own ≡ o → through (from / 8) o ≡ Some w → (w ≡ 8 * (from / 8) + own) × (own < 8)
      by None q e = let no : ⊥ = cc in absurd no
      by (Some line) q e =
          let k = listed_some own line q in
          let same : 8 * (from / 8) + line ≡ w = cc in
          (omega (arith, k, same), omega (arith, k))

  pub in_some : (w : ℕ) → from / 8 < length packed → in_byte from packed ≡ Some w → Some w ≡ first (set_lines from packed)
  in_some w within e = let k = in_found w e in rw k.0 (set_home packed from own within refl k.1)

  -- which is in that byte
  pub in_place : (w : ℕ) → in_byte from packed ≡ Some w → w / 8 ≡ from / 8
  in_place w e = omega (arith, in_found w e)

  -- finds none: the entry is 8
  pub in_none : in_byte from packed ≡ None → 8 ≤ own
  in_none e = by (listed own) refl e
    where
      by : (o : Option ℕ) → listed own ≡ o → through (from / 8) o ≡ None → 8 ≤ own
      by None q e = listed_none own q
      by (Some line) q e = let no : ⊥ = cc in absurd no

  -- of the last byte: it finds what a search to the end finds
  pub in_last : from / 8 + 1 ≡ length packed → in_byte from packed ≡ None → None ≡ first (set_lines from packed)
  in_last last e = set_none packed from own (omega arith) refl (in_none e) (rw last free_none)

-- from the first line on of a byte whose entry names a line
in_first : (packed : List ℕ) (k : ℕ) → first_line (get_or packed k 0) 0 < 8 → in_byte (8 * k) packed ≡ Some (8 * k + first_line (get_or packed k 0) 0)
in_first packed k below =
    let byte : (8 * k) / 8 ≡ k = omega arith in
    let start : (8 * k) % 8 ≡ 0 = omega arith in
    rw (byte, start, lt-ltb (first_line (get_or packed k 0) 0) 8 below)

-- where every byte is 0 no line is set
set_quiet : (packed : List ℕ) (from : ℕ) → Free (ltb 0) 0 (length packed) packed → set_lines from packed ≡ []
set_quiet packed from zeros =
    let free : Free is_set from (length (lines packed)) (lines packed) =
    record {
      at = λ i a b. (zero_free packed 0 (length packed) (omega arith) zeros).at i (omega arith) (omega (arith, lines_length packed));
    } in
    places_none free (omega arith)

pub round_quiet : (packed : List ℕ) (from : ℕ) → Free (ltb 0) 0 (length packed) packed
    → None ≡ first (set_lines from packed ++ set_lines 0 packed)
round_quiet packed from zeros = sym (ap₂ (λ (high low : List ℕ). first (high ++ low)) (set_quiet packed from zeros) (set_quiet packed 0 zeros))

-- the highest byte tells that
pub highest_zero : (packed : List ℕ) → highest packed ≡ 0 → Free (ltb 0) 0 (length packed) packed
highest_zero packed e = record { at = λ k _ _. is_zero {b = get_or packed k 0} (omega (arith, highest_most packed k)) }

-- what a search for the next byte finds: one after `home`, or else one up to it
pub record Next (packed : List ℕ) (home k : ℕ) : Type 0 where
  pub within : k < length packed
  pub some : 0 < get_or packed k 0
  pub found : Found (ltb 0) (home + 1) k packed
      ⊎ (Free (ltb 0) (home + 1) (length packed) packed × Found (ltb 0) 0 k (take (home + 1) packed))

module _ (packed : List ℕ) (home : ℕ) (within : home < length packed) where
  -- the bytes after it, and those up to it
  abbrev above : List ℕ
  above = nonzero (home + 1) packed

  abbrev upto_home : List ℕ
  upto_home = take (home + 1) packed

  upto_length : length upto_home ≡ home + 1
  upto_length = length-take-le (home + 1) packed (omega arith)

  next_by : (ps : List ℕ) (k : ℕ) → above ≡ ps → first (ps ++ nonzero 0 upto_home) ≡ Some k → Next packed home k
  next_by [] k none e =
      let hit = found (ltb 0) 0 k upto_home e in
      let same : get_or upto_home k 0 ≡ get_or packed k 0 = get_or-take (home + 1) packed k 0 (omega (arith, upto_length, hit.high)) in
      record {
        within = omega (arith, upto_length, hit.high);
        some = omega (arith, same, ltb-true 0 (get_or upto_home k 0) hit.passes);
        found = inr (free_of none, hit);
      }
  next_by (p ∷ ps) k some e =
      let hit = found (ltb 0) (home + 1) k packed (ap first some ∙ e) in
      record { within = hit.high; some = ltb-true 0 (get_or packed k 0) hit.passes; found = inl hit }

  pub next_some : (k : ℕ) → first (above ++ nonzero 0 upto_home) ≡ Some k → Next packed home k
  next_some k e = next_by above k refl e

  pub next_within : {answer : Option ℕ} {k : ℕ} → answer ≡ first (above ++ nonzero 0 upto_home) → answer ≡ Some k → k < length packed
  next_within {k = k} e f = (next_some k (sym e ∙ f)).within

  pub next_bound : (answer : Option ℕ) → answer ≡ first (above ++ nonzero 0 upto_home) → IfSome answer (λ k. k < length packed)
  next_bound None e = tt
  next_bound (Some k) e = next_within e refl

  -- it finds none: every byte is 0
  none_by : (ps : List ℕ) → above ≡ ps → first (ps ++ nonzero 0 upto_home) ≡ None → Free (ltb 0) 0 (length packed) packed
  none_by [] none e =
      let low : Free (ltb 0) 0 (length upto_home) upto_home = free_of (first_none _ e) in
      let high : Free (ltb 0) (home + 1) (length packed) packed = free_of none in
      record {
        at = λ k _ u.
            ListsLaws.split (ltb k (home + 1))
            (λ t.
            let l = ltb-true k (home + 1) t in
            ap (ltb 0) (sym (get_or-take (home + 1) packed k 0 l)) ∙ low.at k (omega arith) (omega (arith, upto_length)))
            (λ f. high.at k (ltb-false k (home + 1) f) u);
      }
  none_by (p ∷ ps) some e = let z : ◌≡◌ {A = ℕ} 0 1 = cc in absurd (omega arith)

  pub next_none : first (above ++ nonzero 0 upto_home) ≡ None → Free (ltb 0) 0 (length packed) packed
  next_none e = none_by above refl e

-- once round: a search from a line on that finds one
pub round_high : (packed : List ℕ) (from w : ℕ) → first (set_lines from packed) ≡ Some w
    → Some w ≡ first (set_lines from packed ++ set_lines 0 packed)
round_high packed from w e = sym (OnePick.first_append (set_lines from packed) (set_lines 0 packed) w e)

-- and one that finds none: then none is set from there on, and the bytes up to that line's are enough
module _ (packed : List ℕ) (from : ℕ) (within : from < 8 * length packed) (none : first (set_lines from packed) ≡ None) where
  abbrev end : ℕ
  end = from / 8 + 1

  upto : length (take end packed) ≡ end
  upto = length-take-le end packed (omega arith)

  above_free : Free is_set from (length (lines packed)) (lines packed)
  above_free = free_of (first_none _ none)

  -- the lines up to there are the same
  low_same : (i : ℕ) → i < 8 * end → is_set (get_or (lines packed) i 0) ≡ is_set (get_or (lines (take end packed)) i 0)
  low_same i l =
      let here : 8 * (i / 8) + i % 8 ≡ i = omega arith in
      ap is_set
      (rw here at
      (line_at packed (i / 8) (i % 8) (omega arith) (omega arith)
      ∙ ap (λ (b : ℕ). line b (i % 8)) (sym (get_or-take end packed (i / 8) 0 (omega arith)))
      ∙ sym (line_at (take end packed) (i / 8) (i % 8) (omega (arith, upto)) (omega arith))))

  pub round_low : first (set_lines 0 (take end packed)) ≡ first (set_lines from packed ++ set_lines 0 packed)
  round_low =
      let all = lines_length packed in
      let part : length (lines (take end packed)) ≡ 8 * end = lines_length (take end packed) ∙ ap (λ (k : ℕ). 8 * k) upto in
      let short : set_lines 0 packed ≡ set_lines 0 (take end packed) =
      rw part
      (ListsLaws.filter_upto (λ i. is_set (get_or (lines packed) i 0)) (λ i. is_set (get_or (lines (take end packed)) i 0)) 0 (8 * end) (length (lines packed))
      (omega arith)
      (omega (arith, all))
      (λ i _ u. low_same i u)
      (λ i l u. above_free.at i (omega arith) u)) in
      sym (ap (λ (high : List ℕ). first (high ++ set_lines 0 packed)) (first_none (set_lines from packed) none) ∙ ap first short)

-- the line that the table has for the next byte is the first once round
pub round_next : (packed : List ℕ) (from entry k line : ℕ) (within : from / 8 < length packed)
    → entry ≡ first_line (get_or packed (from / 8) 0) (from % 8) → 8 ≤ entry → Next packed (from / 8) k
    → line ≡ first_line (get_or packed k 0) 0 → line < 8
    → Some (8 * k + line) ≡ first (set_lines from packed ++ set_lines 0 packed)
round_next packed from entry k line within is full next e below =
    ⊎_elim
    (λ hit.
    let high = set_after packed from entry within is full k line hit e below in
    round_high packed from (8 * k + line) (sym high))
    (λ both.
    let hit = both.1 in
    let part = take (from / 8 + 1) packed in
    let long : length part ≡ from / 8 + 1 = length-take-le (from / 8 + 1) packed (omega arith) in
    let same : get_or part k 0 ≡ get_or packed k 0 = get_or-take (from / 8 + 1) packed k 0 (omega (arith, long, hit.high)) in
    set_first part k line hit (e ∙ ap (λ (b : ℕ). first_line b 0) (sym same)) below
    ∙ round_low packed from (omega arith) (sym (set_none packed from entry within is full both.0)))
    next.found

-- so does a search in that line's byte, and else in the next byte
pub round_some : (packed : List ℕ) (from w : ℕ) → from / 8 < length packed → in_byte from packed ≡ Some w
    → Some w ≡ first (set_lines from packed ++ set_lines 0 packed)
round_some packed from w within e = round_high packed from w (sym (in_some packed from w within e))

pub round_other : (packed : List ℕ) (from k : ℕ) → from / 8 < length packed → in_byte from packed ≡ None
    → first (nonzero (from / 8 + 1) packed ++ nonzero 0 (take (from / 8 + 1) packed)) ≡ Some k
    → get_or packed k 0 < 256 → in_byte (8 * k) packed ≡ first (set_lines from packed ++ set_lines 0 packed)
round_other packed from k within none e small =
    let next = next_some packed (from / 8) within k e in
    let line = first_line (get_or packed k 0) 0 in
    let below : line < 8 = some_entry (get_or packed k 0) line next.some small refl in
    in_first packed k below ∙ round_next packed from (first_line (get_or packed (from / 8) 0) (from % 8)) k line within refl (in_none packed from none) next refl below

-- lists that are the same are told to be
same_told : (xs ys : List ℕ) → xs ≡ ys → pointwise nat_eq xs ys ≡ true
same_told xs ys e = ListsLaws.split (pointwise nat_eq xs ys) (λ t. t) (λ f. absurd (other_text xs ys (sym f) e))

-- the packed wires of n stations
module _ (n : ℕ) (packed : List ℕ) (p : Packed n packed) where
  -- no line past the last station is set
  past_free : Free is_set n (length (lines packed)) (lines packed)
  past_free = free_of p.unused

  -- so the set lines are the stations that ask
  as_ones : (from : ℕ) → from ≤ n → set_lines from packed ≡ ones from (unpack n packed)
  as_ones from l =
      let all = lines_length packed in
      let wires = PackingLaws.unpack_length n packed in
      rw wires
      (ListsLaws.filter_upto (λ i. is_set (get_or (lines packed) i 0)) (λ i. is_set (get_or (unpack n packed) i 0)) from n (length (lines packed))
      l
      (omega (arith, all, p.long))
      (λ i _ u. ap is_set (PackingLaws.unpack_at (8 * length packed) packed i (omega (arith, p.long)) ∙ sym (PackingLaws.unpack_at n packed i u)))
      past_free.at)

  -- and the bytes are the packed form of them
  unused_zero : (i : ℕ) → n ≤ i → wire packed i ≡ 0
  unused_zero i l =
      ListsLaws.split (ltb i (8 * length packed))
      (λ t.
      let u = ltb-true i (8 * length packed) t in
      let at = PackingLaws.unpack_at (8 * length packed) packed i u in
      omega (arith, eqb-false _ 1 (sym (ap is_set at) ∙ past_free.at i l (omega (arith, lines_length packed)))))
      (λ f.
      rw (get_or-eq_default packed 0 {n = i / 8} (omega (arith, ltb-false i (8 * length packed) f))) (PackingLaws.line_zero (i % 8)))

  as_packed : ((k : ℕ) → get_or packed k 0 < 256) → pack (unpack n packed) ≡ packed
  as_packed small = PackingLaws.pack_unpack n packed p.long small unused_zero

  -- so packed grants are the requests exactly if the wires are the unpacked ones
  packed_more : (h : Head) → start h < n → ((k : ℕ) → get_or packed k 0 < 256) → (b : Bool)
      → b ≡ not (pointwise nat_eq packed (pack (grants n 1 h (requested (unpack n packed)))))
      → b ≡ more n (requested (unpack n packed)) (granted n 1 h (requested (unpack n packed)))
  packed_more h station small b e =
      let wires = unpack n packed in
      let out = grants n 1 h (requested wires) in
      let long : length wires ≡ n = PackingLaws.unpack_length n packed in
      let back : unpack n (pack out) ≡ out =
      rw (RoundRobinLaws.grants_length n 1 h (requested wires)) at (PackingLaws.unpack_pack out (RoundRobinLaws.grants_bit n 1 h (requested wires))) in
      let same : pointwise nat_eq packed (pack out) ≡ pointwise nat_eq wires out =
      ListsLaws.both_ways _ _
      (λ t. same_told wires out (ap (unpack n) (same_text packed (pack out) (sym t)) ∙ back))
      (λ t. same_told packed (pack out) (sym (as_packed small) ∙ ap pack (same_text wires out (sym t)))) in
      PendingLaws.more_bytes n 1 h wires long (omega (arith, station)) (λ w _. PackingLaws.unpack_bit n packed w) b (e ∙ ap not same)

  -- and the first once round is whom the rule grants
  module _ (h : Head) (station : start h < n) where
    abbrev wires : List ℕ
    wires = unpack n packed

    granted_by : (f : Option ℕ) → first (ones (start h) wires) ≡ f → first (ones (start h) wires ++ ones 0 wires) ≡ first (granted n 1 h (requested wires))
    granted_by None e =
        ap (λ (high : List ℕ). first (high ++ ones 0 wires)) (first_none (ones (start h) wires) e)
        ∙ OnePick.found_low n h wires station (PackingLaws.unpack_length n packed) e
    granted_by (Some w) e =
        OnePick.first_append (ones (start h) wires) (ones 0 wires) w e
        ∙ OnePick.found_high n h wires station (PackingLaws.unpack_length n packed) w e

    pub round_granted : first (set_lines (start h) packed ++ set_lines 0 packed) ≡ first (granted n 1 h (requested (unpack n packed)))
    round_granted = rw (as_ones (start h) (omega arith), as_ones 0 (omega arith)) (granted_by _ refl)

    -- there is none: nobody is granted
    module _ (e : first (set_lines (start h) packed ++ set_lines 0 packed) ≡ None) where
      nobody : granted n 1 h (requested wires) ≡ []
      nobody = first_none _ (sym round_granted ∙ e)

      pub none_decides : deciding n h [] false ≡ decision n 1 h (requested (unpack n packed))
      none_decides = decided_none n 1 h (requested wires) (omega arith) (omega (arith, station)) nobody

      pub none_grants : replicate (packed_length n) 0 ≡ pack (grants n 1 h (requested (unpack n packed)))
      none_grants = sym (ap pack (RoundRobinLaws.grants_marks n 1 h (requested wires) ∙ ap (marks n) nobody) ∙ PackingLaws.pack_none n)

    -- it is station w: that is granted, and nobody else
    module _ (w : ℕ) (e : first (set_lines (start h) packed ++ set_lines 0 packed) ≡ Some w) where
      only : granted n 1 h (requested wires) ≡ w ∷ []
      only = OnePick.only_granted n h (requested wires) station w (sym round_granted ∙ e)

      pub one_below : w < n
      one_below = OnePick.granted_below n h (requested wires) station w (sym round_granted ∙ e)

      pub one_grants : set (replicate (packed_length n) 0) (w / 8) (2 ^ (w % 8)) ≡ pack (grants n 1 h (requested (unpack n packed)))
      one_grants = sym (ap pack (RoundRobinLaws.grants_marks n 1 h (requested wires) ∙ ap (marks n) only) ∙ PackingLaws.pack_one n w one_below)

      -- more are pending exactly if these grants are not the requests
      pub one_decides : ((k : ℕ) → get_or packed k 0 < 256) → (b : Bool)
          → b ≡ not (pointwise nat_eq packed (set (replicate (packed_length n) 0) (w / 8) (2 ^ (w % 8))))
          → counted n h 1 (Some w) b ≡ decision n 1 h (requested (unpack n packed))
      one_decides small b e =
          let told = packed_more h station small b (e ∙ rw one_grants) in
          counted_one n w h b one_below
          ∙ ap (deciding n h (w ∷ [])) (told ∙ ap (more n (requested wires)) only)
          ∙ decided_granted n 1 h (requested wires) (w ∷ []) only
