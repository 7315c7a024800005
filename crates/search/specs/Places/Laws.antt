-- Laws of places: how a search finds the first; and of the highest byte.
-- Assumes nothing.
use Rattle.std.specs.Prelude.{ℕ, zero, suc, ◌+◌, ◌-◌, ◌≤◌, ◌<◌, max, ◌≡◌, refl, Bool, true, false, List, [], ◌∷◌, eqb, ltb, length, get_or, drop, replicate}
use Rattle.std.proofs.Common.{sym, ap, ◌∙◌, add-one, arith, drop_of_length-le, drop-cons, eqb-true, ltb-true, ltb-false, lt-ltb, le-ltb, ne_eqb}
use Rattle.std.proofs.lemmas.Bool.{eqb-false}
use Rattle.std.proofs.lemmas.List.{length-replicate}
use Rattle.std.specs.Prelude.{Option, None, Some, MatchOption}
use Rattle.std.specs.List.{fold}
use Rattle.rules.specs.Lists.{range, filter}
use Rattle.rules.specs.Lists.Laws as ListsLaws
use Rattle.search.specs.Places.{places, first, Bits, highest}

-- a list without a first is empty
pub first_none : (ps : List ℕ) → first ps ≡ None → ps ≡ []
first_none [] e = refl
first_none (p ∷ ps) e = let z : ◌≡◌ {A = ℕ} 0 1 = cc in absurd (omega arith)

-- and one with a first begins with it
pub first_some : (ps : List ℕ) (w : ℕ) → first ps ≡ Some w → (rest : List ℕ) × (ps ≡ w ∷ rest)
first_some [] w e = let z : ◌≡◌ {A = ℕ} 0 1 = cc in absurd (omega arith)
first_some (p ∷ ps) w e = let same : p ≡ w = cc in (ps, rw same)

-- a byte that is not 0 passes the test of one, and 0 does not
pub is_nonzero : {b : ℕ} → (b ≡ 0 → ⊥) → ltb 0 b ≡ true
is_nonzero {b} e = lt-ltb 0 b (omega arith)

pub is_zero : {b : ℕ} → b ≡ 0 → ltb 0 b ≡ false
is_zero {b} e = le-ltb 0 b (omega arith)

-- no byte from one place up to another passes
pub record Free (test : ℕ → Bool) (from to : ℕ) (bytes : List ℕ) : Type 0 where
  pub at : (k : ℕ) → from ≤ k → k < to → test (get_or bytes k 0) ≡ false

-- at first there is none to pass
pub free_none : {test : ℕ → Bool} {from : ℕ} {bytes : List ℕ} → Free test from from bytes
free_none = record { at = λ k l u. absurd (omega arith) }

module _ {test : ℕ → Bool} {from i : ℕ} {bytes : List ℕ} (free : Free test from i bytes) where
  -- one more that does not pass
  pub free_more : test (get_or bytes i 0) ≡ false → Free test from (i + 1) bytes
  free_more e =
      record {
        at =
            λ k l u.
            ListsLaws.split (eqb k i)
            (λ q. ap (λ (j : ℕ). test (get_or bytes j 0)) (eqb-true k i q) ∙ e)
            (λ q. free.at k l (omega (arith, eqb-false k i q)));
      }

  -- and several
  pub free_on : {j : ℕ} → ((k : ℕ) → i ≤ k → k < j → test (get_or bytes k 0) ≡ false) → Free test from j bytes
  free_on e =
      record {
        at =
            λ k l u.
            ListsLaws.split (ltb k i)
            (λ q. free.at k l (ltb-true k i q))
            (λ q. e k (ltb-false k i q) u);
      }

  -- a search that comes to the end has found nothing
  pub places_none : length bytes ≤ i → places test from bytes ≡ []
  places_none l =
      ListsLaws.filter_none (λ k. test (get_or bytes k 0)) from (length bytes - from) (λ k n u. free.at k n (omega arith))

  -- and one that stops has found the first
  pub places_first : from ≤ i → i < length bytes → test (get_or bytes i 0) ≡ true
      → places test from bytes ≡ i ∷ places test (suc i) bytes
  places_first l u t =
      let left : from + (length bytes - from) - suc i ≡ length bytes - suc i = omega arith in
      ListsLaws.filter_first (λ k. test (get_or bytes k 0)) from (length bytes - from) i l (omega arith) free.at t
      ∙ rw left

  -- it may be left to another that goes on from there
  pub places_on : from ≤ i → places test i bytes ≡ places test from bytes
  places_on l =
      ListsLaws.split (ltb i (length bytes))
      (λ q.
      let n = i - from in
      let k = length bytes - i in
      let room : i < length bytes = ltb-true i (length bytes) q in
      let all : length bytes - from ≡ n + k = omega arith in
      let here : from + n ≡ i = omega arith in
      let p : ℕ → Bool = λ w. test (get_or bytes w 0) in
      sym (
      ap (λ (m : ℕ). filter p (range from m)) all ∙ ap (filter p) (ListsLaws.range_append from n k)
      ∙ ListsLaws.filter_append p (range from n) (range (from + n) k)
      ∙ rw (ListsLaws.filter_none p from n (λ w a b. free.at w a (omega arith)), here)
      ))
      (λ q.
      let past : length bytes ≤ i = ltb-false i (length bytes) q in
      let none : length bytes - i ≡ 0 = omega arith in
      let empty : places test i bytes ≡ [] = rw none in
      empty ∙ sym (places_none past))

-- what a search of a range answers is the first place
pub first_place : (test : ℕ → Bool) (from : ℕ) (bytes : List ℕ) (r : Option ℕ)
    → MatchOption r ((k : ℕ) → from ≤ k → k < length bytes → test (get_or bytes k 0) ≡ false)
    (λ i. (from ≤ i) × (i < length bytes) × (test (get_or bytes i 0) ≡ true) × ((k : ℕ) → from ≤ k → k < i → test (get_or bytes k 0) ≡ false))
    → r ≡ first (places test from bytes)
first_place test from bytes None none =
    sym (ap first (places_none {test = test} {from = from} {i = max from (length bytes)} (record { at = λ k l u. none k l (omega arith) }) (omega arith)))
first_place test from bytes (Some i) some =
    sym (ap first (places_first {test = test} {from = from} {i = i} (record { at = some.3 }) some.0 some.1 some.2))

-- what a search has found: the first such place of the buffer, and after it come the places from the next one on
pub record Found (test : ℕ → Bool) (from i : ℕ) (bytes : List ℕ) : Type 0 where
  pub low : from ≤ i
  pub high : i < length bytes
  pub passes : test (get_or bytes i 0) ≡ true
  pub free : Free test from i bytes
  pub all : places test from bytes ≡ i ∷ places test (suc i) bytes

pub found : (test : ℕ → Bool) (from i : ℕ) (bytes : List ℕ) → first (places test from bytes) ≡ Some i → Found test from i bytes
found test from i bytes e =
    let q = first_some (places test from bytes) i e in
    let r = ListsLaws.first_of (λ k. test (get_or bytes k 0)) from (length bytes - from) i q.0 q.1 in
    let left : from + (length bytes - from) - suc i ≡ length bytes - suc i = omega (arith, r.low, r.high) in
    record {
      low = r.low;
      high = omega (arith, r.low, r.high);
      passes = r.passes;
      free = record { at = r.earlier };
      all = q.1 ∙ rw (r.rest, left);
    }

-- where there is no such place no byte passes
pub free_of : {test : ℕ → Bool} {from : ℕ} {bytes : List ℕ} → places test from bytes ≡ [] → Free test from (length bytes) bytes
free_of {test} {from} {bytes} e =
    record { at = λ k l u. ListsLaws.none_of (λ i. test (get_or bytes i 0)) from (length bytes - from) k e l (omega arith) }

-- where every byte is 0, none is 1
pub no_one : {from to : ℕ} {bytes : List ℕ} → Free (ltb 0) from to bytes → (k : ℕ) → from ≤ k → k < to → eqb (get_or bytes k 0) 1 ≡ false
no_one {from} {to} {bytes} free k l u =
    ne_eqb (get_or bytes k 0) 1 (λ e. omega (arith, ltb-false 0 (get_or bytes k 0) (free.at k l u)))

-- the highest byte of those from a place on
pub highest_none : (bytes : List ℕ) (i : ℕ) → length bytes ≤ i → highest (drop i bytes) ≡ 0
unfolding highest
highest_none bytes i l = ap highest (drop_of_length-le bytes l)

pub highest_next : (bytes : List ℕ) (i : ℕ) → i < length bytes
    → highest (drop i bytes) ≡ max (get_or bytes i 0) (highest (drop (i + 1) bytes))
unfolding highest
highest_next bytes i l = ap highest (drop-cons bytes i 0 l) ∙ rw add-one

-- the highest of some bytes and a first number, one after another
highest_from : (a : ℕ) (bytes : List ℕ) → fold max a bytes ≡ max a (highest bytes)
unfolding highest
highest_from a [] = omega arith
highest_from a (b ∷ bs) = highest_from (max a b) bs ∙ omega arith

pub highest_fold : (bytes : List ℕ) → fold max 0 bytes ≡ highest bytes
highest_fold bytes = highest_from 0 bytes ∙ omega arith

-- no byte is higher, and a number that no byte is above it is not above either
pub highest_most : (bytes : List ℕ) (i : ℕ) → get_or bytes i 0 ≤ highest bytes
unfolding highest
highest_most [] i = omega arith
highest_most (b ∷ bs) zero = omega arith
highest_most (b ∷ bs) (suc i) = omega (arith, highest_most bs i)

pub highest_least : (bytes : List ℕ) (m : ℕ) → ((i : ℕ) → i < length bytes → get_or bytes i 0 ≤ m) → highest bytes ≤ m
unfolding highest
highest_least [] m l = omega arith
highest_least (b ∷ bs) m l = omega (arith, l 0 (omega arith), highest_least bs m (λ i u. l (suc i) (omega arith)))

-- it is at most 1 exactly if every byte is 0 or 1
pub highest_bits : (bytes : List ℕ) → highest bytes ≤ 1 → Bits bytes
highest_bits bytes l i u = omega (arith, highest_most bytes i)

pub bits_highest : (bytes : List ℕ) → Bits bytes → highest bytes ≤ 1
bits_highest bytes b = highest_least bytes 1 b

-- a buffer that is all 0 has the places that it is to have
pub zeros_fit : {n i : ℕ} {bytes : List ℕ} → bytes ≡ replicate n 0 → i < n → i < length bytes
zeros_fit {n} e l = omega (arith, ap length e, length-replicate {A = ℕ} n 0)
