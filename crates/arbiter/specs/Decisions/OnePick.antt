-- A cycle with one pick: how a search for the first 1 finds whom the rule grants. n is the width, h the head.
-- Assumes nothing.
use Rattle.std.specs.Prelude.{ℕ, ◌-◌, ◌≤◌, ◌<◌, ◌≡◌, refl, Bool, List, [], ◌∷◌, ◌++◌, eqb, ltb, length}
use Rattle.std.proofs.Common.{sym, ap, ◌∙◌, append-nil, arith, eq-eqb, ltb-true, ltb-false}
use Rattle.rules.specs.Head.{Head}
use Rattle.std.specs.Prelude.{Option, None, Some, is_some}
use Rattle.rules.specs.Lists.{bit, range, filter, count}
use Rattle.rules.specs.Lists.Laws as ListsLaws
use Rattle.rules.specs.RoundRobin.{start, order, granted, grants}
use Rattle.rules.proofs.Walk.Laws.{Walked}
use Rattle.rules.proofs.RoundRobin.Laws as RoundRobinLaws
use Rattle.search.specs.Places.{ones, first}
use Rattle.search.specs.Places.Laws.{first_none, first_some}
use Rattle.arbiter.specs.Decisions.{requested}

-- a list of one at most is its first
first_only : (ps : List ℕ) (w : ℕ) → length ps ≤ 1 → first ps ≡ Some w → ps ≡ w ∷ []
first_only ps w l e =
    let r = first_some ps w e in r.1 ∙ ap {B = List ℕ} (λ rest. w ∷ rest) (ListsLaws.empty r.0 (omega (arith, ap length r.1)))

-- what is first stays first where more follows
pub first_append : (ps qs : List ℕ) (w : ℕ) → first ps ≡ Some w → first (ps ++ qs) ≡ Some w
first_append ps qs w e = ap (λ (l : List ℕ). first (l ++ qs)) (first_some ps w e).1

module _ (n : ℕ) (h : Head) (asks : ℕ → Bool) (station : start h < n) where
  -- those that ask, in the order from the head
  abbrev asked_in_order : List ℕ
  asked_in_order = filter asks (order n h)

  -- they are stations
  first_below : (w : ℕ) → first asked_in_order ≡ Some w → w < n
  first_below w e =
      ListsLaws.split (ltb w n)
      (λ l. ltb-true w n l)
      (λ g.
      let r = first_some asked_in_order w e in
      absurd (omega (
        arith,
        ap (count (eqb w)) r.1,
        ap bit (eq-eqb w w refl),
        ListsLaws.count_filter_le (eqb w) asks (order n h),
        RoundRobinLaws.order_outside n h w (omega arith) (ltb-false w n g),
      )))

  -- the first of them is granted
  first_granted : first (granted n 1 h asks) ≡ first asked_in_order
  first_granted = by asked_in_order refl
    where
      by : (ps : List ℕ) → asked_in_order ≡ ps → first (granted n 1 h asks) ≡ first ps
      by [] e = ap first (RoundRobinLaws.granted_none n 1 h asks (sym (ListsLaws.length_filter asks (order n h)) ∙ ap length e))
      by (p ∷ ps) e =
          let r = ListsLaws.first_left asks (order n h) p ps e in
          ap first (RoundRobinLaws.granted_one n h asks p (omega arith) (first_below p (ap first e)) r.0 r.1)

  -- those from the head on come first
  in_two_runs : asked_in_order ≡ filter asks (range (start h) (n - start h)) ++ filter asks (range 0 (start h))
  in_two_runs =
      ap (filter asks) (RoundRobinLaws.order_runs n h) ∙ ListsLaws.filter_append asks (range (start h) (n - start h)) (range 0 (start h))

  -- where none of those asks, the first that asks at all comes first
  below_head : filter asks (range (start h) (n - start h)) ≡ [] → first (filter asks (range 0 n)) ≡ first asked_in_order
  below_head e =
      let s = start h in
      let low : List ℕ = filter asks (range 0 s) in
      let all : filter asks (range 0 n) ≡ low ++ [] = ap (filter asks) (ListsLaws.range_split n s (omega arith)) ∙ ListsLaws.filter_append asks (range 0 s) (range s (n - s)) ∙ ap (◌++◌ low) e in
      let ordered : asked_in_order ≡ low = in_two_runs ∙ ap (λ (ps : List ℕ). ps ++ low) e in
      ap first (all ∙ append-nil low ∙ sym ordered)

  -- nobody else is granted
  pub only_granted : (w : ℕ) → first (granted n 1 h asks) ≡ Some w → granted n 1 h asks ≡ w ∷ []
  only_granted w e = first_only (granted n 1 h asks) w (omega (arith, RoundRobinLaws.granted_length n 1 h asks)) e

  pub granted_below : (w : ℕ) → first (granted n 1 h asks) ≡ Some w → w < n
  granted_below w e = first_below w (sym first_granted ∙ e)

  -- so it is a walk round that grants one or none
  pub one_walked : (z : Option ℕ) {new : List ℕ} → z ≡ first (granted n 1 h asks) → new ≡ grants n 1 h asks
      → Walked n 1 h asks (bit (is_some z)) z new
  one_walked None e bytes =
      let none : granted n 1 h asks ≡ [] = first_none _ (sym e) in
      record { counted = sym (ap length none); bytes = bytes; nobody = λ _. refl; last = λ some. absurd (omega arith) }
  one_walked (Some w) e bytes =
      let only = only_granted w (sym e) in
      record {
        counted = sym (ap length only);
        bytes = bytes;
        nobody = λ none. absurd (omega arith);
        last = λ _. (w, refl, granted_below w (sym e), RoundRobinLaws.next_after n 1 h asks (w ∷ []) only ∙ RoundRobinLaws.after_one n h w);
      }

-- the same by a buffer's bytes
module _ (n : ℕ) (h : Head) (bytes : List ℕ) (station : start h < n) (long : length bytes ≡ n) where
  -- a search from the head on finds whom the rule grants, or no one
  pub found_high : (w : ℕ) → first (ones (start h) bytes) ≡ Some w → Some w ≡ first (granted n 1 h (requested bytes))
  found_high w e =
      let asks = requested bytes in
      let s = start h in
      sym (first_granted n h asks station
      ∙ ap first (in_two_runs n h asks station)
      ∙ first_append (filter asks (range s (n - s))) (filter asks (range 0 s)) w (rw long at e))

  -- and then one from 0 on finds whom it grants
  pub found_low : first (ones (start h) bytes) ≡ None → first (ones 0 bytes) ≡ first (granted n 1 h (requested bytes))
  found_low e =
      let all : length bytes - 0 ≡ n = omega arith in
      rw all (below_head n h (requested bytes) station (first_none _ (rw long at e))) ∙ sym (first_granted n h (requested bytes) station)
