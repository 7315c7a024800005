-- The first laws of the round-robin rule: what is read off its definitions. With those that follow from them (the module of the same
-- name in proofs, which has all) they are what every engine and every theorem above stands on, and they see nothing of the rule's
-- inside. `start h < n` says that h is none or a station below n, and that there is a station.
-- Assumes nothing.
use Rattle.std.specs.Prelude.{ℕ, suc, ◌+◌, ◌-◌, ◌%◌, ◌≤◌, ◌<◌, min, ◌≡◌, refl, Bool, true, false, ◌&&◌, ◌⊎◌, List, [], ◌∷◌, ◌++◌, ltb, eqb, length, get_or}
use Rattle.std.proofs.Common.{sym, ap, ◌∙◌, inl, inr, ⊎_elim, append_assoc, append-nil, arith, mod-eq_of_lt, mod-lt, zero-add, add-one, ltb-true, ltb-false, length-take}
use Rattle.std.proofs.Math.Nat.{mod_self}
use Rattle.rules.specs.Head.{Head}
use Rattle.std.specs.Prelude.{None, Some}
use Rattle.rules.specs.Lists.{bit, range, filter, count, member, marks, before, last}
use Rattle.rules.specs.Lists.Laws as ListsLaws
use Rattle.rules.specs.RoundRobin.{start, order, granted, grants, after, next}

-- with no head station 0 comes first
pub start_none : start None ≡ 0
unfolding start
start_none = refl

-- the head comes first
pub start_at : (h : ℕ) → start (Some h) ≡ h
unfolding start
start_at h = refl

-- the order is two runs of stations: from the first to the end, and from 0 up to the first
pub order_runs : (n : ℕ) (h : Head) → order n h ≡ range (start h) (n - start h) ++ range 0 (start h)
unfolding order
order_runs n h = refl

-- the order that starts at s
abbrev from : ℕ → ℕ → List ℕ
from n s = range s (n - s) ++ range 0 s

from_count : (n s : ℕ) (p : ℕ → Bool) → s ≤ n → count p (from n s) ≡ count p (range 0 n)
from_count n s p l =
    rw (ListsLaws.range_split n s l) (omega (arith, ListsLaws.count_append p (range s (n - s)) (range 0 s), ListsLaws.count_append p (range 0 s) (range s (n - s))))

-- one past s is s + 1, or 0 where s is the last station
past : (n s : ℕ) → s < n → (((s + 1) % n ≡ suc s) × (suc s < n)) ⊎ (((s + 1) % n ≡ 0) × (suc s ≡ n))
past n s l =
    ListsLaws.split (ltb (suc s) n)
    (λ e. inl (rw add-one (mod-eq_of_lt (ltb-true (suc s) n e)), ltb-true (suc s) n e))
    (λ e. let q : suc s ≡ n = omega (arith, ltb-false (suc s) n e) in inr (rw (add-one, q) (mod_self n), q))

from_turned : (n s : ℕ) → s < n → (rest : List ℕ) × (from n s ≡ s ∷ rest) × (from n ((s + 1) % n) ≡ rest ++ (s ∷ []))
from_turned n s l = (
  range (suc s) (n - suc s) ++ range 0 s,
  (let d : n - s ≡ suc (n - suc s) = omega arith in rw d),
  ⊎_elim
      (λ q. rw (q.0, ListsLaws.range_snoc 0 s, zero-add) (sym (append_assoc (range (suc s) (n - suc s)) (range 0 s) (s ∷ []))))
      (λ q.
      let z : n - suc s ≡ 0 = omega arith in
      let w : n - 0 ≡ suc s = omega arith in
      rw (q.0, z, w, append-nil (range 0 (suc s)), ListsLaws.range_snoc 0 s, zero-add))
      (past n s l),
)

pub after_last : (n : ℕ) (h : Head) (front : List ℕ) (w : ℕ) → after n h (front ++ (w ∷ [])) ≡ Some ((w + 1) % n)
unfolding after
after_last n h [] w = refl
after_last n h (x ∷ front) w = ap (λ (k : ℕ). Some ((k + 1) % n)) (ListsLaws.last_snoc x front w)

pub after_head : (n : ℕ) (h : Head) (xs : List ℕ) → start h < n → (k : ℕ) × (k < n) × (after n h xs ≡ Some k)
unfolding after start
after_head n h (g ∷ gs) l = ((last g gs + 1) % n, mod-lt (last g gs + 1) (omega arith), refl)
after_head n (Some k) [] l = (k, l, refl)
after_head n None [] l = (n - 1, omega arith, refl)

-- counting along the order counts every station once
pub order_count : (n : ℕ) (h : Head) (p : ℕ → Bool) → start h ≤ n → count p (order n h) ≡ count p (range 0 n)
unfolding order
order_count n h p l = from_count n (start h) p l

-- the order that starts at the first station's successor is the order turned by one
pub order_turned : (n : ℕ) (h : Head) → start h < n
    → (rest : List ℕ) × (order n h ≡ start h ∷ rest) × (order n (Some ((start h + 1) % n)) ≡ rest ++ (start h ∷ []))
unfolding order start
order_turned n h l = from_turned n (start h) l

-- a station of the order is granted exactly if it asks and fewer than m that stand before it ask
pub granted_inside : (n m : ℕ) (h : Head) (asks : ℕ → Bool) (w : ℕ) → member w (order n h) ≡ true
    → member w (granted n m h asks) ≡ (asks w && ltb (count asks (before w (order n h))) m)
unfolding granted
granted_inside n m h asks w inside = ListsLaws.member_first asks w (order n h) m inside

-- and no other is
pub granted_only : (n m : ℕ) (h : Head) (asks : ℕ → Bool) (w : ℕ) → member w (order n h) ≡ false → member w (granted n m h asks) ≡ false
unfolding granted
granted_only n m h asks w out = ListsLaws.not_in_take w m (filter asks (order n h)) (ListsLaws.member_filter asks w (order n h) ∙ rw out)

-- m are granted, or all that ask if those are fewer
pub granted_length : (n m : ℕ) (h : Head) (asks : ℕ → Bool) → length (granted n m h asks) ≡ min m (count asks (order n h))
unfolding granted
granted_length n m h asks = length-take m (filter asks (order n h)) ∙ ap (min m) (ListsLaws.length_filter asks (order n h))

-- an asking station that makes up the number of the granted is the last of them, wherever it cuts the order
pub granted_cut : (n m : ℕ) (h : Head) (asks : ℕ → Bool) (front : List ℕ) (w : ℕ) (back : List ℕ) → order n h ≡ front ++ w ∷ back → asks w ≡ true
    → suc (count asks front) ≡ length (granted n m h asks) → granted n m h asks ≡ filter asks front ++ (w ∷ [])
unfolding granted
granted_cut n m h asks front w back is t e = ListsLaws.first_upto asks m (order n h) front w back is t e

-- the grant buffer has a byte for each station
pub grants_length : (n m : ℕ) (h : Head) (asks : ℕ → Bool) → length (grants n m h asks) ≡ n
unfolding grants
grants_length n m h asks = ListsLaws.length_table _ 0 n

-- and it is 1 for those that are granted, and 0 for the others
pub grants_member : (n m : ℕ) (h : Head) (asks : ℕ → Bool) (w : ℕ) → w < n
    → get_or (grants n m h asks) w 0 ≡ bit (member w (granted n m h asks))
unfolding grants
grants_member n m h asks w k = ListsLaws.get_d_table _ 0 n w k ∙ rw zero-add

-- that is all there is to it
pub grants_marks : (n m : ℕ) (h : Head) (asks : ℕ → Bool) → grants n m h asks ≡ marks n (granted n m h asks)
unfolding grants
grants_marks n m h asks = refl

-- nobody is granted twice
pub granted_once : (n m : ℕ) (h : Head) (asks : ℕ → Bool) (w : ℕ) → count (eqb w) (granted n m h asks) ≤ count (eqb w) (order n h)
unfolding granted
granted_once n m h asks w =
    omega (arith, ListsLaws.count_take_le (eqb w) m (filter asks (order n h)), ListsLaws.count_filter_le (eqb w) asks (order n h))

-- it is told by whom the cycle grants
pub next_after : (n m : ℕ) (h : Head) (asks : ℕ → Bool) (gs : List ℕ) → granted n m h asks ≡ gs → next n m h asks ≡ after n h gs
unfolding next
next_after n m h asks gs e = ap (after n h) e

-- after one grant it is one past it, modulo n
pub after_one : (n : ℕ) (h : Head) (w : ℕ) → after n h (w ∷ []) ≡ Some ((w + 1) % n)
unfolding after
after_one n h w = refl

-- after nobody a head stays
pub after_stays : (n k : ℕ) → after n (Some k) [] ≡ Some k
unfolding after
after_stays n k = refl

-- and no head becomes n - 1
pub after_none : (n : ℕ) → after n None [] ≡ Some (n - 1)
unfolding after
after_none n = refl
