-- The laws of the round-robin rule. Every engine and every theorem above stands on these and sees nothing of the rule's inside.
-- `start h < n` says that h is none or a station below n, and that there is a station.
-- Assumes nothing.
use Rattle.std.specs.Prelude.{ℕ, suc, ◌+◌, ◌-◌, ◌%◌, ◌≤◌, ◌<◌, ◌≡◌, refl, Bool, true, false, cond, ◌&&◌, List, [], ◌∷◌, ◌++◌, ltb, eqb, length, get_or, take}
use Rattle.std.proofs.Common.{sym, ap, ◌∙◌, append_assoc, arith, mod-lt, ltb-true, ltb-false, eq-eqb, length-append}
use Rattle.std.proofs.Math.ListN.{get_or-eq_default}
use Rattle.rules.specs.Head.{Head}
use Rattle.std.specs.Prelude.{None, Some, unwrap_or}
use Rattle.rules.specs.Lists.{bit, range, filter, count, member, before}
use Rattle.rules.specs.Lists.Laws as ListsLaws
use Rattle.rules.specs.RoundRobin.{start, order, granted, grants, after, next}
pub use Rattle.rules.specs.RoundRobin.Laws.{start_none, start_at, order_runs, after_last, after_head, order_count, order_turned, granted_inside, granted_only, granted_length, granted_cut, grants_length, grants_member, grants_marks, granted_once, next_after, after_one, after_stays, after_none}

-- a station stands in the order once
pub order_once : (n : ℕ) (h : Head) (w : ℕ) → start h ≤ n → w < n → count (eqb w) (order n h) ≡ 1
order_once n h w l k = order_count n h (eqb w) l ∙ ListsLaws.range_once w 0 n (omega arith) (omega arith)

-- so it stands there
pub order_member : (n : ℕ) (h : Head) (w : ℕ) → start h ≤ n → w < n → member w (order n h) ≡ true
order_member n h w l k = ListsLaws.counted_member w (order n h) (omega (arith, order_once n h w l k))

-- nobody else does
pub order_outside : (n : ℕ) (h : Head) (w : ℕ) → start h ≤ n → n ≤ w → count (eqb w) (order n h) ≡ 0
order_outside n h w l k = order_count n h (eqb w) l ∙ ListsLaws.uncounted w (range 0 n) (ListsLaws.above_range w 0 n (omega arith))

-- the order is n stations long
pub order_length : (n : ℕ) (h : Head) → start h ≤ n → length (order n h) ≡ n
order_length n h l =
    sym (ListsLaws.count_all (order n h))
    ∙ order_count n h (λ _. true) l
    ∙ ListsLaws.count_all (range 0 n)
    ∙ ListsLaws.length_range 0 n

-- the order that starts at w's successor is the order turned until w is last
pub order_rotated : (n : ℕ) (h : Head) (front : List ℕ) (w : ℕ) (back : List ℕ) → start h < n → order n h ≡ front ++ w ∷ back
    → order n (Some ((w + 1) % n)) ≡ back ++ (front ++ (w ∷ []))
order_rotated n h [] w back l e =
    let t = order_turned n h l in
    let f : w ≡ start h = cc (e, t.1) in
    let r : back ≡ t.0 = cc (e, t.1) in
    rw (f, r) t.2
order_rotated n h (x ∷ front) w back l e =
    let t = order_turned n h l in
    let f : start h ≡ x = cc (e, t.1) in
    let r : t.0 ≡ front ++ w ∷ back = cc (e, t.1) in
    let there : order n (Some ((start h + 1) % n)) ≡ front ++ w ∷ (back ++ (x ∷ [])) = t.2 ∙ rw (r, f) (append_assoc front (w ∷ back) (x ∷ [])) in
    order_rotated n (Some ((start h + 1) % n)) front w (back ++ (x ∷ [])) (rw start_at (mod-lt (start h + 1) (omega arith))) there
    ∙ append_assoc back (x ∷ []) (front ++ (w ∷ []))

-- nobody stands before the first station
pub before_first : (n : ℕ) (h : Head) → start h < n → before (start h) (order n h) ≡ []
before_first n h l = rw ((order_turned n h l).1, eq-eqb (start h) (start h) refl)

-- before a station at or past the first stand those from the first up to it
pub before_high : (n : ℕ) (h : Head) (w : ℕ) → start h ≤ w → w < n → before w (order n h) ≡ range (start h) (w - start h)
before_high n h w l k =
    let s = start h in
    ap (before w) (order_runs n h)
    ∙ ListsLaws.before_left w (range s (n - s)) (range 0 s) (ListsLaws.member_range w s (n - s) l (omega arith))
    ∙ ListsLaws.before_range w s (n - s) l (omega arith)

-- before a station below the first stand those from the first to the end, and those from 0 up to it
pub before_low : (n : ℕ) (h : Head) (w : ℕ) → w < start h
    → before w (order n h) ≡ range (start h) (n - start h) ++ range 0 w
before_low n h w l =
    let s = start h in
    let all : w - 0 ≡ w = omega arith in
    ap (before w) (order_runs n h)
    ∙ ListsLaws.before_right w (range s (n - s)) (range 0 s) (ListsLaws.below_range w s (n - s) l)
    ∙ rw (ListsLaws.before_range w 0 s (omega arith) (omega arith), all)

-- before the station at position p stand the first p
pub before_at : (n : ℕ) (h : Head) (p : ℕ) → start h ≤ n → p < n → before (get_or (order n h) p 0) (order n h) ≡ take p (order n h)
before_at n h p l k =
    let w = get_or (order n h) p 0 in
    let fits : p < length (order n h) = omega (arith, order_length n h l) in
    let here = ListsLaws.count_at (order n h) p fits in
    let inside : w < n =
    ListsLaws.split (ltb w n)
    (ltb-true w n)
    (λ f. absurd (omega (arith, order_outside n h w l (ltb-false w n f)))) in
    ListsLaws.before_at (order n h) p fits (order_once n h w l inside)

-- how many stand before a station, which is its position in the order
pub before_position : (n : ℕ) (h : Head) (w : ℕ) → w < n
    → length (before w (order n h)) ≡ cond (ltb w (start h)) (n - start h + w) (w - start h)
before_position n h w k =
    let s = start h in
    ListsLaws.split (ltb w s)
    (λ t.
    rw (t, before_low n h w (ltb-true w s t), length-append (range s (n - s)) (range 0 w), ListsLaws.length_range s (n - s), ListsLaws.length_range 0 w))
    (λ f. rw (f, before_high n h w (ltb-false w s f) k, ListsLaws.length_range s (w - s)))

-- fewer ask before an asking station than in all
pub before_count : (n : ℕ) (h : Head) (p : ℕ → Bool) (w : ℕ) → start h ≤ n → w < n → p w ≡ true
    → count p (before w (order n h)) < count p (order n h)
before_count n h p w l k t = ListsLaws.count_before p w (order n h) (order_member n h w l k) t

-- the stations before w are fewer than n
pub before_length : (n : ℕ) (h : Head) (w : ℕ) → start h ≤ n → w < n → length (before w (order n h)) < n
before_length n h w l k =
    omega (
      arith,
      before_count n h (λ _. true) w l k refl,
      ListsLaws.count_all (before w (order n h)),
      ListsLaws.count_all (order n h),
      order_length n h l,
    )

-- a station is granted exactly if it asks and fewer than m that stand before it ask
pub granted_member : (n m : ℕ) (h : Head) (asks : ℕ → Bool) (w : ℕ) → start h ≤ n → w < n
    → member w (granted n m h asks) ≡ (asks w && ltb (count asks (before w (order n h))) m)
granted_member n m h asks w l k = granted_inside n m h asks w (order_member n h w l k)

-- only stations are granted
pub granted_outside : (n m : ℕ) (h : Head) (asks : ℕ → Bool) (w : ℕ) → start h ≤ n → n ≤ w → member w (granted n m h asks) ≡ false
granted_outside n m h asks w l k =
    let out : member w (order n h) ≡ false =
    ListsLaws.split (member w (order n h))
    (λ t. absurd (omega (arith, ap bit t, ListsLaws.member_count w (order n h), order_outside n h w l k)))
    (λ f. f) in
    granted_only n m h asks w out

-- nobody is granted if nobody asks
pub granted_none : (n m : ℕ) (h : Head) (asks : ℕ → Bool) → count asks (order n h) ≡ 0 → granted n m h asks ≡ []
granted_none n m h asks e = ListsLaws.empty _ (omega (arith, granted_length n m h asks))

-- an asking station that makes up the number of the granted is the last of them: the others are those that ask before it
pub granted_upto : (n m : ℕ) (h : Head) (asks : ℕ → Bool) (w : ℕ) → start h ≤ n → w < n → asks w ≡ true
    → suc (count asks (before w (order n h))) ≡ length (granted n m h asks)
    → granted n m h asks ≡ filter asks (before w (order n h)) ++ (w ∷ [])
granted_upto n m h asks w l k t e =
    let r = ListsLaws.before_split w (order n h) (order_member n h w l k) in
    granted_cut n m h asks (before w (order n h)) w r.0 r.1 t e

-- with one pick the first that asks is granted
pub granted_one : (n : ℕ) (h : Head) (asks : ℕ → Bool) (w : ℕ) → start h ≤ n → w < n → asks w ≡ true
    → count asks (before w (order n h)) ≡ 0 → granted n 1 h asks ≡ w ∷ []
granted_one n h asks w l k t e =
    let one : suc (count asks (before w (order n h))) ≡ length (granted n 1 h asks) =
    omega (arith, granted_length n 1 h asks, before_count n h asks w l k t) in
    let none : filter asks (before w (order n h)) ≡ [] = ListsLaws.empty _ (ListsLaws.length_filter asks (before w (order n h)) ∙ e) in
    granted_upto n 1 h asks w l k t one ∙ rw none

-- a byte of the grant buffer is 0 or 1
pub grants_bit : (n m : ℕ) (h : Head) (asks : ℕ → Bool) (i : ℕ) → get_or (grants n m h asks) i 0 ≤ 1
grants_bit n m h asks i =
    let long = grants_length n m h asks in
    ListsLaws.split (ltb i n)
    (λ t. rw (grants_member n m h asks i (ltb-true i n t)) (ListsLaws.bit_le (member i (granted n m h asks))))
    (λ f. omega (arith, get_or-eq_default (grants n m h asks) 0 {n = i} (omega (arith, long, ltb-false i n f))))

-- so as many bytes of the grant buffer are 1 as stations are granted
pub grants_count : (n m : ℕ) (h : Head) (asks : ℕ → Bool) → start h ≤ n
    → count (λ b. eqb b 1) (grants n m h asks) ≡ length (granted n m h asks)
grants_count n m h asks l =
    rw (grants_marks n m h asks)
    (ListsLaws.marks_count (granted n m h asks)
    (λ w.
    ListsLaws.split (ltb w n)
    (λ t. omega (arith, granted_once n m h asks w, order_once n h w l (ltb-true w n t)))
    (λ f. omega (arith, granted_once n m h asks w, order_outside n h w l (ltb-false w n f))))
    n
    (λ w k. omega (arith, granted_once n m h asks w, order_outside n h w l k)))

-- the next head is one past the one granted last, modulo n
pub next_last : (n m : ℕ) (h : Head) (asks : ℕ → Bool) (front : List ℕ) (w : ℕ) → granted n m h asks ≡ front ++ (w ∷ [])
    → next n m h asks ≡ Some ((w + 1) % n)
next_last n m h asks front w e = next_after n m h asks (front ++ (w ∷ [])) e ∙ after_last n h front w

-- a cycle that grants cuts the order at the one granted last: those before it that ask are granted too, and the next order
-- starts behind it
pub record Cut (n m : ℕ) (h : Head) (asks : ℕ → Bool) : Type 0 where
  pub front : List ℕ
  pub final : ℕ
  pub back : List ℕ
  pub order_is : order n h ≡ front ++ final ∷ back
  pub granted_is : granted n m h asks ≡ filter asks front ++ (final ∷ [])
  pub next_is : next n m h asks ≡ Some ((final + 1) % n)
  pub order_next : order n (next n m h asks) ≡ back ++ (front ++ (final ∷ []))

-- every cycle that grants does so
pub cut : (n m : ℕ) (h : Head) (asks : ℕ → Bool) → start h < n → 0 < length (granted n m h asks) → Cut n m h asks
cut n m h asks l some =
    let size = granted_length n m h asks in
    let r = ListsLaws.passing asks (order n h) (length (granted n m h asks) - 1) (omega arith) in
    let is : granted n m h asks ≡ filter asks r.front ++ (r.here ∷ []) =
    granted_cut n m h asks r.front r.here r.back r.is r.passes (omega (arith, r.earlier)) in
    let to : next n m h asks ≡ Some ((r.here + 1) % n) = next_last n m h asks (filter asks r.front) r.here is in
    record {
      front = r.front;
      final = r.here;
      back = r.back;
      order_is = r.is;
      granted_is = is;
      next_is = to;
      order_next = rw to (order_rotated n h r.front r.here r.back l r.is);
    }

-- no cycle ends without a head, and the head is a station
pub next_head : (n m : ℕ) (h : Head) (asks : ℕ → Bool) → start h < n → (k : ℕ) × (k < n) × (next n m h asks ≡ Some k)
next_head n m h asks l =
    let there = after_head n h (granted n m h asks) l in (there.0, there.1, next_after n m h asks (granted n m h asks) refl ∙ there.2)

-- both cases of a head at once
pub start_is : (h : Head) → start h ≡ unwrap_or h 0
start_is None = start_none
start_is (Some h) = start_at h

pub after_idle : (n : ℕ) (h : Head) → after n h [] ≡ Some (unwrap_or h (n - 1))
after_idle n None = after_none n
after_idle n (Some h) = after_stays n h
