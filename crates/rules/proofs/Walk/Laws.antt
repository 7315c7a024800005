-- A run of stations, step by step, and two runs as one walk round. All that is used of the round-robin rule are its laws.
-- Promises `reached_none`, `begin`, `quiet`, `skip`, `grant`, `full`, `recounted`, `Walked`, `told`, `over` and `round`. The
-- rest are steps of their proofs.
-- Assumes nothing.
use Rattle.std.specs.Prelude.{ℕ, suc, ◌+◌, ◌-◌, ◌%◌, ◌≤◌, ◌<◌, min, ◌≡◌, refl, Bool, true, false, cond, ◌&&◌, ◌||◌, List, eqb, ltb, length, get_or, set, replicate, Option, None, Some}
use Rattle.std.proofs.Common.{sym, ap, ◌∙◌, zero-add, arith, length-set, get_or-set_same, get_or-set_other, ext_get_or, eqb-true, ltb-true, ltb-false, lt-ltb, le-ltb}
use Rattle.std.proofs.Math.Bool.{and-false}
use Rattle.std.proofs.lemmas.List.{length-replicate, get_or-replicate}
use Rattle.std.proofs.lemmas.Bool.{eqb-false}
use Rattle.rules.specs.Head.{Head}
use Rattle.rules.specs.Lists.{bit, range, filter, count, before}
use Rattle.rules.specs.Lists.Laws as ListsLaws
use Rattle.rules.specs.RoundRobin.{start, order, granted, grants, next}
use Rattle.rules.proofs.RoundRobin.Laws as RoundRobinLaws
use Rattle.rules.specs.Walk.{reached, RanBy, Ran}

-- when a run begins, nobody more has asked
pub reached_none : (asks : ℕ → Bool) (from c : ℕ) → reached asks from from c ≡ c
reached_none asks from c = let none : from - from ≡ 0 = omega arith in rw none (omega arith)

-- a run from a station on, of a walk that granted c₀ before it, the last of them z₀
module _ (m : ℕ) (asks : ℕ → Bool) (from c₀ : ℕ) (z₀ : Option ℕ) (old : List ℕ) where
  -- before its first station
  pub begin : c₀ ≤ m → Ran m asks from from c₀ z₀ old c₀ z₀ old
  begin l =
      let none : from - from ≡ 0 = omega arith in
      record {
        counted = omega (arith, ap (λ (k : ℕ). count asks (range from k)) none);
        here = λ w a b. absurd (omega arith);
        below = λ w a. refl;
        above = λ w a. refl;
        long = refl;
        none = λ e. refl;
        some = λ a. absurd (omega arith);
      }

  module _ (i : ℕ) (at : from ≤ i) (c : ℕ) (z : Option ℕ) (new : List ℕ) (r : Ran m asks from i c₀ z₀ old c z new) where
    -- past stations of which none is granted
    passed : (to : ℕ) → i ≤ to → c ≡ min m (reached asks from to c₀)
        → ((w : ℕ) → i ≤ w → w < to → (asks w && ltb (reached asks from w c₀) m) ≡ false) → Ran m asks from to c₀ z₀ old c z new
    passed to u e none =
        record {
          counted = e;
          here =
              λ w a b.
              ListsLaws.split (ltb w i)
              (λ t. r.here w a (ltb-true w i t))
              (λ f. let past : i ≤ w = ltb-false w i f in rw (none w past b) (r.above w past));
          below = r.below;
          above = λ w a. r.above w (omega arith);
          long = r.long;
          none = r.none;
          some = λ a. let l = r.some a in (l.0, l.1, l.2, omega (arith, l.3), l.4, l.5);
        }

    -- past stations that do not ask
    pub quiet : (to : ℕ) → i ≤ to → ((w : ℕ) → i ≤ w → w < to → asks w ≡ false) → Ran m asks from to c₀ z₀ old c z new
    quiet to u none =
        passed to u (omega (arith, r.counted, ListsLaws.count_same asks from i to at u none)) (λ w a b. rw (none w a b))

    -- past one
    pub skip : asks i ≡ false → Ran m asks from (i + 1) c₀ z₀ old c z new
    skip f = quiet (i + 1) (omega arith) (λ w a b. let same : w ≡ i = omega arith in rw same f)

    -- past a station that asks and is granted
    pub grant : asks i ≡ true → c < m → i < length new
        → Ran m asks from (i + 1) c₀ z₀ old (c + 1) (Some i) (set new i 1)
    grant t free fits =
        let whole : c ≡ reached asks from i c₀ = omega (arith, r.counted) in
        record {
          counted = omega (arith, ListsLaws.count_next asks from i at, ap bit t);
          here =
              λ w a b.
              ListsLaws.split (eqb w i)
              (λ e.
              let same : w ≡ i = eqb-true w i e in
              let below : ltb (reached asks from i c₀) m ≡ true = lt-ltb _ m (omega arith) in
              rw (same, t, below) (get_or-set_same new i 1 0 fits))
              (λ e. get_or-set_other new i w 1 0 (eqb-false w i e) ∙ r.here w a (omega (arith, eqb-false w i e)));
          below = λ w a. get_or-set_other new i w 1 0 (λ e. omega arith) ∙ r.below w a;
          above = λ w a. get_or-set_other new i w 1 0 (λ e. omega arith) ∙ r.above w (omega arith);
          long = length-set new i 1 ∙ r.long;
          none = λ e. absurd (omega arith);
          some = λ a. (i, refl, at, omega arith, t, omega arith);
        }

    -- once the picks are used up, the rest of the run changes nothing
    pub full : (to : ℕ) → i ≤ to → c ≡ m → Ran m asks from to c₀ z₀ old c z new
    full to u e =
        passed to u (omega (arith, r.counted, ListsLaws.count_more asks from i to at u))
        (λ w a b.
        let over : ltb (reached asks from w c₀) m ≡ false =
        le-ltb (reached asks from w c₀) m (omega (arith, r.counted, ListsLaws.count_more asks from i w at a)) in
        rw over (and-false (asks w)))

-- a run by other counts that are the same up to m
pub recounted : {m from to c₀ c : ℕ} {z₀ z : Option ℕ} {asks : ℕ → Bool} {a b : ℕ → ℕ} {old new : List ℕ} → from ≤ to
    → ((w : ℕ) → from ≤ w → w ≤ to → min m (a w) ≡ min m (b w))
    → RanBy m asks a from to c₀ z₀ old c z new → RanBy m asks b from to c₀ z₀ old c z new
recounted {m} {from} {to} {asks = asks} {a = a} {b = b} l same r =
    record {
      counted = r.counted ∙ same to l (omega arith);
      here =
          λ w k u.
          let alike : ltb (a w) m ≡ ltb (b w) m =
          ListsLaws.both_ways _ _
          (λ t. lt-ltb (b w) m (omega (arith, ltb-true (a w) m t, same w k (omega arith))))
          (λ t. lt-ltb (a w) m (omega (arith, ltb-true (b w) m t, same w k (omega arith)))) in
          r.here w k u ∙ rw alike;
      below = r.below;
      above = r.above;
      long = r.long;
      none = r.none;
      some = λ more. let f = r.some more in (f.0, f.1, f.2, f.3, f.4, omega (arith, f.5, r.counted, same _ f.2 (omega (arith, f.3))));
    }

-- a byte that was 0
cond_bit : (b : Bool) (x : ℕ) → x ≡ 0 → cond b 1 x ≡ bit b
cond_bit true x e = refl
cond_bit false x e = e

-- a walk once round, which granted c stations, the last of them z: how many it granted, what it wrote, and the next head where
-- it granted anyone
pub record Walked (n m : ℕ) (h : Head) (asks : ℕ → Bool) (c : ℕ) (z : Option ℕ) (new : List ℕ) : Type 0 where
  pub counted : c ≡ length (granted n m h asks)
  pub bytes : new ≡ grants n m h asks
  pub nobody : c ≡ 0 → z ≡ None
  pub last : 0 < c → (w : ℕ) × (z ≡ Some w) × (w < n) × (next n m h asks ≡ Some ((w + 1) % n))

-- a run is told by where it begins and ends, and by the buffer before it
pub told : {m from to a b c₀ c : ℕ} {z₀ z : Option ℕ} {asks : ℕ → Bool} {old was new : List ℕ} → from ≡ a → to ≡ b → old ≡ was
    → Ran m asks from to c₀ z₀ old c z new → Ran m asks a b c₀ z₀ was c z new
told e f g r = rw (e, f, g) at r

-- the two runs of a walk
module _ (n m : ℕ) (h : Head) (asks : ℕ → Bool) (station : start h < n) (c₁ : ℕ) (z₁ : Option ℕ) (c : ℕ) (z : Option ℕ) (mid new : List ℕ)
    (one : Ran m asks (start h) n 0 None (replicate n 0) c₁ z₁ mid) (two : Ran m asks 0 (start h) c₁ z₁ mid c z new) where
  abbrev s : ℕ
  s = start h

  -- how many ask in the first run
  abbrev many : ℕ
  many = count asks (range s (n - s))

  -- the first run cuts them off at m
  half_count : c₁ ≡ min m many
  half_count = omega (arith, one.counted)

  -- both runs are all of the order
  done_count : c ≡ length (granted n m h asks)
  done_count =
      let all : s - 0 ≡ s = omega arith in
      omega (
        arith,
        two.counted,
        half_count,
        ap (λ (k : ℕ). count asks (range 0 k)) all,
        RoundRobinLaws.granted_length n m h asks,
        ap (count asks) (RoundRobinLaws.order_runs n h),
        ListsLaws.count_append asks (range s (n - s)) (range 0 s),
      )

  -- one of them passes m exactly if more than m ask
  pub over : (ltb m (reached asks s n 0) || ltb m (reached asks 0 s c₁)) ≡ ltb m (count asks (order n h))
  over =
      let all : s - 0 ≡ s = omega arith in
      let parts : count asks (order n h) ≡ many + count asks (range 0 s) =
      ap (count asks) (RoundRobinLaws.order_runs n h) ∙ ListsLaws.count_append asks (range s (n - s)) (range 0 s) in
      rw (zero-add, all)
      (ListsLaws.split (ltb m many)
      (λ t. rw t (sym (lt-ltb m _ (omega (arith, ltb-true m many t, parts)))))
      (λ f. let whole : c₁ ≡ many = omega (arith, half_count, ltb-false m many f) in rw (f, whole, parts)))

  -- a station of the first run
  high : (w : ℕ) → s ≤ w → w < n → get_or new w 0 ≡ bit (asks w && ltb (count asks (before w (order n h))) m)
  high w l u =
      let was : get_or {A = ℕ} (replicate n 0) w 0 ≡ 0 = get_or-replicate n w 0 0 u in
      let so : ltb (reached asks s w 0) m ≡ ltb (count asks (before w (order n h))) m =
      rw (RoundRobinLaws.before_high n h w l u, zero-add) in
      two.above w l ∙ one.here w l u ∙ cond_bit (asks w && ltb (reached asks s w 0) m) _ was ∙ rw so

  -- a station of the second run
  low : (w : ℕ) → w < s → get_or new w 0 ≡ bit (asks w && ltb (count asks (before w (order n h))) m)
  low w l =
      let was : get_or mid w 0 ≡ 0 = one.below w l ∙ get_or-replicate n w 0 0 (omega arith) in
      let all : w - 0 ≡ w = omega arith in
      let sum : many + count asks (range 0 w) ≡ count asks (before w (order n h)) =
      sym (ap (count asks) (RoundRobinLaws.before_low n h w l) ∙ ListsLaws.count_append asks (range s (n - s)) (range 0 w)) in
      let so : ltb (reached asks 0 w c₁) m ≡ ltb (count asks (before w (order n h))) m =
      rw (half_count, all, ← sum) (ListsLaws.cut_below m many (count asks (range 0 w))) in
      two.here w (omega arith) l ∙ cond_bit (asks w && ltb (reached asks 0 w c₁) m) _ was ∙ rw so

  bytes : new ≡ grants n m h asks
  bytes =
      let long : length new ≡ n = two.long ∙ one.long ∙ length-replicate n 0 in
      ext_get_or 0 new (grants n m h asks) (long ∙ sym (RoundRobinLaws.grants_length n m h asks))
      (λ w l.
      let u : w < n = omega arith in
      ListsLaws.split (ltb w s) (λ t. low w (ltb-true w s t)) (λ e. high w (ltb-false w s e) u)
      ∙ sym (RoundRobinLaws.grants_member n m h asks w u ∙ ap bit (RoundRobinLaws.granted_member n m h asks w (omega arith) u)))

  -- the one granted last makes up the number of the granted
  record Last (w : ℕ) : Type 0 where
    is : z ≡ Some w
    in_range : w < n
    wants : asks w ≡ true
    ends : suc (count asks (before w (order n h))) ≡ length (granted n m h asks)

  last_of_first : c ≡ c₁ → 0 < c → (w : ℕ) × Last w
  last_of_first e some =
      let l = one.some (omega arith) in (
        l.0,
        record {
          is = two.none e ∙ l.1;
          in_range = l.3;
          wants = l.4;
          ends = rw (RoundRobinLaws.before_high n h l.0 l.2 l.3) (omega (arith, l.5, done_count));
        },
      )

  last_of_second : c₁ < c → (w : ℕ) × Last w
  last_of_second some =
      let l = two.some some in
      let w = l.0 in
      let all : w - 0 ≡ w = omega arith in (
        w,
        record {
          is = l.1;
          in_range = omega (arith, l.3);
          wants = l.4;
          ends =
              omega (
                arith,
                l.5,
                done_count,
                half_count,
                two.counted,
                ap (λ (k : ℕ). count asks (range 0 k)) all,
                ap (count asks) (RoundRobinLaws.before_low n h w l.3),
                ListsLaws.count_append asks (range s (n - s)) (range 0 w),
              );
        },
      )

  last_of : 0 < c → (w : ℕ) × Last w
  last_of some =
      ListsLaws.split (eqb c c₁)
      (λ e. last_of_first (eqb-true c c₁ e) some)
      (λ e. last_of_second (omega (arith, eqb-false c c₁ e, two.counted, half_count)))

  pub round : Walked n m h asks c z new
  round =
      record {
        counted = done_count;
        bytes = bytes;
        nobody =
            λ e.
            let same : c ≡ c₁ = omega (arith, two.counted, half_count) in
            let before : c₁ ≡ 0 = omega arith in two.none same ∙ one.none before;
        last =
            λ some.
            let l = last_of some in
            let w = l.0 in (
              w,
              l.1.is,
              l.1.in_range,
              RoundRobinLaws.next_last n m h asks (filter asks (before w (order n h))) w
                  (RoundRobinLaws.granted_upto n m h asks w (omega (arith, l.1.in_range)) l.1.in_range l.1.wants l.1.ends),
            );
      }
