-- The wait rule over cycles of the round-robin rule, from the rule's laws alone.
-- Assumes nothing.
use Prim.Native.Nat.{ℕ, suc, ◌+◌, ◌≤◌, ◌<◌}
use mathlib.Core.Path.{◌≡◌, refl, sym, ap, ◌∙◌}
use mathlib.Core.Bool.{Bool, true, false, ◌&&◌, ◌||◌, true≢false}
use mathlib.Core.List.{List, [], ◌∷◌, ◌++◌}
use native.Mathlib.Omega.{arith}
use lib.Dec.{ltb, eqb}
use lib.ListN.{length, length-append}
use borrow.Author.Tests.{ltb-true, ltb-false}
use Rattle.rules.specs.Head.{Head}
use Rattle.std.specs.Prelude.{Some}
use Rattle.rules.specs.Lists.{bit, filter, count, member, before}
use Rattle.rules.specs.Lists.Laws as ListsLaws
use Rattle.rules.specs.RoundRobin.{start, order, granted, next}
use Rattle.rules.proofs.RoundRobin.Laws as RoundRobinLaws
use Rattle.rules.specs.Bus as BusRule
use Rattle.rules.proofs.Bus.Laws as BusLaws
use Rattle.fairness.specs.Cycles.{RuleCycle, next_head, Chain, Follows, Waits, total, WaitingCycles}

-- some cycles of a chain, whatever stands before them and after them
module _ {H C : Type 0} (right : H → C → Type 0) (next : H → C → H) where
  stopped : (cs rest : List C) (h : H) → Chain right next h (cs ++ rest) → Chain right next h cs
  stopped [] rest h chain = tt
  stopped (c ∷ cs) rest h chain = (chain.0, stopped cs rest (next h c) chain.1)

  -- a chain of which nothing is right for the first h is empty
  pub chain_empty : (h : H) → ((c : C) → right h c → ⊥) → (cs : List C) → Chain right next h cs → cs ≡ []
  chain_empty h none [] chain = refl
  chain_empty h none (c ∷ cs) chain = absurd (none c chain.0)

  pub resumed : (past cs rest : List C) (h : H) → Chain right next h (past ++ (cs ++ rest)) → (k : H) × Chain right next k cs
  resumed [] cs rest h chain = (h, stopped cs rest h chain)
  resumed (c ∷ past) cs rest h chain = resumed past cs rest (next h c) chain.1

both_false : (a b : Bool) → (a || b) ≡ false → (a ≡ false) × (b ≡ false)
both_false true b e = absurd (true≢false e)
both_false false b e = (refl, e)

-- where all pass a test, all at the front do
pub all_front : (p : ℕ → Bool) (front back : List ℕ) → count p (front ++ back) ≡ length (front ++ back) → count p front ≡ length front
all_front p front back all =
    omega (
      arith,
      ListsLaws.count_append p front back,
      length-append front back,
      fewer front,
      fewer back,
    )
  where
    fewer : (xs : List ℕ) → count p xs ≤ length xs
    fewer [] = omega arith
    fewer (x ∷ xs) = omega (arith, ListsLaws.bit_le (p x), fewer xs)

-- an order cut at the one granted last: w asks, is in the order and is not granted, so it stands behind the cut
behind : (asks p : ℕ → Bool) (w : ℕ) (front : List ℕ) (final : ℕ) (back tail : List ℕ) → asks w ≡ true
    → member w (filter asks front ++ (final ∷ [])) ≡ false
    → member w (front ++ final ∷ back) ≡ true
    → count p (front ++ (final ∷ [])) + count p (before w (back ++ tail)) ≡ count p (before w (front ++ final ∷ back))
behind asks p w front final back tail t out here =
    let parts = both_false (member w (filter asks front)) (eqb w final || false) (sym (ListsLaws.member_append w (filter asks front) (final ∷ [])) ∙ out) in
    let other : eqb w final ≡ false = (both_false (eqb w final) false parts.1).0 in
    let ahead : member w front ≡ false = sym (ListsLaws.filter_keeps asks w front t) ∙ parts.0 in
    let later : member w back ≡ true = rw (ListsLaws.member_append w front (final ∷ back), ahead, other) at here in
    rw (ListsLaws.before_right w front (final ∷ back) ahead, ListsLaws.before_left w back tail later, other)
    (omega (arith, ListsLaws.count_append p front (final ∷ []), ListsLaws.count_append p front (final ∷ before w back)))

-- a station that asks and is not granted: the cycle grants m others
module _ (n m : ℕ) (h : Head) (asks : ℕ → Bool) (w : ℕ) (some : 0 < m) (head : start h < n) (station : w < n) (asking : asks w ≡ true)
    (passed : member w (granted n m h asks) ≡ false) where
  full : length (granted n m h asks) ≡ m
  full =
      let out : (asks w && ltb (count asks (before w (order n h))) m) ≡ false =
      sym (RoundRobinLaws.granted_member n m h asks w (omega arith) station) ∙ passed in
      omega (
        arith,
        ltb-false (count asks (before w (order n h))) m (rw asking at out),
        RoundRobinLaws.before_count n h asks w (omega arith) station asking,
        RoundRobinLaws.granted_length n m h asks,
      )

  -- the order, cut at the one granted last
  parts : RoundRobinLaws.Cut n m h asks
  parts = RoundRobinLaws.cut n m h asks head (omega (arith, full))

  -- whoever is counted: those up to the one granted last, and those before w in the next order, are those before w in this one
  passing : (p : ℕ → Bool)
      → count p (parts.front ++ (parts.final ∷ [])) + count p (before w (order n (next n m h asks))) ≡ count p (before w (order n h))
  passing p =
      let c = parts in
      rw (c.order_next, c.order_is)
      (behind asks p w c.front c.final c.back (c.front ++ (c.final ∷ [])) asking
      (rw c.granted_is at passed)
      (rw c.order_is at (RoundRobinLaws.order_member n h w (omega arith) station)))

  -- so those granted, and those before w in the next order, were before w in this one
  nearer : (p : ℕ → Bool)
      → count p (granted n m h asks) + count p (before w (order n (next n m h asks))) ≤ count p (before w (order n h))
  nearer p =
      let c = parts in
      rw c.granted_is
      (omega (
        arith,
        passing p,
        ListsLaws.count_append p (filter asks c.front) (c.final ∷ []),
        ListsLaws.count_append p c.front (c.final ∷ []),
        ListsLaws.count_filter_le p asks c.front,
      ))

  -- where all ask, m that stood before w do so no more
  pub all_nearer : count asks (order n h) ≡ n → m + length (before w (order n (next n m h asks))) ≡ length (before w (order n h))
  all_nearer all =
      let c = parts in
      let front = all_front asks c.front (c.final ∷ c.back) (rw c.order_is at (all ∙ sym (RoundRobinLaws.order_length n h (omega arith)))) in
      omega (
        arith,
        full,
        ap length c.granted_is,
        length-append (filter asks c.front) (c.final ∷ []),
        ListsLaws.length_filter asks c.front,
        front,
        passing (λ _. true),
        ListsLaws.count_all (c.front ++ (c.final ∷ [])),
        length-append c.front (c.final ∷ []),
        ListsLaws.count_all (before w (order n (next n m h asks))),
        ListsLaws.count_all (before w (order n h)),
      )

-- all that the cycles grant, one cycle after the other
abbrev grantees : ℕ → Head → List RuleCycle → List ℕ
grantees n h [] = []
grantees n h (c ∷ cs) = granted n c.picks h c.asks ++ grantees n (next_head n h c) cs

-- the head after them
abbrev end : ℕ → Head → List RuleCycle → Head
end n h [] = h
end n h (c ∷ cs) = end n (next_head n h c) cs

-- while w waits, all that the cycles grant, and all that stand before w afterwards, stood before w at the start
module _ (n w : ℕ) (station : w < n) where
  waited : (p : ℕ → Bool) (cs : List RuleCycle) (h : Head) → Follows n h cs → Waits w cs
      → count p (grantees n h cs) + count p (before w (order n (end n h cs))) ≤ count p (before w (order n h))
  waited p [] h follow waits = omega arith
  waited p (c ∷ cs) h follow waits =
      let r = follow.0 in
      omega (
        arith,
        ListsLaws.count_append p (granted n c.picks h c.asks) (grantees n (next_head n h c) cs),
        nearer n c.picks h c.asks w r.some r.head station waits.0 (sym (r.granted w) ∙ waits.1) p,
        waited p cs (next_head n h c) follow.1 waits.2,
      )

  -- each of them makes all its picks
  picked : (cs : List RuleCycle) (h : Head) → Follows n h cs → Waits w cs → count (λ _. true) (grantees n h cs) ≡ total cs
  picked [] h follow waits = refl
  picked (c ∷ cs) h follow waits =
      let r = follow.0 in
      let here = granted n c.picks h c.asks in
      omega (
        arith,
        ListsLaws.count_append (λ _. true) here (grantees n (next_head n h c) cs),
        ListsLaws.count_all here,
        full n c.picks h c.asks w r.some r.head station waits.0 (sym (r.granted w) ∙ waits.1),
        picked cs (next_head n h c) follow.1 waits.2,
      )

-- whoever a cycle grants is among them
among : (n v : ℕ) (cs : List RuleCycle) (h : Head) → Follows n h cs → count (λ c. c.grants v) cs ≤ count (eqb v) (grantees n h cs)
among n v [] h follow = omega arith
among n v (c ∷ cs) h follow =
    let here = granted n c.picks h c.asks in
    omega (
      arith,
      ListsLaws.count_append (eqb v) here (grantees n (next_head n h c) cs),
      ap bit (follow.0.granted v),
      ListsLaws.member_count v here,
      among n v cs (next_head n h c) follow.1,
    )

at_most_once : (n : ℕ) (h : Head) (v : ℕ) → start h < n → count (eqb v) (order n h) ≤ 1
at_most_once n h v head =
    ListsLaws.split (ltb v n)
    (λ t. omega (arith, RoundRobinLaws.order_once n h v (omega arith) (ltb-true v n t)))
    (λ t. omega (arith, RoundRobinLaws.order_outside n h v (omega arith) (ltb-false v n t)))

pub waiting_cycles : WaitingCycles
waiting_cycles n h w [] station follow waits = record { short = omega arith; once = λ v. omega arith }
waiting_cycles n h w (c ∷ cs) station follow waits =
    let head = follow.0.head in
    record {
      short = omega (
        arith,
        picked n w station (c ∷ cs) h follow waits,
        waited n w station (λ _. true) (c ∷ cs) h follow waits,
        ListsLaws.count_all (before w (order n h)),
        RoundRobinLaws.before_length n h w (omega arith) station,
      );
      once = λ v.
          omega (
            arith,
            among n v (c ∷ cs) h follow,
            waited n w station (eqb v) (c ∷ cs) h follow waits,
            ListsLaws.count_before_le (eqb v) w (order n h),
            at_most_once n h v head,
          );
    }

-- the bus: an acknowledged cycle in which w asks moves the token one on, so one station fewer stands before w
pub bus_nearer : (n t w : ℕ) (asks : ℕ → Bool) → t < n → w < n → asks w ≡ true → eqb w t ≡ false
    → suc (length (before w (order n (Some (BusRule.next n t true asks))))) ≡ length (before w (order n (Some t)))
bus_nearer n t w asks token station asking other =
    let head = BusLaws.token_head n t token in
    let r = rw (RoundRobinLaws.start_at t) at (RoundRobinLaws.order_turned n (Some t) head) in
    let later : member w r.0 ≡ true = rw (r.1, other) at (RoundRobinLaws.order_member n (Some t) w (omega arith) station) in
    rw (BusLaws.next_acknowledged n t asks (BusLaws.granted_some n t w asks token station asking), r.1, r.2, ListsLaws.before_left w r.0 (t ∷ []) later, other)
