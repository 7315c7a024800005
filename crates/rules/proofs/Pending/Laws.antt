-- Laws of the lamp: it says that more ask than are granted.
-- Promises `more_granted`, `more_picks`, `more_told`, `more_bytes` and `more_by_bytes`. The rest are steps of their proofs.
-- Assumes nothing.
use Rattle.std.specs.Prelude.{ℕ, not, nat_eq, ◌<◌, ◌≤◌, ◌≡◌, refl, Bool, true, false, ◌&&◌, List, eqb, ltb, length, get_or}
use Rattle.std.proofs.Common.{sym, ap, ◌∙◌, true≢false, arith, ext_get_or, lt-ltb, ltb-true, ltb-false}
use Rattle.std.proofs.Math.Bool.{and-false}
use Rattle.std.specs.Cmp.Lexicographic.{same_text, other_text}
use lib.Pointwise.{pointwise}
use Rattle.rules.specs.Head.{Head}
use Rattle.std.specs.List.{list_any}
use Rattle.rules.specs.Lists.{bit, range, count, member}
use Rattle.rules.specs.Lists.Laws as ListsLaws
use Rattle.rules.specs.RoundRobin.{start, order, granted, grants}
use Rattle.rules.proofs.RoundRobin.Laws as RoundRobinLaws
use Rattle.rules.specs.Pending.{more}
use Rattle.rules.specs.Theorems.{MoreBytes}
pub use Rattle.rules.specs.Pending.Laws.{more_any, more_some, more_none, more_count}

-- a cycle by the round-robin rule
module _ (n m : ℕ) (h : Head) (asks : ℕ → Bool) (station : start h ≤ n) where
  -- grants stations that ask, each once
  granted_once : (w : ℕ) → count (eqb w) (granted n m h asks) ≤ bit (asks w && ltb w n)
  granted_once w =
      let once = RoundRobinLaws.granted_once n m h asks w in
      ListsLaws.split (ltb w n)
      (λ t.
      let l = ltb-true w n t in
      ListsLaws.split (asks w)
      (λ q. rw (t, q) (omega (arith, once, RoundRobinLaws.order_once n h w station l)))
      (λ q.
      let out : member w (granted n m h asks) ≡ false = RoundRobinLaws.granted_member n m h asks w station l ∙ rw q in
      omega (arith, ListsLaws.uncounted w _ out)))
      (λ f. omega (arith, once, RoundRobinLaws.order_outside n h w station (ltb-false w n f)))

  -- more ask than are granted
  pub more_granted : more n asks (granted n m h asks) ≡ ltb (length (granted n m h asks)) (count asks (order n h))
  more_granted =
      more_count n asks (granted n m h asks) granted_once
      ∙ ap (ltb (length (granted n m h asks))) (sym (RoundRobinLaws.order_count n h asks station))

  -- which is to say, more than the picks
  pub more_picks : more n asks (granted n m h asks) ≡ ltb m (count asks (order n h))
  more_picks =
      let size = RoundRobinLaws.granted_length n m h asks in
      more_granted
      ∙ ListsLaws.both_ways _ _
      (λ t. lt-ltb _ _ (omega (arith, size, ltb-true _ _ t)))
      (λ t. lt-ltb _ _ (omega (arith, size, ltb-true _ _ t)))

  -- by the grant buffer: somebody asks and has a 0 there
  pub more_told : more n asks (granted n m h asks) ≡ list_any (λ w. asks w && eqb (get_or (grants n m h asks) w 0) 0) (range 0 n)
  more_told =
      more_any n asks (granted n m h asks)
      ∙ ListsLaws.any_same _ _ 0 n (λ w _ u.
      let l : w < n = omega arith in
      rw (RoundRobinLaws.grants_member n m h asks w l)
      (ListsLaws.split (member w (granted n m h asks)) (λ t. rw t) (λ f. rw f)))

-- told by bytes, of which each is 0 or 1
module _ (n m : ℕ) (h : Head) (requests : List ℕ) (long : length requests ≡ n) (station : start h ≤ n)
    (bits : (w : ℕ) → w < length requests → get_or requests w 0 ≤ 1) where
  abbrev asks : ℕ → Bool
  asks w = eqb (get_or requests w 0) 1

  abbrev out : List ℕ
  out = granted n m h asks

  byte : (w : ℕ) → w < n → get_or (grants n m h asks) w 0 ≡ bit (member w out)
  byte w l = RoundRobinLaws.grants_member n m h asks w l

  -- the requests are the grants: whoever asks is granted
  more_same : requests ≡ grants n m h asks → more n asks out ≡ false
  more_same e =
      more_none n asks out (λ w l.
      let here : get_or requests w 0 ≡ bit (member w out) = ap (λ (b : List ℕ). get_or b w 0) e ∙ byte w l in
      ListsLaws.split (member w out)
      (λ t. rw t (and-false (asks w)))
      (λ f. rw (here, f)))

  -- they are not: somebody who asks is not granted, since whoever is granted asks
  more_other : (requests ≡ grants n m h asks → ⊥) → more n asks out ≡ true
  more_other other =
      ListsLaws.split (more n asks out)
      (λ t. t)
      (λ f.
      absurd (other (ext_get_or 0 requests (grants n m h asks) (long ∙ sym (RoundRobinLaws.grants_length n m h asks)) (λ w u.
      let l : w < n = omega (arith, long) in
      sym (ListsLaws.bit_byte (get_or requests w 0) (bits w u))
      ∙ ap bit (ListsLaws.both_ways _ _
      (λ t. ListsLaws.split (member w out) (λ q. q) (λ q. absurd (true≢false (sym (more_some n asks out w l t q) ∙ f))))
      (λ t. (ListsLaws.both _ _ (sym (RoundRobinLaws.granted_member n m h asks w station l) ∙ t)).0))
      ∙ sym (byte w l)))))

  -- more are pending exactly if the two are not the same
  pub more_bytes : (b : Bool) → b ≡ not (pointwise nat_eq requests (grants n m h asks)) → b ≡ more n asks out
  more_bytes b e =
      ListsLaws.split (pointwise nat_eq requests (grants n m h asks))
      (λ t. e ∙ rw t (sym (more_same (same_text requests (grants n m h asks) (sym t)))))
      (λ f. e ∙ rw f (sym (more_other (other_text requests (grants n m h asks) (sym f)))))

-- so they are told by the bytes
pub more_by_bytes : MoreBytes
more_by_bytes n m h requests long station bits = sym (more_bytes n m h requests long station bits _ refl)
