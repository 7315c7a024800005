-- Laws of decisions: how a core that has granted some stations, or none, meets what the rule decides.
-- Assumes nothing.
use Rattle.std.specs.Prelude.{ℕ, ◌+◌, ◌%◌, ◌≤◌, ◌<◌, ◌≡◌, refl, Bool, false, nat_eq, not, ◌&&◌, ◌||◌, List, [], ◌∷◌, eqb, ltb, length, get_or, replicate, Option, None, Some}
use Rattle.std.proofs.Common.{sym, ap, ◌∙◌, mod-eq_of_lt, arith, eqb-true, ltb-true, ltb-false}
use Rattle.std.proofs.Math.Nat.{mod_self}
use Rattle.std.proofs.lemmas.Bool.{eqb-false}
use Rattle.rules.specs.Head.{Head}
use Rattle.rules.specs.Lists.{count, member, marks}
use Rattle.rules.specs.Lists.Laws as ListsLaws
use Rattle.rules.specs.RoundRobin.{start, order, granted, grants}
use Rattle.rules.proofs.RoundRobin.Laws as RoundRobinLaws
use lib.Pointwise.{pointwise}
use borrow.Author.Tests.{le-ltb}
use Rattle.rules.specs.Pending.{more}
use Rattle.rules.proofs.Pending.Laws as PendingLaws
use Rattle.rules.specs.Walk.{reached, Ran}
use Rattle.rules.proofs.Walk.Laws as WalkLaws
use Rattle.rules.proofs.Walk.Laws.{Walked}
use Rattle.search.specs.Places.{Bits, highest}
use Rattle.search.specs.Places.Laws.{highest_most, highest_least}
use Rattle.arbiter.specs.Decisions.{requested, decision, deciding, past, counted}

-- one past a station is the next number, modulo the width
pub past_station : (n w : ℕ) → w < n → past n w ≡ (w + 1) % n
past_station n w l =
    ListsLaws.split (ltb (w + 1) n)
    (λ t. rw (t, mod-eq_of_lt (ltb-true (w + 1) n t)))
    (λ f. let same : w + 1 ≡ n = omega (arith, ltb-false (w + 1) n f) in rw (f, same, mod_self))

-- a cycle that grants one station
pub counted_one : (n w : ℕ) (h : Head) (pending : Bool) → w < n → counted n h 1 (Some w) pending ≡ deciding n h (w ∷ []) pending
counted_one n w h pending l = rw (RoundRobinLaws.after_one n h w, past_station n w l)

module _ (n m : ℕ) (h : Head) (asks : ℕ → Bool) where
  -- told by whom it grants
  pub decided_granted : (gs : List ℕ) → granted n m h asks ≡ gs → deciding n h gs (more n asks gs) ≡ decision n m h asks
  decided_granted gs e = rw (e, RoundRobinLaws.next_after n m h asks gs e)

  -- where nobody is granted nobody asks
  pub none_more : 1 ≤ m → start h ≤ n → granted n m h asks ≡ [] → more n asks [] ≡ false
  none_more some l e = PendingLaws.more_none n asks [] nobody_asks
    where
      nobody_asks : (w : ℕ) → w < n → (asks w && not (member w [])) ≡ false
      nobody_asks w u =
          ListsLaws.split (asks w)
          (λ t. absurd (omega (arith, RoundRobinLaws.granted_length n m h asks, ap length e, RoundRobinLaws.before_count n h asks w l u t)))
          (λ f. rw f)

  pub decided_none : 1 ≤ m → start h ≤ n → granted n m h asks ≡ [] → deciding n h [] false ≡ decision n m h asks
  decided_none some l e = ap (deciding n h []) (sym (none_more some l e)) ∙ decided_granted [] e

  -- a walk once round that granted c stations, the last of them z, and knows whether more are pending
  pub walked : {c : ℕ} {z : Option ℕ} {new : List ℕ} {pending : Bool} → 1 ≤ m → start h ≤ n → Walked n m h asks c z new
      → pending ≡ more n asks (granted n m h asks) → counted n h c z pending ≡ decision n m h asks
  walked {c} {z} {pending = pending} picked station w so =
      ListsLaws.split (eqb c 0)
      (λ t.
      let none : c ≡ 0 = eqb-true c 0 t in
      rw (w.nobody none) (decided_none picked station (ListsLaws.empty _ (sym w.counted ∙ none))))
      (λ f.
      let some : 0 < c = omega (arith, eqb-false c 0 f) in
      let l = w.last some in rw (l.1, past_station n l.0 l.2, ← w.counted, l.3, so))

  -- two runs from a grant buffer that is all 0
  module _ {first size c₁ c : ℕ} {z₁ z : Option ℕ} {cleared mid new : List ℕ} (l : start h < n) (e : first ≡ start h)
      (zeros : cleared ≡ replicate size 0) (long : size ≡ n) (one : Ran m asks first n 0 None cleared c₁ z₁ mid)
      (two : Ran m asks 0 first c₁ z₁ mid c z new) where
    high : Ran m asks (start h) n 0 None (replicate n 0) c₁ z₁ mid
    high = WalkLaws.told e refl (zeros ∙ rw long) one

    low : Ran m asks 0 (start h) c₁ z₁ mid c z new
    low = WalkLaws.told refl e refl two

    -- are one walk round
    pub round : Walked n m h asks c z new
    round = WalkLaws.round n m h asks l _ _ _ _ _ _ high low

    -- and more are pending where one of them passed m
    pub over : {pending₁ pending : Bool} → pending₁ ≡ (false || ltb m (reached asks first n 0))
        → pending ≡ (pending₁ || ltb m (reached asks 0 first c₁)) → pending ≡ more n asks (granted n m h asks)
    over p₁ p =
        rw (p₁, e) at p
        ∙ WalkLaws.over n m h asks l _ _ _ _ _ _ high low
        ∙ sym (PendingLaws.more_picks n m h asks (omega arith))

-- whether more are pending, by the bytes: where not all picks are used whoever asks is granted, and else the grants are not the requests
pub pending_bytes : (n m : ℕ) (h : Head) (bytes : List ℕ) {c : ℕ} {new : List ℕ} → start h ≤ n → length bytes ≡ n → Bits bytes
    → c ≡ length (granted n m h (requested bytes)) → new ≡ grants n m h (requested bytes)
    → (eqb c m && not (pointwise nat_eq bytes new)) ≡ more n (requested bytes) (granted n m h (requested bytes))
pending_bytes n m h bytes {c} l long bits counted e =
    let asks = requested bytes in
    ListsLaws.split (eqb c m)
    (λ t. rw (t, e) (PendingLaws.more_bytes n m h bytes long l bits _ refl))
    (λ f.
    let few : count asks (order n h) ≤ m = omega (arith, eqb-false c m f, counted, RoundRobinLaws.granted_length n m h asks) in
    rw f (sym (PendingLaws.more_picks n m h asks l ∙ le-ltb m (count asks (order n h)) few)))

-- where every byte is 0, nobody asks
pub none_asks : (bytes : List ℕ) → highest bytes ≡ 0 → (w : ℕ) → requested bytes w ≡ false
none_asks bytes e w =
    let zero : get_or bytes w 0 ≡ 0 = omega (arith, highest_most bytes w) in rw zero

-- and where nobody asks, every byte that is 0 or 1 is 0
pub all_zero : (bytes : List ℕ) → Bits bytes → ((w : ℕ) → requested bytes w ≡ false) → highest bytes ≡ 0
all_zero bytes b none =
    omega (arith, highest_least bytes 0 (λ i l. omega (arith, b i l, eqb-false (get_or bytes i 0) 1 (none i))))

-- a cycle in which nobody asks grants no one
module _ (n m : ℕ) (h : Head) (bytes : List ℕ) (e : highest bytes ≡ 0) where
  pub none_granted : granted n m h (requested bytes) ≡ []
  none_granted = RoundRobinLaws.granted_none n m h (requested bytes) (ListsLaws.count_never (requested bytes) (none_asks bytes e) (order n h))

  pub quiet_decides : deciding n h [] false ≡ decision n m h (requested bytes)
  quiet_decides =
      ap (deciding n h []) (sym (PendingLaws.more_none n (requested bytes) [] (λ w l. rw (none_asks bytes e w))))
      ∙ decided_granted n m h (requested bytes) [] none_granted

  pub quiet_grants : replicate n 0 ≡ grants n m h (requested bytes)
  quiet_grants = ListsLaws.marks_none n ∙ sym (RoundRobinLaws.grants_marks n m h (requested bytes) ∙ ap (marks n) none_granted)
