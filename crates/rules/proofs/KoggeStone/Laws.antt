-- Laws of the network: it counts what the serial counts say, since the adder may be regrouped.
-- Promises `Left`, `begin`, `step`, `done`, `network_levels`, `network_cut`, `network_length`, `counts_length`,
-- `counts_running`, `count_serial` and `network_more`. The rest are steps of their proofs.
-- Assumes nothing.
use Prim.Native.Nat.{ℕ, zero, suc, ◌+◌, ◌-◌, ◌*◌, ◌^◌, ◌≤◌, ◌<◌}
use Rattle.std.specs.Prelude.{◌≡◌, refl, Bool, true, false, ◌||◌, min, ltb, take}
use Rattle.std.specs.Int.Count.{ones}
use Rattle.std.proofs.Math.Path.{sym, ap}
use Rattle.std.proofs.Math.Bool.{or_assoc, or-false}
use Rattle.std.proofs.Common.{ap₂, ◌∙◌, arith, add-zero, add-suc, zero-add, pow-suc, pow_pos, ltb-true, ltb-false, lt-ltb, le-ltb, take-take, take-suc, take_all}
use mathlib.Core.List.{List, [], ◌∷◌, map}
use Rattle.std.proofs.Math.ListN.{length, get_or, length-map}
use Rattle.std.proofs.Math.Seq.{ext_get_or}
use Rattle.rules.specs.Head.{Head}
use Rattle.rules.specs.Lists.{bit, range, filter, count}
use Rattle.rules.specs.Lists.Laws as ListsLaws
use Rattle.rules.specs.RoundRobin.{start, order}
use Rattle.rules.proofs.RoundRobin.Laws as RoundRobinLaws
use Rattle.rules.specs.Thermometer.{code, is_code, add, cuts, saturated, input, inputs, running, running_codes}
use Rattle.rules.proofs.Thermometer.Laws.{ones_code, ones_add, add_none, add_regroup}
use Rattle.rules.proofs.Thermometer.Running.{running_first, running_next, inputs_codes, inputs_length, inputs_order, codes_inputs, codes_length, code_before}
use Rattle.rules.specs.KoggeStone.{distances, joined, levels, network, joined_cuts, levels_cut, network_cuts, counts, count_before}
pub use Rattle.rules.specs.KoggeStone.Laws.{joined_length, joined_near, joined_far, distances_powers, levels_none, levels_next, network_joins, joined_cuts_any, levels_cut_none, levels_cut_next, network_cuts_levels, counts_shifted, count_position}

-- a power of two is larger than its exponent
pow_more : (k : ℕ) → k < 2 ^ k
pow_more zero = omega arith
pow_more (suc k) = omega (arith, pow-suc 2 k, pow_more k)

-- the distances from 2 ^ k on
abbrev from : ℕ → ℕ → List ℕ
from n k = filter (λ d. ltb d n) (map (λ j. 2 ^ j) (range k (n - k)))

from_first : (n : ℕ) → distances n ≡ from n 0
from_first n = let all : n - 0 ≡ n = omega arith in distances_powers n ∙ rw all

from_next : (n k : ℕ) → 2 ^ k < n → from n k ≡ 2 ^ k ∷ from n (suc k)
from_next n k l = let more : n - k ≡ suc (n - suc k) = omega (arith, pow_more k) in rw (more, lt-ltb (2 ^ k) n l)

from_none : (n k c : ℕ) → n ≤ 2 ^ k → filter (λ d. ltb d n) (map (λ j. 2 ^ j) (range k c)) ≡ []
from_none n k zero l = refl
from_none n k (suc c) l = rw (le-ltb (2 ^ k) n l) (from_none n (suc k) c (omega (arith, pow-suc 2 k)))

-- the network half way: these codes, joined at distance d, at twice that and so on, give `out`; and if something has been cut off, or is
-- at one of these distances, `all` says so
pub record Left (m n d : ℕ) (codes out : List ℕ) (cut all : Bool) : Type 0 where
  power : ℕ
  is : d ≡ 2 ^ power
  rest : levels m (from n power) codes ≡ out
  more : (cut || levels_cut m (from n power) codes) ≡ all

pub begin : (m n d : ℕ) (codes : List ℕ) → d ≡ 1 → Left m n d codes (levels m (distances n) codes) false (levels_cut m (distances n) codes)
begin m n d codes e = record { power = 0; is = e; rest = rw (from_first n); more = rw (from_first n) }

pub step : (m n d : ℕ) (codes out : List ℕ) (cut all : Bool) → d < n → Left m n d codes out cut all
    → Left m n (d * 2) (joined m d codes) out (cut || joined_cuts m d codes) all
step m n d codes out cut all l r =
    let k = r.power in
    let next = from_next n k (omega (arith, r.is)) in
    record {
      power = suc k;
      is = omega (arith, r.is, pow-suc 2 k);
      rest = rw r.is (sym (ap (λ (ds : List ℕ). levels m ds codes) next ∙ levels_next m (2 ^ k) (from n (suc k)) codes) ∙ r.rest);
      more =
          rw r.is
          (or_assoc cut (joined_cuts m (2 ^ k) codes) _
          ∙ ap (λ b. cut || b) (sym (ap (λ (ds : List ℕ). levels_cut m ds codes) next ∙ levels_cut_next m (2 ^ k) (from n (suc k)) codes))
          ∙ r.more);
    }

pub done : (m n d : ℕ) (codes out : List ℕ) (cut all : Bool) → n ≤ d → Left m n d codes out cut all → (codes ≡ out) × (cut ≡ all)
done m n d codes out cut all l r =
    let none = from_none n r.power (n - r.power) (omega (arith, r.is)) in (
      sym (levels_none m codes) ∙ ap (λ (ds : List ℕ). levels m ds codes) (sym none) ∙ r.rest,
      sym (or-false cut) ∙ ap (λ b. cut || b) (sym (levels_cut_none m codes)) ∙ ap (λ (ds : List ℕ). cut || levels_cut m ds codes) (sym none) ∙ r.more,
    )

-- codes added up one after the other: k more than the one at position a
sum : ℕ → List ℕ → ℕ → ℕ → ℕ
sum m codes a zero = get_or codes a 0
sum m codes a (suc k) = add m (sum m codes a k) (get_or codes (suc (a + k)) 0)

-- two such sums side by side are one: here the adder is regrouped
sums : (m : ℕ) (codes : List ℕ) (a j k : ℕ) → add m (sum m codes a j) (sum m codes (suc (a + j)) k) ≡ sum m codes a (suc (j + k))
unfolding sum
sums m codes a j zero = rw (add-zero j)
sums m codes a j (suc k) =
    let here : suc (suc (a + j) + k) ≡ suc (a + suc (j + k)) = omega arith in
    sym (add_regroup m (sum m codes a j) (sum m codes (suc (a + j)) k) (get_or codes (suc (suc (a + j) + k)) 0))
    ∙ rw (sums m codes a j k, here, add-suc j k)

-- the network before distance d: each position has the sum of the d positions up to it, or of all of them where they are fewer
record Windows (m d : ℕ) (ins codes : List ℕ) : Type 0 where
  long : length codes ≡ length ins
  near : (p : ℕ) → p < length ins → p < d → get_or codes p 0 ≡ sum m ins 0 p
  far : (p : ℕ) → p < length ins → d ≤ p → get_or codes p 0 ≡ sum m ins (suc p - d) (d - 1)

widen : (m d : ℕ) (ins codes : List ℕ) → 1 ≤ d → Windows m d ins codes → Windows m (d * 2) ins (joined m d codes)
widen m d ins codes some w =
    record {
      long = joined_length m d codes ∙ w.long;
      near =
          λ p l u.
          ListsLaws.split (ltb p d)
          (λ t. joined_near m d codes p (omega (arith, w.long)) (ltb-true p d t) ∙ w.near p l (ltb-true p d t))
          (λ f.
          let over : d ≤ p = ltb-false p d f in
          let half : suc p - d ≡ suc (0 + (p - d)) = omega arith in
          let all : suc ((p - d) + (d - 1)) ≡ p = omega arith in
          joined_far m d codes p (omega (arith, w.long)) over
          ∙ ap₂ (add m) (w.near (p - d) (omega arith) (omega arith)) (w.far p l over ∙ rw half)
          ∙ sums m ins 0 (p - d) (d - 1)
          ∙ rw all);
      far =
          λ p l u.
          let from : suc (p - d) - d ≡ suc p - d * 2 = omega arith in
          let half : suc p - d ≡ suc ((suc p - d * 2) + (d - 1)) = omega arith in
          let all : suc ((d - 1) + (d - 1)) ≡ d * 2 - 1 = omega arith in
          joined_far m d codes p (omega (arith, w.long)) (omega arith)
          ∙ ap₂ (add m) (w.far (p - d) (omega arith) (omega arith) ∙ rw from) (w.far p l (omega arith) ∙ rw half)
          ∙ sums m ins (suc p - d * 2) (d - 1) (d - 1)
          ∙ rw all;
    }

-- after the last distance every position has the sum of all positions up to it
whole : (m : ℕ) (ins codes : List ℕ) (c k : ℕ) → length ins ≤ k + c → Windows m (2 ^ k) ins codes → (p : ℕ) → p < length ins
    → get_or (levels m (from (length ins) k) codes) p 0 ≡ sum m ins 0 p
whole m ins codes zero k l w p u =
    rw (from_none (length ins) k (length ins - k) (omega (arith, pow_more k)), levels_none m codes) (w.near p u (omega (arith, pow_more k)))
whole m ins codes (suc c) k l w p u =
    ListsLaws.split (ltb (2 ^ k) (length ins))
    (λ t.
    rw (from_next (length ins) k (ltb-true (2 ^ k) (length ins) t), levels_next m (2 ^ k) (from (length ins) (suc k)) codes)
    (whole m ins (joined m (2 ^ k) codes) c (suc k) (omega arith) (rw (← pow-suc 2 k) at (widen m (2 ^ k) ins codes (pow_pos k) w)) p u))
    (λ f.
    let over = ltb-false (2 ^ k) (length ins) f in
    rw (from_none (length ins) k (length ins - k) over, levels_none m codes) (w.near p u (omega arith)))

-- each position's result is a prefix: the sum of the codes up to it
prefix : (m : ℕ) (ins : List ℕ) (p : ℕ) → p < length ins → get_or (levels m (distances (length ins)) ins) p 0 ≡ sum m ins 0 p
unfolding sum
prefix m ins p l =
    let start : Windows m (2 ^ 0) ins ins =
    record {
      long = refl;
      near = λ q u v. let first : q ≡ 0 = omega arith in rw first;
      far = λ q u v. let here : suc q - 2 ^ 0 ≡ q = omega arith in let alone : 2 ^ 0 - 1 ≡ 0 = omega arith in rw (here, alone);
    } in
    rw (from_first (length ins)) (whole m ins ins (length ins) 0 (omega arith) start p l)

-- such a sum from the first on is the running code past it
sum_running : (m : ℕ) (ins : List ℕ) (p : ℕ) → p < length ins → is_code m (get_or ins 0 0) ≡ true → sum m ins 0 p ≡ get_or (running m 0 ins) (suc p) 0
unfolding sum
sum_running m ins zero l t =
    sym (running_next m 0 ins 0 l ∙ rw (running_first m 0 ins) (add_none m (get_or ins 0 0) t))
sum_running m ins (suc p) l t =
    rw (sum_running m ins p (omega arith) t, zero-add p) (sym (running_next m 0 ins (suc p) l))

-- as many codes come out as go in
levels_length : (m : ℕ) (ds codes : List ℕ) → length (levels m ds codes) ≡ length codes
levels_length m [] codes = ap length (levels_none m codes)
levels_length m (d ∷ ds) codes = ap length (levels_next m d ds codes) ∙ levels_length m ds (joined m d codes) ∙ joined_length m d codes

-- a network with one position for each station
module _ (n m : ℕ) (h : Head) (asks : ℕ → Bool) (station : start h ≤ n) where
  -- the network is told by what goes in
  pub network_levels : levels m (distances (length (inputs n m h asks))) (inputs n m h asks) ≡ network n m h asks
  network_levels = rw (inputs_length n m h asks station) (sym (network_joins n m h asks))

  pub network_cut : levels_cut m (distances (length (inputs n m h asks))) (inputs n m h asks) ≡ network_cuts n m h asks
  network_cut = rw (inputs_length n m h asks station) (sym (network_cuts_levels n m h asks))

  pub network_length : length (network n m h asks) ≡ n
  network_length = ap length (network_joins n m h asks) ∙ levels_length m (distances n) (inputs n m h asks) ∙ inputs_length n m h asks station

  -- and there is one count more
  pub counts_length : length (counts n m h asks) ≡ suc n
  counts_length = rw (counts_shifted n m h asks) (ap suc network_length)

  -- the network's counts are the running codes: N1's counts and N3's are the same list
  pub counts_running : counts n m h asks ≡ running_codes n m h asks
  counts_running =
      ext_get_or 0 (counts n m h asks) (running_codes n m h asks) (counts_length ∙ sym (codes_length n m h asks station)) at
    where
      at : (p : ℕ) → p < length (counts n m h asks) → get_or (counts n m h asks) p 0 ≡ get_or (running_codes n m h asks) p 0
      at zero l = rw (counts_shifted n m h asks, codes_inputs n m h asks) (sym (running_first m 0 (inputs n m h asks)))
      at (suc p) l =
          let ins = inputs n m h asks in
          let fits : p < length ins = omega (arith, counts_length, inputs_length n m h asks station) in
          ap (λ (codes : List ℕ). get_or codes (suc p) 0) (counts_shifted n m h asks)
          ∙ ap (λ (codes : List ℕ). get_or codes p 0) (sym network_levels)
          ∙ prefix m ins p fits
          ∙ rw (codes_inputs n m h asks) (sum_running m ins p fits (inputs_codes n m h asks 0 (omega arith)))

  -- N1's "It must equal the serial counts at each station for any N and m"
  pub count_serial : (w : ℕ) → w < n → count_before n m h asks w ≡ code (saturated n m h asks w)
  count_serial w l = rw (count_position n m h asks w, counts_running) (code_before n m h asks station w l)

-- What the network cuts off. m is the pick count, `asks w` says that station w asks, and ws are the stations in their order
module _ (m : ℕ) (asks : ℕ → Bool) (ws : List ℕ) (some : 1 ≤ m) where
  -- how many of the first p ask
  abbrev upto : ℕ → ℕ
  upto p = count asks (take p ws)

  upto_more : (p q : ℕ) → p ≤ q → upto p ≤ upto q
  upto_more p q l = omega (arith, ListsLaws.count_take_le asks p (take q ws), ap (count asks) (take-take p q ws l))

  upto_next : (p : ℕ) → p < length ws → upto (suc p) ≡ upto p + bit (asks (get_or ws p 0))
  upto_next p l = ap (count asks) (take-suc ws p 0 l) ∙ ListsLaws.count_append asks (take p ws) (get_or ws p 0 ∷ []) ∙ omega arith

  -- how many of the d positions up to p ask, or of all of them where they are fewer
  abbrev window : ℕ → ℕ → ℕ
  window d p = upto (suc p) - upto (suc p - d)

  -- the network before distance d: each code counts its window, m at the most
  record Counted (d : ℕ) (codes : List ℕ) : Type 0 where
    long : length codes ≡ length ws
    each : (p : ℕ) → p < length ws → ones (get_or codes p 0) ≡ min m (window d p)

  join_counted : (d : ℕ) (codes : List ℕ) → 1 ≤ d → Counted d codes → Counted (d * 2) (joined m d codes)
  join_counted d codes one c =
      record {
        long = joined_length m d codes ∙ c.long;
        each =
            λ p l.
            ListsLaws.split (ltb p d)
            (λ t.
            let u = ltb-true p d t in
            let all : suc p - d ≡ 0 = omega arith in
            let still : suc p - d * 2 ≡ 0 = omega arith in
            ap ones (joined_near m d codes p (omega (arith, c.long)) u) ∙ c.each p l ∙ rw (all, still))
            (λ f.
            let u = ltb-false p d f in
            let here : suc (p - d) ≡ suc p - d = omega arith in
            let far : suc p - d - d ≡ suc p - d * 2 = omega arith in
            let left = rw (here, far) at (c.each (p - d) (omega arith)) in
            ap ones (joined_far m d codes p (omega (arith, c.long)) u)
            ∙ ones_add m _ _
            ∙ omega (arith, left, c.each p l, upto_more (suc p - d * 2) (suc p - d) (omega arith), upto_more (suc p - d) (suc p) (omega arith)));
      }

  -- a joining that cuts something off joins windows in which more than m ask
  cut_more : (d : ℕ) (codes : List ℕ) → Counted d codes → joined_cuts m d codes ≡ true → m < count asks ws
  unfolding cuts
  cut_more d codes c e =
      let r = ListsLaws.any_found _ d (length codes - d) (sym (joined_cuts_any m d codes) ∙ e) in
      let p = r.0 in
      let fits : p < length ws = omega (arith, c.long, r.1, r.2) in
      let here : suc (p - d) ≡ suc p - d = omega (arith, r.1) in
      let left = rw here at (c.each (p - d) (omega arith)) in
      omega (
        arith,
        ltb-true _ _ r.3,
        left,
        c.each p fits,
        upto_more (suc p - d - d) (suc p - d) (omega arith),
        upto_more (suc p - d) (suc p) (omega arith),
        ListsLaws.count_take_le asks (suc p) ws,
      )

  -- and after one that does not, if the windows were no more than m, the next are not
  abbrev Few : ℕ → Type 0
  Few d = (p : ℕ) → p < length ws → window d p ≤ m

  uncut_few : (d : ℕ) (codes : List ℕ) → Counted d codes → joined_cuts m d codes ≡ false → Few d → Few (d * 2)
  unfolding cuts
  uncut_few d codes c e few p l =
      ListsLaws.split (ltb p d)
      (λ t.
      let u = ltb-true p d t in
      let all : suc p - d ≡ 0 = omega arith in
      let still : suc p - d * 2 ≡ 0 = omega arith in
      rw still (rw all at (few p l)))
      (λ f.
      let u = ltb-false p d f in
      let here : suc (p - d) ≡ suc p - d = omega arith in
      let far : suc p - d - d ≡ suc p - d * 2 = omega arith in
      let left = rw (here, far) at (c.each (p - d) (omega arith)) in
      let low = rw (here, far) at (few (p - d) (omega arith)) in
      let whole = ListsLaws.any_not _ d (length codes - d) (sym (joined_cuts_any m d codes) ∙ e) p u (omega (arith, c.long)) in
      omega (arith, ltb-false _ _ whole, left, low, c.each p l, few p l))

  -- where no distance is left the last window is all
  all_joined : (k : ℕ) (codes : List ℕ) → length ws ≤ 2 ^ k → Few (2 ^ k) → levels_cut m (from (length ws) k) codes ≡ ltb m (count asks ws)
  all_joined k codes over few =
      let n = length ws in
      let all = ap (count asks) (take_all n ws (omega arith)) in
      rw (from_none n k (n - k) over, levels_cut_none m codes)
      (sym (le-ltb m (count asks ws)
      (ListsLaws.split (ltb 0 n)
      (λ t.
      let l = ltb-true 0 n t in
      let last : suc (n - 1) ≡ n = omega arith in
      let none : n - 2 ^ k ≡ 0 = omega arith in
      omega (arith, all, rw (last, none) at (few (n - 1) (omega arith))))
      (λ f. let none : n ≡ 0 = omega (arith, ltb-false 0 n f) in omega (arith, all, ap upto none)))))

  -- so something is cut off at one of the distances exactly if more than m ask
  levels_more : (c k : ℕ) (codes : List ℕ) → length ws ≤ k + c → Counted (2 ^ k) codes → Few (2 ^ k)
      → levels_cut m (from (length ws) k) codes ≡ ltb m (count asks ws)
  levels_more zero k codes l w few = all_joined k codes (omega (arith, pow_more k)) few
  levels_more (suc c) k codes l w few =
      ListsLaws.split (ltb (2 ^ k) (length ws))
      (λ t.
      rw (from_next (length ws) k (ltb-true (2 ^ k) (length ws) t), levels_cut_next m (2 ^ k) (from (length ws) (suc k)) codes)
      (ListsLaws.split (joined_cuts m (2 ^ k) codes)
      (λ q. rw q (sym (lt-ltb m (count asks ws) (cut_more (2 ^ k) codes w q))))
      (λ q.
      rw q
      (levels_more c (suc k) (joined m (2 ^ k) codes) (omega arith)
      (rw (← pow-suc 2 k) at (join_counted (2 ^ k) codes (pow_pos k) w))
      (rw (← pow-suc 2 k) at (uncut_few (2 ^ k) codes w q few))))))
      (λ f. all_joined k codes (ltb-false (2 ^ k) (length ws) f) few)

  -- the requests as codes count one position each
  begin_counted : Counted (2 ^ 0) (map (input m asks) ws)
  begin_counted =
      record {
        long = length-map ws (input m asks);
        each =
            λ p l.
            let here : suc p - 2 ^ 0 ≡ p = omega arith in
            ap ones (ListsLaws.get_d_mapped (input m asks) ws p l) ∙ ones_code _ ∙ rw here (omega (arith, upto_next p l));
      }

  begin_few : Few (2 ^ 0)
  begin_few p l =
      let here : suc p - 2 ^ 0 ≡ p = omega arith in
      rw here (omega (arith, upto_next p l, ListsLaws.bit_le (asks (get_or ws p 0))))

  cut_exactly : levels_cut m (distances (length ws)) (map (input m asks) ws) ≡ ltb m (count asks ws)
  cut_exactly = rw (from_first (length ws)) (levels_more (length ws) 0 (map (input m asks) ws) (omega arith) begin_counted begin_few)

-- the network cuts something off exactly if more than m ask: 02, N5
pub network_more : (n m : ℕ) (h : Head) (asks : ℕ → Bool) → start h ≤ n → 1 ≤ m → network_cuts n m h asks ≡ ltb m (count asks (order n h))
network_more n m h asks station some =
    network_cuts_levels n m h asks
    ∙ rw (inputs_order n m h asks) (rw (RoundRobinLaws.order_length n h station) at (cut_exactly m asks (order n h) some))
