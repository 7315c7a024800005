-- Laws of the running code: 02, N3. It is the serial count, as a code.
-- Assumes nothing.
use Prim.Native.Nat.{ℕ, zero, suc, ◌+◌, ◌-◌, ◌%◌, ◌≤◌, ◌<◌, min}
use Rattle.std.specs.Prelude.{◌≡◌, Bool, true, ltb, length, get_or, take}
use Rattle.std.proofs.Math.Path.{sym, ap}
use Rattle.std.proofs.Common.{◌∙◌, arith, add-one, length-append, take_all, take_at}
use mathlib.Core.List.{List, [], ◌∷◌, ◌++◌, map, map-append}
use Rattle.std.proofs.Math.Nat.{zero-add}
use Rattle.std.specs.Int.Count.{ones}
use Rattle.std.proofs.Math.ListN.{length-map, get_or-append}
use Rattle.std.proofs.Math.Seq.{take-append-add, get_or-append_seam, ext_get_or}
use borrow.Author.Tests.{ltb-true, ltb-false}
use Rattle.rules.specs.Head.{Head}
use Rattle.std.specs.Prelude.{Some}
use Rattle.rules.specs.Lists.{bit, range, filter, count, before}
use Rattle.rules.specs.Lists.Laws as ListsLaws
use Rattle.rules.specs.RoundRobin.{start, order, granted, next}
use Rattle.rules.proofs.RoundRobin.Laws as RoundRobinLaws
use Rattle.rules.specs.Thermometer.{code, is_code, saturated, input, inputs, running, running_codes}
use Rattle.rules.proofs.Thermometer.Laws.{ones_code, code_own, code_few, is_code_lem, add_codes, add_is_code}
pub use Rattle.rules.specs.Thermometer.Running.{running_first, running_next, running_behind, running_length, running_prefix, running_carried, codes_inputs, inputs_order}

-- it stays a code for m
pub running_is_code : (m c : ℕ) (xs : List ℕ) (k : ℕ) → is_code m c ≡ true → k ≤ length xs → is_code m (get_or (running m c xs) k 0) ≡ true
running_is_code m c xs zero t l = rw (running_first m c xs) t
running_is_code m c xs (suc k) t l = rw (running_next m c xs k (omega arith)) (add_is_code m (get_or (running m c xs) k 0) (get_or xs k 0))

-- along stations it is the code of the count that it starts from and of how many ask, m at the most
pub running_count : (m : ℕ) (asks : ℕ → Bool) (a : ℕ) (ws : List ℕ) (k : ℕ) → a ≤ m → k ≤ length ws
    → get_or (running m (code a) (map (input m asks) ws)) k 0 ≡ code (min m (a + count asks (take k ws)))
running_count m asks a ws zero l u = running_first m (code a) (map (input m asks) ws) ∙ ap code (omega arith)
running_count m asks a [] (suc k) l u = absurd (omega arith)
running_count m asks a (w ∷ ws) (suc k) l u =
    running_behind m (code a) (input m asks w) (map (input m asks) ws) k
    ∙ ap (λ (c : ℕ). get_or (running m c (map (input m asks) ws)) k 0) (add_codes m a _)
    ∙ running_count m asks (min m (a + _)) ws k (omega arith) (omega arith)
    ∙ ap code (omega arith)

-- and along a run of them, before station w
pub running_run : (m : ℕ) (asks : ℕ → Bool) (c from to w : ℕ) → is_code m c ≡ true → from ≤ w → w ≤ to
    → get_or (running m c (map (input m asks) (range from (to - from)))) (w - from) 0
    ≡ code (min m (ones c + count asks (range from (w - from))))
running_run m asks c from to w t l u =
    let parts : to - from ≡ (w - from) + (to - w) = omega arith in
    let upto : take (w - from) (range from (to - from)) ≡ range from (w - from) =
    rw (parts, ListsLaws.range_append from (w - from) (to - w)) (take_at (range from (w - from)) _ (w - from) (ListsLaws.length_range from (w - from))) in
    ap (λ (a : ℕ). get_or (running m a (map (input m asks) (range from (to - from)))) (w - from) 0) (code_own m c t)
    ∙ running_count m asks (ones c) (range from (to - from)) (w - from) (code_few m c t) (omega (arith, ListsLaws.length_range from (to - from)))
    ∙ rw upto

-- a cycle's inputs are those of two runs of stations: from the first to the end, and from 0 up to the first
pub inputs_runs : (n m : ℕ) (h : Head) (asks : ℕ → Bool)
    → inputs n m h asks ≡ map (input m asks) (range (start h) (n - start h)) ++ map (input m asks) (range 0 (start h))
inputs_runs n m h asks =
    inputs_order n m h asks
    ∙ ap (map (input m asks)) (RoundRobinLaws.order_runs n h) ∙ map-append (input m asks) (range (start h) (n - start h)) (range 0 (start h))

-- and are codes
pub inputs_codes : (n m : ℕ) (h : Head) (asks : ℕ → Bool) (p : ℕ) → p < length (inputs n m h asks) → is_code m (get_or (inputs n m h asks) p 0) ≡ true
inputs_codes n m h asks p l =
    let w = get_or (order n h) p 0 in
    let long : p < length (map (input m asks) (order n h)) = rw (inputs_order n m h asks) at l in
    rw (inputs_order n m h asks, ListsLaws.get_d_mapped (input m asks) (order n h) p (omega (arith, long, length-map (order n h) (input m asks))))
    (is_code_lem m (min m (bit (asks w))) (omega arith))

-- the codes of a cycle with one position for each station
module _ (n m : ℕ) (h : Head) (asks : ℕ → Bool) (station : start h ≤ n) where
  abbrev cs : List ℕ
  cs = running_codes n m h asks

  pub inputs_length : length (inputs n m h asks) ≡ n
  inputs_length = ap length (inputs_order n m h asks) ∙ length-map (order n h) _ ∙ RoundRobinLaws.order_length n h station

  -- N + 1 of them
  pub codes_length : length cs ≡ suc n
  codes_length = ap length (codes_inputs n m h asks) ∙ running_length m 0 (inputs n m h asks) ∙ ap suc inputs_length

  -- by positions: the code of how many of the first p ask, m at the most
  pub codes_at : (p : ℕ) → p ≤ n → get_or cs p 0 ≡ code (min m (count asks (take p (order n h))))
  unfolding code
  codes_at p l =
      ap (λ (l : List ℕ). get_or l p 0) (codes_inputs n m h asks)
      ∙ ap (λ (l : List ℕ). get_or (running m 0 l) p 0) (inputs_order n m h asks)
      ∙ running_count m asks 0 (order n h) p (omega arith) (omega (arith, RoundRobinLaws.order_length n h station))
      ∙ rw zero-add

  -- N3's "Before each station it is that station's serial count"
  pub code_before : (w : ℕ) → w < n → get_or cs (length (before w (order n h))) 0 ≡ code (saturated n m h asks w)
  unfolding saturated
  code_before w l =
      codes_at (length (before w (order n h))) (omega (arith, RoundRobinLaws.before_length n h w station l))
      ∙ rw (← ListsLaws.before_take w (order n h))

  -- past the last it is the code of how many are granted
  pub code_past : get_or cs n 0 ≡ code (length (granted n m h asks))
  code_past =
      codes_at n (omega arith)
      ∙ rw (take_all n (order n h) (omega (arith, RoundRobinLaws.order_length n h station)), RoundRobinLaws.granted_length n m h asks)

  -- N3's "past the last, the number of its ones is the cycle's count of grants"
  pub ones_past : ones (get_or cs n 0) ≡ length (granted n m h asks)
  ones_past = ap ones code_past ∙ ones_code (length (granted n m h asks))

  -- both at once: the serial counts of all stations in turn order, and the count of grants
  pub codes_serial : cs ≡ map (λ w. code (saturated n m h asks w)) (order n h) ++ (code (length (granted n m h asks)) ∷ [])
  unfolding saturated
  codes_serial =
      ext_get_or 0 cs (serials ++ (total ∷ [])) (codes_length ∙ sym long)
      (λ p l. ListsLaws.split (ltb p n) (λ t. at p (ltb-true p n t)) (λ f. past p (omega (arith, ltb-false p n f, codes_length))))
    where
      serials : List ℕ
      serials = map (λ w. code (saturated n m h asks w)) (order n h)

      total : ℕ
      total = code (length (granted n m h asks))

      many : length serials ≡ n
      many = length-map (order n h) _ ∙ RoundRobinLaws.order_length n h station

      long : length (serials ++ (total ∷ [])) ≡ suc n
      long = length-append serials (total ∷ []) ∙ rw (many, add-one)

      at : (p : ℕ) → p < n → get_or cs p 0 ≡ get_or (serials ++ (total ∷ [])) p 0
      at p l =
          codes_at p (omega arith)
          ∙ rw (← RoundRobinLaws.before_at n h p station l)
          (sym (get_or-append serials (total ∷ []) 0 p (omega (arith, many)) ∙ ListsLaws.get_d_mapped _ (order n h) p (omega (arith, RoundRobinLaws.order_length n h station))))

      past : (p : ℕ) → p ≡ n → get_or cs p 0 ≡ get_or (serials ++ (total ∷ [])) p 0
      past p e =
          rw e (code_past ∙ sym (get_or-append_seam serials total [] 0) ∙ rw many)

  -- the station past which the code is that past the last, and before which it is not, was granted last
  pub code_last : (w : ℕ) → w < n
      → let p = length (before w (order n h)) in
      (get_or cs p 0 ≡ get_or cs n 0 → ⊥) → get_or cs (suc p) 0 ≡ get_or cs n 0 → next n m h asks ≡ Some ((w + 1) % n)
  code_last w l less same =
      let p = length (before w (order n h)) in
      let inside = RoundRobinLaws.before_length n h w station l in
      let split = ListsLaws.before_split w (order n h) (RoundRobinLaws.order_member n h w station l) in
      let upto : take (suc p) (order n h) ≡ before w (order n h) ++ (w ∷ []) =
      rw (← add-one p) (ap (take (p + 1)) split.1 ∙ take-append-add (before w (order n h)) (w ∷ split.0) 1) in
      let t = count asks (before w (order n h)) in
      let few : get_or cs p 0 ≡ code (min m t) = codes_at p (omega arith) ∙ rw (← ListsLaws.before_take w (order n h)) in
      let reached : min m (t + bit (asks w)) ≡ length (granted n m h asks) =
      omega (
        arith,
        ap ones (sym (codes_at (suc p) (omega arith)) ∙ same ∙ code_past),
        ones_code (min m (count asks (take (suc p) (order n h)))),
        ones_code (length (granted n m h asks)),
        ap (count asks) upto,
        ListsLaws.count_append asks (before w (order n h)) (w ∷ []),
      ) in
      let other : min m t ≡ length (granted n m h asks) → ⊥ = λ e. less (few ∙ ap code e ∙ sym code_past) in
      ListsLaws.split (asks w)
      (λ a.
      RoundRobinLaws.next_last n m h asks (filter asks (before w (order n h))) w
      (RoundRobinLaws.granted_upto n m h asks w station l a (omega (arith, reached, ap bit a))))
      (λ a. absurd (other (omega (arith, reached, ap bit a))))
