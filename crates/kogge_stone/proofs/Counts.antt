-- What is read off the running codes is what the round-robin rule grants and decides.
-- Assumes nothing.
use Prim.Native.Nat.{ℕ, zero, suc, ◌+◌, ◌-◌, ◌≤◌, ◌<◌}
use mathlib.Core.Path.{◌≡◌, refl, sym, ap, ◌∙◌}
use mathlib.Core.Bool.{Bool, true, false, ◌&&◌}
use mathlib.Core.List.{List, []}
use native.Mathlib.Omega.{arith}
use native.Mathlib.Nat.{zero-add}
use native.Mathlib.Numerals.{one-add}
use lib.Count.{ones}
use lib.Dec.{ltb}
use lib.ListN.{length, get_or, take, drop, length-drop}
use lib.Seq.{ext_get_or, get_or-take, get_or-drop, take_all}
use borrow.Author.Tests.{ltb-true, ltb-false, lt-ltb, le-ltb}
use Rattle.std.specs.Prelude.{Option, None, Some}
use Rattle.std.specs.Bool.{◌==◌}
use lib.Dec.{eqb}
use Rattle.std.specs.List.{position, position_or_len}
use Rattle.std.proofs.lemmas.List.Recursion.{is_position_or_len}
use Rattle.rules.specs.Head.{Head}
use Rattle.rules.specs.Lists.{bit, before}
use Rattle.rules.specs.Lists.Laws as ListsLaws
use Rattle.rules.specs.RoundRobin as RoundRobinRule
use Rattle.rules.specs.RoundRobin.{start, order}
use Rattle.rules.proofs.RoundRobin.Laws.{before_position, before_length}
use Rattle.rules.specs.Thermometer as ThermometerRule
use Rattle.rules.specs.Thermometer.{code, is_code, saturated, running_codes}
use Rattle.rules.proofs.Thermometer.Laws.{zero_ones, code_own, code_below, grants_round_robin}
use Rattle.rules.proofs.Thermometer.Running.{running_first, codes_inputs, codes_length, code_before, ones_past, code_last}
use Rattle.rules.specs.KoggeStone.{network_cuts}
use Rattle.rules.proofs.KoggeStone.Laws.{network_more}
use Rattle.rules.proofs.Pending.Laws.{more_picks}
use Rattle.rules.proofs.Walk.Laws.{Walked}
use Rattle.arbiter.specs.Decisions.{requested, decision, deciding, counted}
use Rattle.arbiter.specs.Decisions.Laws.{walked}
use Rattle.kogge_stone.specs.Steps.{station, grants}
use Rattle.kogge_stone.proofs.Grants as Grants

-- how many come before the first of some bytes that is this one
is_before : (byte : ℕ) (bytes : List ℕ) → length (before byte bytes) ≡ position_or_len (λ b. byte == b) bytes
is_before byte bytes =
    is_position_or_len (λ xs. length (before byte xs)) (λ b. byte == b) refl (λ x xs. ListsLaws.split (eqb byte x) (λ t. rw t) (λ f. rw f (omega arith))) bytes

module _ (m full : ℕ) (h : Head) (requests : List ℕ) (picked : 1 ≤ m) (most : ones full ≡ m) (coded : is_code 8 full ≡ true)
    (first : start h < length requests) where
  abbrev n : ℕ
  n = length requests

  abbrev asks : ℕ → Bool
  asks = requested requests

  abbrev cs : List ℕ
  cs = running_codes n m h asks

  -- the grants by the counts before the positions
  grants_serial : grants full (start h) requests (take n cs) ≡ ThermometerRule.grants n m h asks
  unfolding ThermometerRule.grants
  grants_serial =
      ext_get_or 0 (grants full (start h) requests (take n cs)) (ThermometerRule.grants n m h asks)
      (Grants.long full (start h) requests _ ∙ sym (ListsLaws.length_table _ 0 n))
      (λ w l.
      let u : w < n = omega (arith, Grants.long full (start h) requests (take n cs)) in
      let own : code m ≡ full = ap code (sym most) ∙ sym (code_own 8 full coded) in
      let p = length (before w (order n h)) in
      let few : ltb (get_or (take n cs) p 0) full ≡ ltb (saturated n m h asks w) m =
      rw (
        get_or-take n cs p 0 (omega (arith, before_length n h w (omega arith) u)),
        code_before n m h asks (omega arith) w u,
        ← code_below (saturated n m h asks w) m,
        own,
      ) in
      Grants.at full (start h) requests (take n cs) w u
      ∙ rw (← before_position n h w u, few)
      (sym (ListsLaws.get_d_table (λ (v : ℕ). bit (asks v && ltb (saturated n m h asks v) m)) 0 n w u ∙ rw zero-add)))

  pub grants_rule : grants full (start h) requests (take n cs) ≡ RoundRobinRule.grants n m h asks
  grants_rule = grants_serial ∙ grants_round_robin n m h asks (omega arith)

  abbrev total : ℕ
  total = get_or cs n 0

  -- the codes past the positions
  abbrev later : List ℕ
  later = drop 1 cs

  many : length later ≡ n
  many = length-drop 1 cs ∙ rw (codes_length n m h asks (omega arith)) (omega arith)

  -- the place at which the last of them is reached
  abbrev p : ℕ
  p = length (before total later)

  abbrev w : ℕ
  w = station n (start h) p

  shifted : (i : ℕ) → get_or cs (suc i) 0 ≡ get_or later i 0
  shifted i = sym (get_or-drop 1 cs i 0 ∙ rw one-add)

  inside : p < n
  inside =
      let last : suc (n - 1) ≡ n = omega arith in
      let there : get_or later (n - 1) 0 ≡ total = sym (shifted (n - 1)) ∙ ap (λ (k : ℕ). get_or cs k 0) last in
      omega (arith, ListsLaws.before_first total later (n - 1) (omega (arith, many)) there)

  reached : get_or cs (suc p) 0 ≡ total
  reached = shifted p ∙ ListsLaws.before_next total later (omega (arith, inside, many))

  earlier : 0 < ones total → get_or cs p 0 ≡ total → ⊥
  earlier some = at p refl
    where
      at : (q : ℕ) → q ≡ p → get_or cs q 0 ≡ total → ⊥
      at zero e same = omega (arith, zero_ones, ap ones (sym (ap (λ (l : List ℕ). get_or l 0 0) (codes_inputs n m h asks) ∙ running_first m 0 _) ∙ same))
      at (suc q) e same =
          omega (arith, inside, ListsLaws.before_first total later q (omega (arith, inside, many)) (sym (shifted q) ∙ same))

  -- a station by its position
  placed : (w < n) × (length (before w (order n h)) ≡ p)
  placed =
      ListsLaws.split (ltb p (n - start h))
      (λ t.
      let low = ltb-true p (n - start h) t in
      rw t (omega arith, before_position n h (start h + p) (omega arith) ∙ rw (le-ltb (start h + p) (start h) (omega arith)) (omega arith)))
      (λ f.
      let high = ltb-false p (n - start h) f in
      let k = p - (n - start h) in
      rw f (omega (arith, inside), before_position n h k (omega (arith, inside)) ∙ rw (lt-ltb k (start h) (omega (arith, inside))) (omega arith)))

  read : {z : Option ℕ} {new : List ℕ} → (ones total ≡ 0 → z ≡ None) → (0 < ones total → z ≡ Some w) → new ≡ RoundRobinRule.grants n m h asks
      → Walked n m h asks (ones total) z new
  read none some e =
      record {
        counted = ones_past n m h asks (omega arith);
        bytes = e;
        nobody = none;
        last =
            λ l. (
              w,
              some l,
              placed.0,
              code_last n m h asks (omega arith) w placed.0
                  (λ same. earlier l (ap (λ (k : ℕ). get_or cs k 0) (sym placed.1) ∙ same))
                  (ap (λ (k : ℕ). get_or cs (suc k) 0) placed.1 ∙ reached),
            );
      }

  -- what the steps make of these counts
  module _ (given : List ℕ) (is : given ≡ cs) (f : ℕ) (ef : f ≡ start h) (new : List ℕ) (eg : new ≡ grants full f requests (take n given))
      (c : ℕ) (ec : c ≡ ones (get_or given n 0)) where
    bytes : new ≡ RoundRobinRule.grants n m h asks
    bytes = eg ∙ rw (ef, is) grants_rule

    sum : c ≡ ones total
    sum = ec ∙ rw is

    -- where nobody is counted
    pub idles : c ≡ 0 → (deciding n h [] false ≡ decision n m h asks) × (new ≡ RoundRobinRule.grants n m h asks)
    idles none =
        (walked n m h asks picked (omega arith) (read {z = None} (λ e. refl) (λ some. absurd (omega (arith, sum))) bytes) refl, bytes)

    -- and where somebody is: `found` is the place at which their count is first reached
    pub placed_some : (found : Option ℕ) → found ≡ position (λ b. get_or given n 0 == b) (take (length given - 1) (drop 1 given)) → found ≡ Some p
    placed_some found e =
        let rest : take (length given - 1) (drop 1 given) ≡ drop 1 given = take_all (length given - 1) (drop 1 given) (simp length-drop (omega arith)) in
        let at : position_or_len (λ b. get_or given n 0 == b) (drop 1 given) ≡ p = rw is (sym (is_before total later)) in
        e ∙ rw (rest, at, is, lt-ltb p (length later) (omega (arith, inside, many)))

    pub decides : (c ≡ 0 → ⊥) → (v : ℕ) → v ≡ station n f p → (more : Bool) → more ≡ network_cuts n m h asks
        → (counted n h c (Some v) more ≡ decision n m h asks) × (new ≡ RoundRobinRule.grants n m h asks)
    decides any v ev more cut =
        let here : v ≡ w = ev ∙ rw ef in
        (rw (sum, here) (walked n m h asks picked (omega arith) (read {z = Some w} (λ e. absurd (any (sum ∙ e))) (λ some. refl) bytes) (cut ∙ network_more n m h asks (omega arith) picked ∙ sym (more_picks n m h asks (omega arith)))), bytes)
