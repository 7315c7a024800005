-- The requests in the order are what goes into the network.
-- Assumes nothing.
use Prim.Native.Nat.{ℕ, zero, suc, ◌+◌, ◌-◌, ◌≤◌, ◌<◌}
use mathlib.Core.Path.{◌≡◌, refl, sym, ap₂, ◌∙◌}
use mathlib.Core.List.{List, ◌∷◌, ◌++◌, map, append-nil}
use native.Mathlib.Omega.{arith}
use lib.Dec.{leb}
use lib.ListN.{length, get_or, take, drop, length-drop, drop_of_length-le}
use lib.Seq.{drop-cons, take_all}
use borrow.Author.Tests.{leb-true, leb-false}
use Rattle.rules.specs.Head.{Head}
use Rattle.std.specs.Prelude.{None, Some, Bool}
use Rattle.rules.specs.Lists.{range}
use Rattle.rules.specs.Lists.Laws as ListsLaws
use Rattle.rules.specs.RoundRobin.{start}
use Rattle.rules.proofs.RoundRobin.Laws.{start_none, start_at}
use Rattle.rules.specs.KoggeStone.{distances, levels, network, levels_cut, network_cuts}
use Rattle.rules.proofs.KoggeStone.Laws.{network_levels, network_cut}
use Rattle.rules.specs.Thermometer.{input, inputs}
use Rattle.rules.proofs.Thermometer.Laws.{code_bit}
use Rattle.rules.proofs.Thermometer.Running.{inputs_runs, inputs_codes}
use Rattle.arbiter.specs.Decisions.{requested}
use Rattle.search.specs.Places.{Bits}
use Rattle.kogge_stone.specs.Steps.{Codes}

-- bytes that are 0 or 1 are the codes of what they ask
module _ (m : ℕ) (requests : List ℕ) (some : 1 ≤ m) (wires : Bits requests) where
  run : (a k : ℕ) → a + k ≤ length requests → map (input m (requested requests)) (range a k) ≡ take k (drop a requests)
  run a zero l = refl
  run a (suc k) l =
      let fits : a < length requests = omega arith in
      rw (drop-cons requests a 0 fits)
      (ap₂ {C = List ℕ} (λ (x : ℕ) (xs : List ℕ). x ∷ xs) (code_bit m (get_or requests a 0) some (wires a fits)) (run (suc a) k (omega arith)))

  ordered : (h : Head) → start h ≤ length requests
      → drop (start h) requests ++ take (start h) requests ≡ inputs (length requests) m h (requested requests)
  ordered h l =
      let n = length requests in
      let s = start h in
      let high = run s (n - s) (omega arith) ∙ take_all (n - s) (drop s requests) (simp length-drop (omega arith)) in
      sym (inputs_runs n m h (requested requests) ∙ ap₂ {C = List ℕ} (λ (x y : List ℕ). x ++ y) high (run 0 s (omega arith)))

  -- the requests in an order that starts at any station
  module _ (f : ℕ) (codes : List ℕ) (rotated : codes ≡ drop f requests ++ take f requests) where
    -- are codes
    pub codes_in : Codes m codes
    codes_in =
        ListsLaws.split (leb f (length requests))
        (λ t.
        let l = leb-true f (length requests) t in
        rw (rotated ∙ (rw start_at at (ordered (Some f) (rw start_at l)))) (inputs_codes (length requests) m (Some f) (requested requests)))
        (λ n.
        let l : length requests ≤ f = omega (arith, leb-false f (length requests) n) in
        let same : codes ≡ requests = rotated ∙ rw (drop_of_length-le requests l, take_all f requests l) in
        rw (same ∙ sym (append-nil requests) ∙ (rw start_none at (ordered None (rw start_none (omega arith))))) (inputs_codes (length requests) m None (requested requests)))

    -- and where it starts at the first, this comes out
    pub come_out : (h : Head) → start h ≤ length requests → f ≡ start h → {out : List ℕ} → out ≡ levels m (distances (length codes)) codes
        → out ≡ network (length requests) m h (requested requests)
    come_out h l e out =
        let go-in : codes ≡ inputs (length requests) m h (requested requests) = rotated ∙ rw e (ordered h l) in
        out ∙ rw go-in (network_levels (length requests) m h (requested requests) l)

    pub cut_off : (h : Head) → start h ≤ length requests → f ≡ start h → {out : Bool} → out ≡ levels_cut m (distances (length codes)) codes
        → out ≡ network_cuts (length requests) m h (requested requests)
    cut_off h l e out =
        let go-in : codes ≡ inputs (length requests) m h (requested requests) = rotated ∙ rw e (ordered h l) in
        out ∙ rw go-in (network_cut (length requests) m h (requested requests) l)
