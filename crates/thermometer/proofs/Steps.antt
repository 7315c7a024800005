-- One adder step for each station: the code is carried along a walk.
-- Assumes nothing.
use Prim.Native.Nat.{ℕ, ◌+◌, ◌≤◌, ◌<◌, min}
use mathlib.Core.Path.{◌≡◌, sym, ap, ◌∙◌}
use mathlib.Core.Bool.{Bool, true, not, ◌&&◌}
use mathlib.Core.List.{List}
use native.Mathlib.Omega.{arith}
use Rattle.std.specs.Prelude.{Option, Some}
use lib.Count.{ones}
use lib.Dec.{eqb, ltb}
use lib.ListN.{length, set}
use borrow.Author.Tests.{eqb-true, eqb-false, ltb-true, ltb-false, eq-eqb, ne_eqb, lt-ltb, not-true}
use Rattle.rules.specs.Lists.Laws as ListsLaws
use Rattle.rules.specs.Thermometer.{code, is_code, add}
use Rattle.rules.proofs.Thermometer.Laws.{ones_code, ones_bit, add_is_code, code_own, code_few}
use Rattle.rules.specs.Walk.{Ran}
use Rattle.rules.proofs.Walk.Laws as WalkLaws

-- at a station with the code a before it and the request byte b
module _ (m a b : ℕ) (coded : is_code m a ≡ true) (is-bit : b ≤ 1) where
  -- the count after it
  ones_add : ones (add m a b) ≡ min m (ones a + b)
  unfolding add
  ones_add = ones_code (min m (ones a + ones b)) ∙ rw (ones_bit b is-bit)

  -- the sum is another code exactly if it asks and the count is below m
  rises : not (eqb (add m a b) a) ≡ (eqb b 1 && ltb (ones a) m)
  rises =
      ListsLaws.both_ways _ _
      (λ t.
      let more : ones (add m a b) ≡ ones a → ⊥ =
      λ e. eqb-false _ _ (not-true _ t) (code_own m _ (add_is_code m a b) ∙ ap code e ∙ sym (code_own m a coded)) in
      let few = code_few m a coded in
      rw (eq-eqb b 1 (omega (arith, ones_add)), lt-ltb (ones a) m (omega (arith, ones_add))))
      (λ t.
      let both = ListsLaws.both _ _ t in
      let asks = eqb-true b 1 both.0 in
      let below = ltb-true (ones a) m both.1 in rw (ne_eqb (add m a b) a (λ e. omega (arith, ones_add, ap ones e))))

  module _ (asks : ℕ → Bool) (from c₀ : ℕ) (z₀ : Option ℕ) (old : List ℕ) (i : ℕ) (at : from ≤ i) (z : Option ℕ) (new : List ℕ)
      (r : Ran m asks from i c₀ z₀ old (ones a) z new) (is : asks i ≡ eqb b 1) where
    -- the sum is another code: the station is granted
    pub granted : (add m a b ≡ a → ⊥) → i < length new → Ran m asks from (i + 1) c₀ z₀ old (ones (add m a b)) (Some i) (set new i 1)
    granted other fits =
        let both = ListsLaws.both _ _ (sym rises ∙ ap not (ne_eqb _ _ other)) in
        let one = eqb-true b 1 both.0 in
        let below = ltb-true (ones a) m both.1 in
        let more : ones (add m a b) ≡ ones a + 1 = omega (arith, ones_add) in
        rw more (WalkLaws.grant m asks from c₀ z₀ old i at (ones a) z new r (is ∙ both.0) below fits)

    -- it is the code itself: it is not
    pub passed_over : add m a b ≡ a → Ran m asks from (i + 1) c₀ z₀ old (ones a) z new
    passed_over e =
        let off = sym rises ∙ ap not (eq-eqb _ _ e) in
        ListsLaws.split (eqb b 1)
        (λ t.
        let full : ones a ≡ m = omega (arith, ltb-false (ones a) m (rw t at off), r.counted) in
        WalkLaws.full m asks from c₀ z₀ old i at (ones a) z new r (i + 1) (omega arith) full)
        (λ t. WalkLaws.skip m asks from c₀ z₀ old i at (ones a) z new r (is ∙ t))
