-- What many adders cut off between them: the codes of their whole sums, one over the other, are that of the largest.
-- Assumes nothing.
use Prim.Native.Nat.{ℕ, ◌+◌, ◌-◌, ◌^◌, ◌≤◌, min, max}
use mathlib.Core.Path.{◌≡◌, refl, sym, ap, ◌∙◌}
use mathlib.Core.Bool.{Bool, false, ◌||◌}
use native.Mathlib.Omega.{arith}
use native.Mathlib.Nat.{mod-eq_of_lt}
use lib.Bits.{bit_and, bit_or, and_mask, or_add_and, or_comm}
use lib.Dec.{leb, ltb}
use lib.Pow.{pow_mono, pow_pos}
use borrow.Author.Tests.{leb-true, leb-false, ltb-true, ltb-false, lt-ltb, le-ltb}
use Rattle.rules.specs.Lists.Laws as ListsLaws
use Rattle.rules.specs.Thermometer.{code}
use Rattle.rules.proofs.Thermometer.Laws.{code_below}

-- of two codes, the ones of the smaller are those that they share
pub shared : (a b : ℕ) → a ≤ b → bit_and (code a) (code b) ≡ code a
unfolding code
shared a b l = and_mask (2 ^ a - 1) b ∙ mod-eq_of_lt (omega (arith, pow_mono l, pow_pos a))

-- and the ones of the larger are all that they have
pub larger : (a b : ℕ) → a ≤ b → bit_or (code a) (code b) ≡ code b
larger a b l = omega (arith, or_add_and (code a) (code b), shared a b l)

over : (a b : ℕ) → bit_or (code a) (code b) ≡ code (max a b)
over a b =
    ListsLaws.split (leb a b)
    (λ t. let l = leb-true a b t in larger a b l ∙ ap code (omega arith))
    (λ f. let l = leb-false a b f in rw or_comm (larger b a (omega arith) ∙ ap code (omega arith)))

-- codes of whole sums, one over the other: the code of a count that is above m exactly if one of those adders, each for m, cut
-- something off
pub record Reach (m : ℕ) (cut : Bool) (reach : ℕ) : Type 0 where
  largest : ℕ
  is : reach ≡ code largest
  passes : ltb m largest ≡ cut

-- of no adder
pub reach_none : (m : ℕ) → Reach m false 0
unfolding code
reach_none m = record { largest = 0; is = refl; passes = le-ltb m 0 (omega arith) }

-- of one more
pub reach_more : {m reach whole : ℕ} {cut : Bool} (sum : ℕ) → Reach m cut reach → whole ≡ code sum → Reach m (cut || ltb m sum) (bit_or reach whole)
reach_more {m} {cut = cut} sum r e =
    record {
      largest = max r.largest sum;
      is = rw (e, r.is) (over r.largest sum);
      passes = either ∙ ap (λ b. b || ltb m sum) r.passes;
    }
  where
    either : ltb m (max r.largest sum) ≡ (ltb m r.largest || ltb m sum)
    either =
        ListsLaws.split (ltb m r.largest)
        (λ t. rw t (lt-ltb m _ (omega (arith, ltb-true m r.largest t))))
        (λ f.
        rw f
        (ListsLaws.both_ways _ _
        (λ q. lt-ltb m sum (omega (arith, ltb-true m _ q, ltb-false m r.largest f)))
        (λ q. lt-ltb m _ (omega (arith, ltb-true m sum q)))))

-- one comparison with the code of m tells
pub reach_passes : {m reach full : ℕ} {cut : Bool} → Reach m cut reach → full ≡ code m → ltb full reach ≡ cut
reach_passes {m} r e = rw (e, r.is) (code_below m r.largest ∙ r.passes)

-- a count that goes on from t, cut off at m: more than m have been counted exactly if they had before or the adder cuts something off
pub counts_on : (m t k : ℕ) → (ltb m t || ltb m (min m t + k)) ≡ ltb m (t + k)
counts_on m t k =
    ListsLaws.split (ltb m t)
    (λ p. rw p (sym (lt-ltb m (t + k) (omega (arith, ltb-true m t p)))))
    (λ p. let whole : min m t ≡ t = omega (arith, ltb-false m t p) in rw (p, whole))
