-- Codes by their bits: which bytes are codes, and the adder's step.
-- Assumes nothing.
use Prim.Native.Nat.{ℕ, zero, suc, ◌+◌, ◌*◌, ◌-◌, ◌^◌, ◌≤◌, ◌<◌, min}
use mathlib.Core.Path.{◌≡◌, refl, sym, ap, ap₂, ◌∙◌}
use mathlib.Core.Bool.{Bool, true, false, cond, not, ◌&&◌}
use mathlib.Core.List.{[]}
use native.Mathlib.Omega.{arith}
use native.Mathlib.Nat.{mul-zero, mul-one, pow-suc}
use native.Mathlib.Numerals.{add-one}
use lib.Bits.{bit_and, bit_or, and_comm, or_zero_r}
use lib.Count.{ones, count_trailing_zeros}
use lib.Dec.{eqb, leb}
use lib.Pow.{pow_pos}
use borrow.Author.Tests.{leb-true, leb-false}
use Rattle.rules.specs.Lists.{range, filter}
use Rattle.rules.specs.Lists.Laws as ListsLaws
use Rattle.rules.specs.Thermometer.{code, is_code, add}
use Rattle.rules.proofs.Thermometer.Cuts.{shared, larger}
use Rattle.rules.proofs.Thermometer.Laws.{code_own, ones_bit}

-- the tests differ on a byte: as many trailing ones as ones, and the code of its ones
abbrev differ : ℕ → Bool
differ byte = cond (eqb (count_trailing_zeros 8 (255 - byte)) (ones byte)) (not (eqb byte (code (ones byte)))) (eqb byte (code (ones byte)))

-- on none of the 256
none_differs : filter differ (range 0 256) ≡ []
unfolding code ones count_trailing_zeros
none_differs = refl

alike : (a b : Bool) → cond a (not b) b ≡ false → a ≡ b
alike true true e = refl
alike true false e = e
alike false true e = sym e
alike false false e = refl

all_alike : (byte : ℕ) → byte < 256 → eqb (count_trailing_zeros 8 (255 - byte)) (ones byte) ≡ eqb byte (code (ones byte))
all_alike byte l = alike _ _ (ListsLaws.none_of differ 0 256 byte none_differs (omega arith) (omega arith))

-- a byte is a code for m if its ones are all trailing and at most m
pub trailing_code : (m byte count : ℕ) → byte < 256 → count ≡ ones byte
    → (eqb (count_trailing_zeros 8 (255 - byte)) count && leb count m) ≡ is_code m byte
unfolding is_code
trailing_code m byte count l e = rw (e, all_alike byte l)

-- the code of one more
next : (c : ℕ) → 2 * code c + 1 ≡ code (c + 1)
unfolding code
next c = omega (arith, pow-suc 2 c, pow_pos c, ap (λ (k : ℕ). 2 ^ k) (add-one c))

-- the whole sum of a count and a request
whole_count : (c r : ℕ) → r ≤ 1 → bit_or (code c) ((2 * code c + 1) * r) ≡ code (c + r)
whole_count c zero u = rw (mul-zero (2 * code c + 1), or_zero_r) (ap code (omega arith))
whole_count c (suc zero) u = rw (mul-one (2 * code c + 1), next c) (larger c (c + 1) (omega arith))
whole_count c (suc (suc r)) u = absurd (omega arith)

-- of a code, that of the picks keeps what they allow
kept : (m k : ℕ) → bit_and (code k) (code m) ≡ code (min m k)
kept m k =
    ListsLaws.split (leb k m)
    (λ t. let few = leb-true k m t in shared k m few ∙ ap code (omega arith))
    (λ f. let many = leb-false k m f in rw and_comm (shared m k (omega arith) ∙ ap code (omega arith)))

-- the adder's step on codes that are bytes
module _ (full byte r : ℕ) (f : is_code 8 full ≡ true) (b : is_code (ones full) byte ≡ true) (u : r ≤ 1) where
  pub step_whole : bit_or byte ((2 * byte + 1) * r) ≡ code (ones byte + ones r)
  step_whole =
      ap (λ (x : ℕ). bit_or x ((2 * x + 1) * r)) (code_own (ones full) byte b)
      ∙ whole_count (ones byte) r u
      ∙ rw (ones_bit r u)

  pub step_adds : bit_and (bit_or byte ((2 * byte + 1) * r)) full ≡ add (ones full) byte r
  unfolding add
  step_adds = ap₂ bit_and step_whole (code_own 8 full f) ∙ kept (ones full) (ones byte + ones r)
