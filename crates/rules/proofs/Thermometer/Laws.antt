-- Laws of the thermometer arbiter's rule.
-- Assumes nothing.
use Rattle.std.specs.Prelude.{ℕ, zero, suc, ◌+◌, ◌-◌, ◌^◌, ◌≤◌, ◌<◌, min, ◌≡◌, refl, Bool, true, ◌&&◌, ltb, leb, eqb, length, get_or}
use Rattle.std.proofs.Common.{sym, ap, ◌∙◌, arith, zero-add, add-zero, pow_mono, pow_pos, ext_get_or, leb-true, le-leb, eqb-true, eq-eqb, ltb-true, ltb-false, lt-ltb, le-ltb}
use Rattle.std.specs.Int.Count.{ones, ones-ones}
use Rattle.std.proofs.Math.Pow.{pow-lt}
use Rattle.rules.specs.Head.{Head}
use Rattle.rules.specs.Lists.{bit, count, before}
use Rattle.rules.specs.Lists.Laws as ListsLaws
use Rattle.rules.specs.RoundRobin.{start, order}
use Rattle.rules.specs.RoundRobin as RoundRobinRule
use Rattle.rules.proofs.RoundRobin.Laws as RoundRobinLaws
use Rattle.rules.specs.Thermometer.{code, is_code, add, saturated, grants}

-- a code's ones are its count
pub ones_code : (c : ℕ) → ones (code c) ≡ c
unfolding code
ones_code c = ones-ones c

-- the adder adds counts, up to m
pub add_codes : (m a b : ℕ) → add m (code a) (code b) ≡ code (min m (a + b))
unfolding add
add_codes m a b = rw (ones_code a, ones_code b)

pub ones_add : (m a b : ℕ) → ones (add m a b) ≡ min m (ones a + ones b)
unfolding add
ones_add m a b = ones_code (min m (ones a + ones b))

-- the saturated adder may be regrouped: 02, N1, "for all m". It is so for any three numbers, not only for codes
pub add_regroup : (m a b c : ℕ) → add m (add m a b) c ≡ add m a (add m b c)
unfolding add
add_regroup m a b c = rw (ones_code (min m (ones a + ones b)), ones_code (min m (ones b + ones c))) (ap code (omega arith))

-- nothing counted
pub zero_ones : ones 0 ≡ 0
unfolding ones
zero_ones = refl

pub zero_is_code : (m : ℕ) → is_code m 0 ≡ true
unfolding is_code code ones
zero_is_code m = le-leb 0 m (omega arith)

-- a code for m is the code of its own count
pub code_own : (m byte : ℕ) → is_code m byte ≡ true → byte ≡ code (ones byte)
unfolding is_code
code_own m byte t = eqb-true byte (code (ones byte)) (ListsLaws.both (eqb byte (code (ones byte))) (leb (ones byte) m) t).0

-- and its count is at most m
pub code_few : (m byte : ℕ) → is_code m byte ≡ true → ones byte ≤ m
unfolding is_code
code_few m byte t = leb-true (ones byte) m (ListsLaws.both (eqb byte (code (ones byte))) (leb (ones byte) m) t).1

-- every code of a count up to m is one
pub is_code_lem : (m c : ℕ) → c ≤ m → is_code m (code c) ≡ true
unfolding is_code
is_code_lem m c l = rw (ones_code c, eq-eqb (code c) (code c) refl) (le-leb c m l)

-- the code of a count that is cut off at `most`, which cuts nothing off
module _ (most m full : ℕ) (few : m ≤ most) (is : full ≡ code (min most m)) where
  pub full_code : full ≡ code m
  full_code = is ∙ ap code (omega arith)

  pub full_is_code : is_code most full ≡ true
  full_is_code = rw full_code (is_code_lem most m few)

  pub full_ones : ones full ≡ m
  full_ones = rw full_code (ones_code m)

-- a sum is a code
pub add_is_code : (m a b : ℕ) → is_code m (add m a b) ≡ true
unfolding add
add_is_code m a b = is_code_lem m (min m (ones a + ones b)) (omega arith)

-- a code that is added to nothing stays
pub add_none : (m a : ℕ) → is_code m a ≡ true → add m 0 a ≡ a
unfolding add
add_none m a t = rw zero_ones (ap code (omega (arith, code_few m a t)) ∙ sym (code_own m a t))

-- a request, which is 0 or 1, has as many ones
pub ones_bit : (r : ℕ) → r ≤ 1 → ones r ≡ r
unfolding ones
ones_bit zero u = refl
ones_bit (suc zero) u = refl
ones_bit (suc (suc r)) u = absurd (omega arith)

-- and is the code of a count
pub code_bit : (m r : ℕ) → 1 ≤ m → r ≤ 1 → code (min m (bit (eqb r 1))) ≡ r
unfolding code
code_bit m zero l u = let few : min m 0 ≡ 0 = omega arith in rw few
code_bit m (suc zero) l u = let few : min m 1 ≡ 1 = omega arith in rw few
code_bit m (suc (suc r)) l u = absurd (omega arith)

-- the adder takes a request for its code, whatever m is
pub add_input : (m a r : ℕ) → r ≤ 1 → add m a (code (min m (bit (eqb r 1)))) ≡ add m a r
unfolding add
add_input m a zero u = rw (ones_code (min m 0), zero_ones) (ap code (omega arith))
add_input m a (suc zero) u = rw (ones_code (min m 1), ones_bit 1 (omega arith)) (ap code (omega arith))
add_input m a (suc (suc r)) u = absurd (omega arith)

-- codes are in the order of their counts
pub code_below : (a b : ℕ) → ltb (code a) (code b) ≡ ltb a b
unfolding code
code_below a b =
    ListsLaws.split (ltb a b)
    (λ t. rw t (lt-ltb (2 ^ a - 1) (2 ^ b - 1) (omega (arith, pow-lt (ltb-true a b t), pow_pos a))))
    (λ f. rw f (le-ltb (2 ^ a - 1) (2 ^ b - 1) (omega (arith, pow_mono (ltb-false a b f)))))

-- a saturated count is below m exactly if the count is
below : (m c : ℕ) → ltb (min m c) m ≡ ltb c m
below m c = rw (add-zero (min m c), add-zero c) at (ListsLaws.cut_below m c 0)

-- the saturated counts grant those whom the round-robin rule grants
pub grants_round_robin : (n m : ℕ) (h : Head) (asks : ℕ → Bool) → start h ≤ n → grants n m h asks ≡ RoundRobinRule.grants n m h asks
unfolding grants saturated
grants_round_robin n m h asks l =
    ext_get_or 0 (grants n m h asks) (RoundRobinRule.grants n m h asks) (size ∙ sym (RoundRobinLaws.grants_length n m h asks)) (λ w k. at w (rw size at k))
  where
    size : length (grants n m h asks) ≡ n
    size = ListsLaws.length_table _ 0 n

    at : (w : ℕ) → w < n → get_or (grants n m h asks) w 0 ≡ get_or (RoundRobinRule.grants n m h asks) w 0
    at w k =
        ListsLaws.get_d_table _ 0 n w k
        ∙ rw (zero-add, RoundRobinLaws.grants_member n m h asks w k, RoundRobinLaws.granted_member n m h asks w l k)
        (ap (λ (b : Bool). bit (asks w && b)) (below m (count asks (before w (order n h)))))
