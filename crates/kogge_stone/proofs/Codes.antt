-- The join of two codes by a product, and codes that are joined.
-- Assumes nothing.
use Prim.Native.Nat.{ℕ, ◌+◌, ◌*◌, ◌-◌, ◌^◌, ◌<◌, min}
use mathlib.Core.Path.{◌≡◌, ap, ap₂, ◌∙◌}
use mathlib.Core.Bool.{true}
use mathlib.Core.List.{List}
use native.Mathlib.Omega.{arith}
use native.Mathlib.Nat.{mul-suc}
use lib.Count.{ones}
use lib.Dec.{ltb}
use lib.ListN.{length, get_or, get_or-eq_default}
use lib.Pow.{ones_split, suc_ones}
use borrow.Author.Tests.{ltb-true, ltb-false}
use Rattle.rules.specs.Thermometer.{code, is_code, add}
use Rattle.rules.proofs.Thermometer.Laws.{code_own, code_below, add_is_code, zero_is_code}
use Rattle.rules.specs.Lists.Laws as ListsLaws
use Rattle.rules.specs.KoggeStone.{joined}
use Rattle.rules.proofs.KoggeStone.Laws as KoggeStoneLaws
use Rattle.kogge_stone.specs.Steps.{Codes}

-- left * right + left + right
product : (a b : ℕ) → code a * code b + code a + code b ≡ code (a + b)
unfolding code
product a b = omega (arith, ones_split a b, ap (λ (k : ℕ). (2 ^ a - 1) * k) (suc_ones b), mul-suc (2 ^ a - 1) (2 ^ b - 1))

-- of two codes
pub whole : (left right : ℕ) → left ≡ code (ones left) → right ≡ code (ones right) → left * right + left + right ≡ code (ones left + ones right)
whole left right l r = ap₂ (λ (x y : ℕ). x * y + x + y) l r ∙ product (ones left) (ones right)

-- that, or the code of the picks if it is smaller, is their join
pub joins : (full left right sum : ℕ) → is_code 8 full ≡ true → sum ≡ code (ones left + ones right) → min sum full ≡ add (ones full) left right
unfolding add
joins full left right sum f e =
    let both = ones left + ones right in
    let own = code_own 8 full f in
    ListsLaws.split (ltb both (ones full))
    (λ t.
    let few : min (ones full) both ≡ both = omega (arith, ltb-true both (ones full) t) in
    rw few (omega (arith, e, own, ltb-true (code both) (code (ones full)) (code_below both (ones full) ∙ t))))
    (λ n.
    let many : min (ones full) both ≡ ones full = omega (arith, ltb-false both (ones full) n) in
    rw many (omega (arith, e, own, ltb-false (code both) (code (ones full)) (code_below both (ones full) ∙ n))))

-- joined at a distance codes stay codes
pub joined_codes : (m d : ℕ) (codes : List ℕ) → Codes m codes → Codes m (joined m d codes)
joined_codes m d codes all p l =
    let u : p < length codes = omega (arith, KoggeStoneLaws.joined_length m d codes) in
    ListsLaws.split (ltb p d)
    (λ t. rw (KoggeStoneLaws.joined_near m d codes p u (ltb-true p d t)) (all p u))
    (λ f. rw (KoggeStoneLaws.joined_far m d codes p u (ltb-false p d f)) (add_is_code m (get_or codes (p - d) 0) (get_or codes p 0)))

-- past the last byte a 0 is read, which is a code too
pub every_code : (m : ℕ) (bytes : List ℕ) → Codes m bytes → (q : ℕ) → get_or bytes q 0 ≡ code (ones (get_or bytes q 0))
every_code m bytes all q =
    code_own m _
    (ListsLaws.split (ltb q (length bytes))
    (λ t. all q (ltb-true q (length bytes) t))
    (λ f. rw (get_or-eq_default bytes 0 (ltb-false q (length bytes) f)) (zero_is_code m)))
