-- The test of question 2.
-- Assumes nothing.
use Prim.Native.Nat.{ℕ, zero, suc, ◌+◌, ◌*◌, ◌/◌, ◌%◌, ◌^◌, ◌≤◌, ◌<◌}
use mathlib.Core.Path.{◌≡◌, sym, ap, ◌∙◌}
use mathlib.Core.Bool.{true, ◌&&◌}
use mathlib.Core.List.{map}
use native.Mathlib.Omega.{arith}
use lib.Count.{ones, ones_step, ones_cat}
use lib.Dec.{eqb, leb}
use lib.Pow.{pow_pos, pow_mono}
use borrow.Author.Tests.{eqb-true, eqb-false, eq-eqb, leb-true, le-leb}
use Rattle.rules.specs.Lists.{range, member}
use Rattle.rules.specs.Lists.Laws as ListsLaws
use Rattle.tree.specs.Subtrees.Laws.{below_power}

-- a number without ones is 0
no_ones : (k n : ℕ) → n < 2 ^ k → ones n ≡ 0 → n ≡ 0
no_ones zero n l e = omega arith
no_ones (suc k) n l e =
    let half : n / 2 ≡ 0 = no_ones k (n / 2) (omega arith) (omega (arith, ones_step n)) in
    omega (arith, ones_step n)

-- a number with a single one is a power of two
one_one : (k n : ℕ) → n < 2 ^ k → ones n ≡ 1 → (j : ℕ) × (n ≡ 2 ^ j)
unfolding ones
one_one zero n l e = let none : n ≡ 0 = omega arith in absurd (omega (arith, rw none at e))
one_one (suc k) n l e =
    ListsLaws.split (eqb (n % 2) 0)
    (λ t.
    let even : n % 2 ≡ 0 = eqb-true (n % 2) 0 t in
    let r = one_one k (n / 2) (omega arith) (omega (arith, ones_step n)) in
    (suc r.0, omega (arith, r.1)))
    (λ f.
    let odd : n % 2 ≡ 1 = omega (arith, eqb-false (n % 2) 0 f) in
    let half : n / 2 ≡ 0 = no_ones k (n / 2) (omega arith) (omega (arith, ones_step n)) in
    (0, omega arith))

-- and the other way round
power_ones : (j : ℕ) → ones (2 ^ j) ≡ 1
unfolding ones
power_ones j =
    let same : 1 * 2 ^ j + 0 ≡ 2 ^ j = omega arith in
    ap ones (sym same) ∙ ones_cat j 1 0 (pow_pos j)

-- 2: a power of two, at least 2, is told by counting ones
pub power_test : (n : ℕ) → (leb 2 n && eqb (ones n) 1) ≡ member n (map (λ k. 2 ^ k) (range 1 n))
power_test n = ListsLaws.both_ways (leb 2 n && eqb (ones n) 1) (member n (map (λ k. 2 ^ k) (range 1 n))) told so
  where
    entry : (j : ℕ) → n ≡ 2 ^ j → 2 ≤ n → member n (map (λ k. 2 ^ k) (range 1 n)) ≡ true
    entry zero e large = absurd (omega arith)
    entry (suc j) e large =
        let below : suc j < 1 + n = omega (arith, below_power (suc j)) in
        ap (λ (x : ℕ). member x (map (λ k. 2 ^ k) (range 1 n))) e ∙ ListsLaws.entry_table (λ k. 2 ^ k) (suc j) 1 n (omega arith) below

    told : (leb 2 n && eqb (ones n) 1) ≡ true → member n (map (λ k. 2 ^ k) (range 1 n)) ≡ true
    told t =
        let b = ListsLaws.both (leb 2 n) (eqb (ones n) 1) t in
        let p = one_one n n (below_power n) (eqb-true (ones n) 1 b.1) in
        entry p.0 p.1 (leb-true 2 n b.0)

    so : member n (map (λ k. 2 ^ k) (range 1 n)) ≡ true → (leb 2 n && eqb (ones n) 1) ≡ true
    so t =
        let r = ListsLaws.table_entry (λ k. 2 ^ k) n 1 n t in
        let large : 2 ≤ n = omega (arith, r.3, pow_mono r.1) in
        rw (le-leb 2 n large, eq-eqb (ones n) 1 (ap ones r.3 ∙ power_ones r.0))
