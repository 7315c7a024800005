-- What is known of numbers as text.
-- Promises `decimal_one`, `decimal_more`, `decimal_few` and `decimal_same`. The rest are steps of their proofs.
-- Assumes nothing.
use Rattle.std.specs.Prelude.{ℕ, zero, suc, ◌/◌, ◌%◌, ◌^◌, ◌≤◌, ◌<◌, ◌≡◌, [], ◌∷◌, ◌++◌, length}
use Rattle.std.proofs.Common.{arith, length-append}
use Rattle.std.proofs.lemmas.Bool.Decides.{nat_tests}
use Rattle.std.proofs.Math.Nat.{pow-succ'}
use Rattle.std.proofs.lemmas.Fmt.{decimal_by_steps}
use Rattle.std.specs.Fmt as Fmt
use Rattle.text.specs.Characters.{digit, digits, decimal}

-- more digits than enough make no difference
enough : (j k n : ℕ) → n < j → n < k → digits j n ≡ digits k n
unfolding digits
enough zero k n l m = absurd (omega arith)
enough (suc j) zero n l m = absurd (omega arith)
enough (suc j) (suc k) n l m = grind (arith, nat_tests, enough j k (n / 10))

pub decimal_one : (n : ℕ) → n < 10 → decimal n ≡ digit (n % 10) ∷ []
unfolding decimal digits
decimal_one n l = grind (arith, nat_tests)

pub decimal_more : (n : ℕ) → 10 ≤ n → decimal n ≡ decimal (n / 10) ++ (digit (n % 10) ∷ [])
unfolding decimal digits
decimal_more n l = grind (arith, nat_tests, enough n (suc (n / 10)) (n / 10))

digits_few : (most k n : ℕ) → n < 10 ^ suc k → length (digits most n) ≤ suc k
unfolding digits
digits_few zero k n l = omega arith
digits_few (suc most) zero n l = grind (arith, nat_tests)
digits_few (suc most) (suc k) n l = grind (arith, nat_tests, digits_few most k (n / 10), pow-succ' 10 (suc k), length-append (digits most (n / 10)) (digit (n % 10) ∷ []))

-- a number below 10 ^ k has at most k digits
pub decimal_few : (k n : ℕ) → n < 10 ^ suc k → length (decimal n) ≤ suc k
unfolding decimal
decimal_few k n l = digits_few (suc n) k n l

-- the library prints the same digits
pub decimal_same : (n : ℕ) → n < 2 ^ 64 → decimal n ≡ Fmt.decimal n
decimal_same n l = decimal_by_steps (λ m ds. decimal m ≡ ds) (λ m s. grind (arith, decimal_one m)) (λ m ds s e. grind (arith, decimal_more m)) n l
