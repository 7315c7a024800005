-- The words on lists and tests in which the rules are written.
-- Assumes nothing.
use Rattle.std.specs.Prelude.{ℕ, zero, suc, ◌+◌, Bool, true, false, cond, ◌&&◌, ◌||◌, List, [], ◌∷◌, map, eqb}
pub mod Laws

-- a test as a wire or a grant byte: 1 or 0
abbrev pub bit : Bool → ℕ
bit true = 1
bit false = 0

-- the numbers from a on, k of them
abbrev pub range : ℕ → ℕ → List ℕ
range a zero = []
range a (suc k) = a ∷ range (suc a) k

-- those that pass the test, in their order
abbrev pub filter : {A : Type 0} → (A → Bool) → List A → List A
filter p [] = []
filter p (x ∷ xs) = cond (p x) (x ∷ filter p xs) (filter p xs)

-- how many pass the test
abbrev pub count : {A : Type 0} → (A → Bool) → List A → ℕ
count p [] = 0
count p (x ∷ xs) = bit (p x) + count p xs

-- w is one of them
abbrev pub member : ℕ → List ℕ → Bool
member w [] = false
member w (x ∷ xs) = eqb w x || member w xs

-- a byte for each number below n, 1 for those in the list
abbrev pub marks : ℕ → List ℕ → List ℕ
marks n xs = map (λ w. bit (member w xs)) (range 0 n)

-- those standing before w: all of them if w is not there
abbrev pub before : ℕ → List ℕ → List ℕ
before w [] = []
before w (x ∷ xs) = cond (eqb w x) [] (x ∷ before w xs)

-- the last of x ∷ xs
abbrev pub last : ℕ → List ℕ → ℕ
last x [] = x
last x (y ∷ ys) = last y ys

-- the same numbers, in the same order
abbrev pub same : List ℕ → List ℕ → Bool
same [] [] = true
same [] (y ∷ ys) = false
same (x ∷ xs) [] = false
same (x ∷ xs) (y ∷ ys) = eqb x y && same xs ys
