-- The first laws of the running code: what is read off the definitions. The module of the same name in proofs has all.
-- Assumes nothing.
use Prim.Native.Nat.{ℕ, zero, suc, ◌+◌, ◌≤◌, ◌<◌}
use Rattle.std.specs.Prelude.{◌≡◌, refl, Bool, length, get_or}
use Rattle.std.proofs.Math.Path.{ap}
use Rattle.std.proofs.Common.{arith, suc-add}
use mathlib.Core.List.{List, [], ◌∷◌, ◌++◌, map}
use Rattle.std.proofs.Math.Nat.{zero-add}
use Rattle.rules.specs.Head.{Head}
use Rattle.rules.specs.RoundRobin.{order}
use Rattle.rules.specs.Thermometer.{add, input, inputs, running, running_codes}

-- it starts from the code that it is given
pub running_first : (m c : ℕ) (xs : List ℕ) → get_or (running m c xs) 0 0 ≡ c
unfolding running
running_first m c [] = refl
running_first m c (x ∷ xs) = refl

-- one adder step takes it past an input
pub running_next : (m c : ℕ) (xs : List ℕ) (k : ℕ) → k < length xs
    → get_or (running m c xs) (suc k) 0 ≡ add m (get_or (running m c xs) k 0) (get_or xs k 0)
unfolding running
running_next m c [] k l = absurd (omega arith)
running_next m c (x ∷ []) zero l = refl
running_next m c (x ∷ (y ∷ xs)) zero l = refl
running_next m c (x ∷ xs) (suc k) l = running_next m (add m c x) xs k (omega arith)

-- behind the first input it goes on from there
pub running_behind : (m c x : ℕ) (xs : List ℕ) (k : ℕ) → get_or (running m c (x ∷ xs)) (suc k) 0 ≡ get_or (running m (add m c x) xs) k 0
unfolding running
running_behind m c x xs k = refl

-- one code more than there are inputs
pub running_length : (m c : ℕ) (xs : List ℕ) → length (running m c xs) ≡ suc (length xs)
unfolding running
running_length m c [] = refl
running_length m c (x ∷ xs) = ap suc (running_length m (add m c x) xs)

-- up to an input it does not go by those after it
pub running_prefix : (m c : ℕ) (xs ys : List ℕ) (k : ℕ) → k ≤ length xs → get_or (running m c (xs ++ ys)) k 0 ≡ get_or (running m c xs) k 0
unfolding running
running_prefix m c [] [] k l = refl
running_prefix m c [] (y ∷ ys) k l = let none : k ≡ 0 = omega arith in rw none refl
running_prefix m c (x ∷ xs) ys zero l = refl
running_prefix m c (x ∷ xs) ys (suc k) l = running_prefix m (add m c x) xs ys k (omega arith)

-- past an input it goes by the code there alone: that is what is carried on
pub running_carried : (m c : ℕ) (xs ys : List ℕ) (k : ℕ)
    → get_or (running m c (xs ++ ys)) (length xs + k) 0 ≡ get_or (running m (get_or (running m c xs) (length xs) 0) ys) k 0
unfolding running
running_carried m c [] ys k = rw (zero-add k)
running_carried m c (x ∷ xs) ys k = rw (suc-add (length xs) k) (running_carried m (add m c x) xs ys k)

-- a cycle's codes are its inputs', from the code of nobody on
pub codes_inputs : (n m : ℕ) (h : Head) (asks : ℕ → Bool) → running_codes n m h asks ≡ running m 0 (inputs n m h asks)
unfolding running_codes
codes_inputs n m h asks = refl

-- a cycle's inputs are those of its stations in turn order
pub inputs_order : (n m : ℕ) (h : Head) (asks : ℕ → Bool) → inputs n m h asks ≡ map (input m asks) (order n h)
unfolding inputs
inputs_order n m h asks = refl
