-- Eight numbers that are written one after the other are all of the buffer.
-- Assumes nothing.
use Rattle.std.proofs.Common.{◌≡◌, refl, ℕ, List, [], ◌∷◌, length, set, arith}

pub eight : (out : List ℕ) {a b c d e f g h : ℕ} → length out ≡ 8
    → set (set (set (set (set (set (set (set out 0 a) 1 b) 2 c) 3 d) 4 e) 5 f) 6 g) 7 h ≡ a ∷ b ∷ c ∷ d ∷ e ∷ f ∷ g ∷ h ∷ []
eight (i ∷ j ∷ k ∷ l ∷ m ∷ n ∷ o ∷ p ∷ []) long = refl
eight [] long = absurd (omega arith)
eight (i ∷ []) long = absurd (omega arith)
eight (i ∷ j ∷ []) long = absurd (omega arith)
eight (i ∷ j ∷ k ∷ []) long = absurd (omega arith)
eight (i ∷ j ∷ k ∷ l ∷ []) long = absurd (omega arith)
eight (i ∷ j ∷ k ∷ l ∷ m ∷ []) long = absurd (omega arith)
eight (i ∷ j ∷ k ∷ l ∷ m ∷ n ∷ []) long = absurd (omega arith)
eight (i ∷ j ∷ k ∷ l ∷ m ∷ n ∷ o ∷ []) long = absurd (omega arith)
eight (i ∷ j ∷ k ∷ l ∷ m ∷ n ∷ o ∷ p ∷ q ∷ rest) long = absurd (omega arith)
