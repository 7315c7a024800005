-- The lines of an input.
-- Assumes nothing.
use Rattle.std.specs.Prelude.{ℕ, zero, suc, ◌-◌, cond, List, [], ◌∷◌, eqb, length, take, get_or}
use Rattle.std.specs.Slice.Iter.{split_rest, split_done}
use Rattle.std.specs.declared.slice.Split.{Split}
use Rattle.text.specs.Characters.{line_feed}
pub mod Laws

-- the place of the first b, or the length where there is none
unfoldable pub place : ℕ → List ℕ → ℕ
place b [] = zero
place b (x ∷ xs) = cond (eqb x b) zero (suc (place b xs))

-- one character more at the start of the first piece
abbrev pub on_first : ℕ → List (List ℕ) → List (List ℕ)
on_first x [] = []
on_first x (p ∷ ps) = (x ∷ p) ∷ ps

-- the pieces that the bytes b part: one more than there are b
unfoldable pub split : ℕ → List ℕ → List (List ℕ)
split b [] = [] ∷ []
split b (x ∷ xs) = cond (eqb x b) ([] ∷ split b xs) (on_first x (split b xs))

-- an input without its final line feed, if it has one: "an input that ends in a line feed has no empty line after it"
unfoldable pub unended : List ℕ → List ℕ
unended input = cond (eqb (get_or input (length input - 1) 0) line_feed) (take (length input - 1) input) input

-- its lines: "Lines end in a line feed, the last one perhaps not". An input of no bytes counts as one empty line
abbrev pub lines : List ℕ → List (List ℕ)
lines input = split line_feed (unended input)

-- the lines that an iterator over them has left
abbrev pub left : {P : Type 0} → Split ℕ P → List (List ℕ)
left iter = cond (split_done iter) [] (split line_feed (split_rest iter))
