-- What a first line says, by its parts as `first_line::read` has them.
-- Assumes nothing.
use Rattle.std.proofs.Common.{◌≡◌, ◌∙◌, sym, ℕ, ◌+◌, ◌-◌, List, length, take, drop, get_or, Option, None, Some, arith, take_all, length-drop}
use Rattle.std.specs.Prelude.{position, ◌==◌}
use Rattle.text.specs.Characters.{space}
use Rattle.transcript.specs.FirstLine.{first_line, letter, read_number, together}
use Rattle.transcript.specs.FirstLine.Laws.{first_single, first_opens}

-- what follows the first space, as the code has it
abbrev pub numbers : List ℕ → List ℕ
numbers line = take (length line - 2) (drop 2 line)

whole : (line : List ℕ) → numbers line ≡ drop 2 line
whole line = take_all (length line - 2) (drop 2 line) (omega (arith, length-drop 2 line))

module _ {f : Option ℕ} (line : List ℕ) (spaced : get_or line 1 0 ≡ space) (e : f ≡ position (λ c. c == space) (numbers line)) where
  -- without a second space
  pub single : f ≡ None → first_line line ≡ None
  single n = first_single line spaced (rw (← whole line) (sym e ∙ n))

  -- with one
  pub reads : {end : ℕ} → f ≡ Some end
      → first_line line ≡ together (letter (get_or line 0 0)) (read_number (take end (numbers line))) (read_number (take (length (numbers line) - (end + 1)) (drop (end + 1) (numbers line))))
  reads {end} is =
      let rest = drop (end + 1) (numbers line) in
      let all : take (length (numbers line) - (end + 1)) rest ≡ rest =
      take_all (length (numbers line) - (end + 1)) rest (omega (arith, length-drop (end + 1) (numbers line))) in
      let found : position (λ c. c == space) (drop 2 line) ≡ Some end = rw (← whole line) (sym e ∙ is) in
      rw all (rw (whole line) (first_opens line spaced end found))
