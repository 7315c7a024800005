-- The first line of an input: 01, "The program `turns`".
-- Assumes nothing.
use Rattle.std.specs.Prelude.{ℕ, suc, ◌+◌, ◌*◌, ◌-◌, Bool, true, cond, ◌&&◌, ◌||◌, List, [], ◌∷◌, eqb, ltb, leb, length, take, drop, get_or, Option, None, Some}
use Rattle.text.specs.Characters.{space, digit}
use Rattle.engines.specs.declared.Engine.TheVariants.{Scan, Tree, Thermometer}
use Rattle.transcript.specs.declared.first_line.Kind.TheVariants.{RoundRobin, TokenBus}
use Rattle.transcript.specs.declared.first_line.Kind.{Kind}
use Rattle.transcript.specs.declared.first_line.FirstLine.{FirstLine}
use Rattle.transcript.specs.Lines.{place}
pub mod Laws

-- "a letter (S scan, T tree, P thermometer, B bus)"
abbrev pub letter : ℕ → Option Kind
letter c =
    cond (eqb c 83) (Some (RoundRobin Scan))
    (cond (eqb c 84) (Some (RoundRobin Tree)) (cond (eqb c 80) (Some (RoundRobin Thermometer)) (cond (eqb c 66) (Some TokenBus) None)))

-- a character that is one of the ten digits
abbrev pub is_digit : ℕ → Bool
is_digit c = leb (digit 0) c && leb c (digit 9)

-- every character is one
abbrev pub all_digits : List ℕ → Bool
all_digits [] = true
all_digits (c ∷ cs) = is_digit c && all_digits cs

-- the value of digits that follow a value
abbrev pub value : ℕ → List ℕ → ℕ
value v [] = v
value v (c ∷ cs) = value (10 * v + (c - digit 0)) cs

-- the most digits of a number: "The program takes four-digit numbers" (02, N4)
abbrev pub max_digits : ℕ
max_digits = 4

-- "numbers have one to" so many "digits and no leading zero except 0 itself"
unfoldable pub well_formed : List ℕ → Bool
well_formed cs =
    leb 1 (length cs) && (leb (length cs) max_digits && ((leb (length cs) 1 || ltb (digit 0) (get_or cs 0 0)) && all_digits cs))

-- the number that such digits are, or none
unfoldable pub read_number : List ℕ → Option ℕ
read_number cs = cond (well_formed cs) (Some (value 0 cs)) None

-- the three together: readable if each of them is
abbrev pub together : Option Kind → Option ℕ → Option ℕ → Option FirstLine
together None n m = None
together (Some kind) None m = None
together (Some kind) (Some n) None = None
together (Some kind) (Some n) (Some m) = Some (record { kind = kind; width = n; picks = m })

-- "Line 1 is a letter .., a space, N, a space, m": N goes up to the second space, and m is all that follows
unfoldable pub first_line : List ℕ → Option FirstLine
first_line line =
    let numbers = drop 2 line in
    let k = place space numbers in
    cond (eqb (get_or line 1 0) space && ltb k (length numbers))
    (together (letter (get_or line 0 0)) (read_number (take k numbers)) (read_number (drop (suc k) numbers)))
    None
