-- The thermometer arbiter's rule: 01, "The thermometer arbiter". The inputs and running codes at its end are shut: whoever carries them
-- goes by the laws in Running.
-- Assumes nothing.
use Rattle.std.specs.Prelude.{ℕ, ◌+◌, ◌-◌, ◌^◌, min, Bool, ◌&&◌, List, [], ◌∷◌, map, ltb, leb, eqb}
use Rattle.std.specs.Int.Count.{ones}
use Rattle.rules.specs.Head.{Head}
use Rattle.rules.specs.Lists.{bit, range, count, before}
use Rattle.rules.specs.RoundRobin.{order}
pub mod Running
pub mod Known

-- the thermometer code of a count c: the lowest c bits set
unfoldable pub code : ℕ → ℕ
code c = 2 ^ c - 1

-- the byte is a code for m: the code of its own count, which is "the number of its ones", and that is at most m
unfoldable pub is_code : ℕ → ℕ → Bool
is_code m byte = eqb byte (code (ones byte)) && leb (ones byte) m

-- 01's saturated adder: the counts' sum, or m if that is smaller, as a code
unfoldable pub add : ℕ → ℕ → ℕ → ℕ
add m a b = code (min m (ones a + ones b))

-- 02, N5, "whether it cut anything off": the counts add up to more than m
unfoldable pub cuts : ℕ → ℕ → ℕ → Bool
cuts m a b = ltb m (ones a + ones b)

-- 01's "saturated count" of station w: those that ask before it in turn order, m at the most
unfoldable pub saturated : ℕ → ℕ → Head → (ℕ → Bool) → ℕ → ℕ
saturated n m h asks w = min m (count asks (before w (order n h)))

-- the grant buffer: 1 for a station that asks and whose saturated count is below m
unfoldable pub grants : ℕ → ℕ → Head → (ℕ → Bool) → List ℕ
grants n m h asks = map (λ w. bit (asks w && ltb (saturated n m h asks w) m)) (range 0 n)

-- a station's request as a code: of 1 if it asks, and of 0 if not
abbrev pub input : ℕ → (ℕ → Bool) → ℕ → ℕ
input m asks w = code (min m (bit (asks w)))

-- the requests as codes "along turn order" (02, N3): N1's network and N3's running code both start from these
pub inputs : ℕ → ℕ → Head → (ℕ → Bool) → List ℕ
inputs n m h asks = map (input m asks) (order n h)

-- 02, N3's "one running code", from code c on: "one adder step for each". The list has the code before each input, and the one past
-- the last
pub running : ℕ → ℕ → List ℕ → List ℕ
running m c [] = c ∷ []
running m c (x ∷ xs) = c ∷ running m (add m c x) xs

-- the running codes of a cycle, N + 1 of them: it starts from the code of nobody
pub running_codes : ℕ → ℕ → Head → (ℕ → Bool) → List ℕ
running_codes n m h asks = running m 0 (inputs n m h asks)
