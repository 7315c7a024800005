-- The Kogge-Stone network that counts: 02, N1, after 004. It works on codes, one for each position of the order: position 0 is
-- the first station's. It is shut like the round-robin rule: the engine goes by Laws.
-- Assumes nothing.
use Rattle.std.specs.Prelude.{ℕ, ◌-◌, ◌^◌, Bool, false, cond, ◌||◌, List, [], ◌∷◌, map, ltb, length, get_or}
use Rattle.rules.specs.Head.{Head}
use Rattle.std.specs.List.{list_any}
use Rattle.rules.specs.Lists.{range, filter, before}
use Rattle.rules.specs.RoundRobin.{order}
use Rattle.rules.specs.Thermometer.{add, cuts, inputs}
pub mod Laws
pub mod Known

-- N1's "distances 1, 2, 4 and so on until N is reached": the powers of two below n
pub distances : ℕ → List ℕ
distances n = filter (λ d. ltb d n) (map (λ k. 2 ^ k) (range 0 n))

-- the codes "joined at" a distance: the saturated adder joins each code to that of the position so far before it. A position that
-- has none so far before it keeps its code
pub joined : ℕ → ℕ → List ℕ → List ℕ
joined m d codes =
    map (λ p. cond (ltb p d) (get_or codes p 0) (add m (get_or codes (p - d) 0) (get_or codes p 0))) (range 0 (length codes))

-- at one distance after the other
pub levels : ℕ → List ℕ → List ℕ → List ℕ
levels m [] codes = codes
levels m (d ∷ ds) codes = levels m ds (joined m d codes)

-- what comes out of the requests as codes, N1's "over turn order": for each position the code of how many ask up to it, its own
-- station included
pub network : ℕ → ℕ → Head → (ℕ → Bool) → List ℕ
network n m h asks = levels m (distances n) (inputs n m h asks)

-- whether an adder of a joining cuts anything off (02, N5)
pub joined_cuts : ℕ → ℕ → List ℕ → Bool
joined_cuts m d codes = list_any (λ p. cuts m (get_or codes (p - d) 0) (get_or codes p 0)) (range d (length codes - d))

-- at one distance or another
pub levels_cut : ℕ → List ℕ → List ℕ → Bool
levels_cut m [] codes = false
levels_cut m (d ∷ ds) codes = joined_cuts m d codes || levels_cut m ds (joined m d codes)

-- whether any adder of the network does
pub network_cuts : ℕ → ℕ → Head → (ℕ → Bool) → Bool
network_cuts n m h asks = levels_cut m (distances n) (inputs n m h asks)

-- the counts before the positions, as codes, and one past the last: nobody before the first, and before every other what comes out at
-- the position before it. So there are N + 1
pub counts : ℕ → ℕ → Head → (ℕ → Bool) → List ℕ
counts n m h asks = 0 ∷ network n m h asks

-- the network's count before station w, as a code: that of its position, which is how many stand before it
pub count_before : ℕ → ℕ → Head → (ℕ → Bool) → ℕ → ℕ
count_before n m h asks w = get_or (counts n m h asks) (length (before w (order n h))) 0
