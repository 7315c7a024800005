-- The rules by each station's distance from the start and by counting: whom a cycle grants, the next head, the next token and a
-- tree node's value.
-- Assumes nothing.
use Rattle.std.specs.Prelude.{ℕ, ◌+◌, ◌-◌, Bool, cond, min, max, ◌&&◌, Option, Some, None, unwrap_or, ltb, leb, eqb, get_or, map, filter}
use Rattle.std.specs.List.{range_with_len, reduce}
use Rattle.reference.specs.Count.{tally}
use Rattle.reference.specs.declared.Cycle.{Cycle}
pub mod Laws

-- where the order starts: at the head, or at 0 where there is none
abbrev pub start : Cycle → ℕ
start c = unwrap_or c.head 0

-- the station asks: its byte is 1
unfoldable pub asks : Cycle → ℕ → Bool
asks c w = eqb (get_or c.requests.now w 0) 1

-- a number on the round of n stations, less a whole round where it is that much or more
unfoldable pub wrapped : ℕ → ℕ → ℕ
wrapped n i = cond (ltb i n) i (i - n)

-- how far a station is from the start, going up and round: so far as to the end, and w from there. 0 where either is no station
unfoldable pub distance : Cycle → ℕ → ℕ
distance c w = cond (ltb (start c) c.width && ltb w c.width) (wrapped c.width (c.width - start c + w)) 0

-- the station that is so far from the start, at most a whole round: the start itself where that is no station
unfoldable pub away : Cycle → ℕ → ℕ
away c d = cond (ltb (start c) c.width) (wrapped c.width (start c + d)) (start c)

-- an asking station nearer to the start than w
unfoldable pub before : Cycle → ℕ → ℕ → Bool
before c w v = asks c v && ltb (distance c v) (distance c w)

-- how many those are
unfoldable pub nearer : Cycle → ℕ → ℕ
nearer c w = tally (before c w) 0 c.width

-- w is granted: it is a station and asks, and fewer than the picks are before it
unfoldable pub granted : Cycle → ℕ → Bool
granted c w = ltb (start c) c.width && ltb w c.width && asks c w && ltb (nearer c w) c.picks

-- a station's count: how many are before it, or the picks if these are fewer
unfoldable pub ahead : Cycle → ℕ → ℕ
ahead c w = min c.picks (nearer c w)

-- how many are granted: the picks, or all that ask if these are fewer
unfoldable pub count : Cycle → ℕ
count c = min c.picks (tally (asks c) 0 c.width)

-- more are pending: more ask than are granted
unfoldable pub more : Cycle → Bool
more c = ltb (count c) (tally (asks c) 0 c.width)

-- the farthest distance of a granted station, where there is one
unfoldable pub reach : Cycle → Option ℕ
reach c = reduce max (map (distance c) (filter (granted c) (range_with_len 0 c.width)))

-- where a cycle that grants no one leaves the head: where it was, or at the last station
unfoldable pub idle : Cycle → ℕ
idle c = unwrap_or c.head (c.width - 1)

-- the next head: one past the farthest granted station, or the idle one
unfoldable pub next : Cycle → ℕ
next c = elim (reach c) [ None ↦ idle c | Some far ↦ away c (far + 1) ]

-- the next token: one past the token where someone asks and it is acknowledged
unfoldable pub next_token : Cycle → Bool → ℕ
next_token c acknowledged = cond (ltb 0 (tally (asks c) 0 c.width) && acknowledged) (away c 1) (start c)

-- a count as a bit: 1 if it is not 0
unfoldable pub some : ℕ → ℕ
some k = cond (eqb k 0) 0 1

-- the value of a tree node over the stations from a up to b (000, Table 1), with this head: 2 if the head is among them, and 1 if
-- some station among them asks, where those before the head do not count if it is among them
unfoldable pub valued : (ℕ → Bool) → Option ℕ → ℕ → ℕ → ℕ
valued asking None a b = some (tally asking a (b - a))
valued asking (Some head) a b =
    cond (leb a head && ltb head b) (2 + some (tally asking head (b - head))) (some (tally asking a (b - a)))

unfoldable pub node : Cycle → ℕ → ℕ → ℕ
node c a b = valued (asks c) c.head a b
