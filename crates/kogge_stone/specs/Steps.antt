-- What the steps of a cycle promise. The promise of the arbiter's calls is arbiter's Cycle, and that of the network rules'
-- KoggeStone.
-- Assumes nothing.
use Rattle.std.specs.Prelude.{ℕ, ◌+◌, ◌-◌, ◌<◌, ◌≡◌, true, cond, ◌&&◌, List, map, ltb, length, get_or}
use Rattle.rules.specs.Lists.{bit, range}
use Rattle.rules.specs.Thermometer.{is_code}
use Rattle.arbiter.specs.Decisions.{requested}

-- every byte is a code for m
abbrev pub Codes : ℕ → List ℕ → Type 0
Codes m bytes = (p : ℕ) → p < length bytes → is_code m (get_or bytes p 0) ≡ true

-- the position of station w in the order of n stations that starts at `first`
abbrev pub position : ℕ → ℕ → ℕ → ℕ
position n first w = cond (ltb w first) (n - first + w) (w - first)

-- the station at position p
abbrev pub station : ℕ → ℕ → ℕ → ℕ
station n first p = cond (ltb p (n - first)) (first + p) (p - (n - first))

-- station w's grant byte by the count before it, a code: 1 if it asks and the count is below `full`, the code of the picks
abbrev pub grant_of : ℕ → List ℕ → ℕ → ℕ → ℕ
grant_of full requests count w = bit (requested requests w && ltb count full)

-- the grants of a run of stations, of which `counts` has the count before each
unfoldable pub grants_run : ℕ → List ℕ → List ℕ → List ℕ
grants_run full requests counts = map (λ w. grant_of full requests (get_or counts w 0) w) (range 0 (length requests))

-- the grants of all by the counts before the positions
unfoldable pub grants : ℕ → ℕ → List ℕ → List ℕ → List ℕ
grants full first requests counts =
    map (λ w. grant_of full requests (get_or counts (position (length requests) first w) 0) w) (range 0 (length requests))
