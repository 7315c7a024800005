-- What a run of the walk promises. The promise of the arbiter's calls is arbiter's Cycle.
-- Assumes nothing.
use Rattle.std.specs.Prelude.{ℕ, ◌+◌, ◌-◌, ◌≤◌, ◌≡◌, false, ◌||◌, List, map, ltb, get_or, None}
use Rattle.std.specs.Int.Count.{ones}
use Rattle.rules.specs.Head.{Head}
use Rattle.rules.specs.Lists.{range}
use Rattle.rules.specs.RoundRobin.{start}
use Rattle.rules.specs.Thermometer.{input, running, running_codes}
use Rattle.rules.specs.Walk as Walks
use Rattle.rules.specs.Walk.{reached}
use Rattle.arbiter.specs.Decisions.{requested}
use Rattle.thermometer.specs.declared.Walk.{Walk}

-- no walk yet
abbrev pub begun : Walk
begun = record { code = 0; last = None; more = false }

-- the requests of so many stations from one on, as codes
abbrev pub asked : ℕ → List ℕ → ℕ → ℕ → List ℕ
asked m requests from many = map (input m (requested requests)) (range from many)

-- the running code (02, N3) of a run with m picks from one station up to another, to which the walk comes with code c: before
-- station w of the run, and past its last station where w is `to`
abbrev pub code_at : ℕ → List ℕ → ℕ → ℕ → ℕ → ℕ → ℕ
code_at m requests from to c w = get_or (running m c (asked m requests from (to - from))) (w - from) 0

-- such a run: the walk and the grant buffer before it, and those after it. It starts from the code that is handed to it, whatever was
-- counted before; each of its stations is judged by the running code before it; it hands on the one past its last station; and it
-- says whether it counted on to more than m, or what was handed to it says so (02, N5)
pub record Ran (m : ℕ) (requests : List ℕ) (from to : ℕ) (walk : Walk) (old : List ℕ) (now : Walk) (new : List ℕ) : Type 0 where
  pub carried : now.code ≡ code_at m requests from to walk.code to
  pub ran : Walks.RanBy m (requested requests) (λ w. ones (code_at m requests from to walk.code w)) from to
      (ones walk.code) walk.last old (ones now.code) now.last new
  pub more : now.more ≡ (walk.more || ltb m (reached (requested requests) from to (ones walk.code)))

-- a walk from the first station on: before station w its code is the cycle's running code at the position of w, and past the last where
-- no station is left
abbrev pub CarriedHigh : Type 0
CarriedHigh =
    (n m : ℕ) (h : Head) (requests old new : List ℕ) (now : Walk) (w : ℕ) → start h ≤ w → w ≤ n
    → Ran m requests (start h) w begun old now new
    → now.code ≡ get_or (running_codes n m h (requested requests)) (w - start h) 0

-- the same of a walk that goes on from 0: `half` is how far it has come at the last station
abbrev pub CarriedLow : Type 0
CarriedLow =
    (n m : ℕ) (h : Head) (requests old mid new : List ℕ) (half now : Walk) (w : ℕ) → w ≤ start h
    → Ran m requests (start h) n begun old half mid
    → Ran m requests 0 w half mid now new
    → now.code ≡ get_or (running_codes n m h (requested requests)) (n - start h + w) 0
