-- The wait rule over cycles of the round-robin rule by themselves, whatever it is that asks. Each cycle has a pick count of its own.
-- n is the width; h is the head that a cycle gets.
-- Assumes nothing.
use Rattle.std.specs.Prelude.{ℕ, ◌+◌, ◌≤◌, ◌<◌, ◌≡◌, Bool, true, false, List, [], ◌∷◌}
use Rattle.rules.specs.Head.{Head}
use Rattle.rules.specs.Lists.{count, member}
use Rattle.rules.specs.RoundRobin as RoundRobinRule
use Rattle.rules.specs.RoundRobin.{start, next}

-- a cycle: its pick count, who asks, and who is granted
pub record RuleCycle : Type 0 where
  pub picks : ℕ
  pub asks : ℕ → Bool
  pub grants : ℕ → Bool

-- it grants those whom the rule grants, and has a pick to give and a head that is none or a station
pub record Ruled (n : ℕ) (h : Head) (c : RuleCycle) : Type 0 where
  pub some : 0 < c.picks
  pub head : start h < n
  pub granted : (w : ℕ) → c.grants w ≡ member w (RoundRobinRule.granted n c.picks h c.asks)

-- the head that it hands on
abbrev pub next_head : ℕ → Head → RuleCycle → Head
next_head n h c = next n c.picks h c.asks

-- a chain from h, a head or whatever else is handed on: each is right for the one that it gets, and hands the next one on
abbrev pub Chain : {H C : Type 0} → (H → C → Type 0) → (H → C → H) → H → List C → Type 0
Chain right hands h [] = Unit {0}
Chain right hands h (c ∷ cs) = right h c × Chain right hands (hands h c) cs

-- cycles that follow one another by the rule
abbrev pub Follows : ℕ → Head → List RuleCycle → Type 0
Follows n h cs = Chain (Ruled n) (next_head n) h cs

-- station w waits: in each of them it asks and is not granted
abbrev pub Waits : ℕ → List RuleCycle → Type 0
Waits w [] = Unit {0}
Waits w (c ∷ cs) = (c.asks w ≡ true) × (c.grants w ≡ false) × Waits w cs

-- the sum of their pick counts
abbrev pub total : List RuleCycle → ℕ
total [] = 0
total (c ∷ cs) = c.picks + total cs

-- what is promised of a wait
pub record BoundedPicks (n : ℕ) (cs : List RuleCycle) : Type 0 where
  pub short : total cs < n
  pub once : (v : ℕ) → count (λ c. c.grants v) cs ≤ 1

-- While a station waits, all that are granted stood before it at the start. So the pick counts add up to less than n, and nobody is
-- granted twice
abbrev pub WaitingCycles : Type 0
WaitingCycles = (n : ℕ) (h : Head) (w : ℕ) (cs : List RuleCycle) → w < n → Follows n h cs → Waits w cs → BoundedPicks n cs
