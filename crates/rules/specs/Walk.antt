-- A walk along the stations that grants as it goes: m is the pick count, `asks w` says that station w asks, `count` is how many
-- are granted and `final` whom it granted last, if anyone.
-- Assumes nothing.
use Rattle.std.specs.Prelude.{ℕ, suc, ◌+◌, ◌-◌, ◌≤◌, ◌<◌, min, ◌≡◌, Bool, true, cond, ◌&&◌, List, ltb, length, get_or, Option, Some}
use Rattle.rules.specs.Lists as Lists
use Rattle.rules.specs.Lists.{range}

-- how many are granted when a run from one station comes to w, if the picks are not used up
abbrev pub reached : (ℕ → Bool) → ℕ → ℕ → ℕ → ℕ
reached asks from w count = count + Lists.count asks (range from (w - from))

-- a run from one station up to another: the walk and the grant buffer before it, and those after it. `at w` is how many are granted
-- when it comes to station w; what it is past m makes no difference
pub record RanBy (m : ℕ) (asks : ℕ → Bool) (at : ℕ → ℕ) (from to : ℕ) (count₀ : ℕ) (final₀ : Option ℕ) (old : List ℕ) (count : ℕ) (final : Option ℕ) (new : List ℕ) : Type 0 where
  pub counted : count ≡ min m (at to)
  pub here : (w : ℕ) → from ≤ w → w < to → get_or new w 0 ≡ cond (asks w && ltb (at w) m) 1 (get_or old w 0)
  pub below : (w : ℕ) → w < from → get_or new w 0 ≡ get_or old w 0
  pub above : (w : ℕ) → to ≤ w → get_or new w 0 ≡ get_or old w 0
  pub long : length new ≡ length old
  pub none : count ≡ count₀ → final ≡ final₀
  pub some : count₀ < count
      → (z : ℕ) × (final ≡ Some z) × (from ≤ z) × (z < to) × (asks z ≡ true) × (suc (at z) ≡ count)

-- a run that counts the stations which ask
abbrev pub Ran : ℕ → (ℕ → Bool) → ℕ → ℕ → ℕ → Option ℕ → List ℕ → ℕ → Option ℕ → List ℕ → Type 0
Ran m asks from to count₀ = RanBy m asks (λ w. reached asks from w count₀) from to count₀
