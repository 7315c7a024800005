-- A search among the stations below a limit: whom it finds asks, and whom it passes does not.
-- Assumes nothing.
use Prim.Native.Nat.{ℕ, ◌≤◌, ◌<◌}
use mathlib.Core.Path.{◌≡◌, sym, ap, ◌∙◌}
use mathlib.Core.Bool.{true, false}
use mathlib.Core.List.{List}
use native.Mathlib.Omega.{arith}
use lib.Dec.{eqb}
use lib.ListN.{length, take}
use lib.Seq.{length-take-le, get_or-take}
use Rattle.std.specs.Prelude.{Option, None, Some}
use Rattle.arbiter.specs.Decisions.{requested}
use Rattle.search.specs.Places.{ones, first}
use Rattle.search.specs.Places.Laws as PlacesLaws

module _ (requests : List ℕ) (from to : ℕ) (room : to ≤ length requests) where
  -- a byte below the limit is the buffer's
  below : (w : ℕ) → w < to → requested (take to requests) w ≡ requested requests w
  below w l = ap (λ (b : ℕ). eqb b 1) (get_or-take to requests w 0 l)

  long : length (take to requests) ≡ to
  long = length-take-le to requests room

  -- the station found
  pub record Found (w : ℕ) : Type 0 where
    pub low : from ≤ w
    pub high : w < to
    pub asks : requested requests w ≡ true
    pub earlier : (k : ℕ) → from ≤ k → k < w → requested requests k ≡ false

  pub found : (w : ℕ) → first (ones from (take to requests)) ≡ Some w → Found w
  found w e =
      let r = PlacesLaws.found (λ b. eqb b 1) from w (take to requests) e in
      let high : w < to = omega (arith, r.high, long) in
      record {
        low = r.low;
        high = high;
        asks = sym (below w high) ∙ r.passes;
        earlier = λ k l u. sym (below k (omega arith)) ∙ r.free.at k l u;
      }

  -- nobody found
  pub nobody : first (ones from (take to requests)) ≡ None → (k : ℕ) → from ≤ k → k < to → requested requests k ≡ false
  nobody e k l u =
      let free = PlacesLaws.free_of {test = λ b. eqb b 1} {from = from} {bytes = take to requests} (PlacesLaws.first_none _ e) in
      sym (below k u) ∙ free.at k l (omega (arith, long))

-- the station found is below the limit
pub found_high : (requests : List ℕ) (from to : ℕ) {w : ℕ} {r : Option ℕ} → r ≡ first (ones from (take to requests)) → r ≡ Some w
    → to ≤ length requests → w < to
found_high requests from to {w} e f room = (found requests from to room w (sym e ∙ f)).high
