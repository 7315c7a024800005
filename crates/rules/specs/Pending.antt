-- The "more waiting" lamp: 02, N5. It is shut like the round-robin rule: the engines go by Laws.
-- Assumes nothing.
use Rattle.std.specs.Prelude.{ℕ, Bool, not, ◌&&◌, List}
use Rattle.std.specs.List.{list_any}
use Rattle.rules.specs.Lists.{range, member}
pub mod Laws
pub mod Known

-- "some asking station was not granted": of n stations, `asks w` says that station w asks, and these are granted
pub more : ℕ → (ℕ → Bool) → List ℕ → Bool
more n asks granted = list_any (λ w. asks w && not (member w granted)) (range 0 n)
