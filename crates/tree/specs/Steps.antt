-- What the steps of the tree's cycle promise. The promise of its calls is Calls.
-- Assumes nothing.
use Rattle.std.specs.Prelude.{ℕ, ◌+◌, ◌-◌, ◌*◌, ◌≤◌, ◌<◌, ◌≡◌, List, length, get_or, drop}
use Rattle.rules.specs.Tree as TreeRule
pub mod Laws

-- every byte of a node buffer for n stations is a node's value
abbrev pub Values : ℕ → List ℕ → Type 0
Values n t = (u : ℕ) → u < 2 * n → get_or t u 0 < 4

-- the same of its bytes from node `low` on
abbrev pub ValuesFrom : ℕ → ℕ → List ℕ → Type 0
ValuesFrom low n t = (u : ℕ) → low ≤ u → u < 2 * n → get_or t u 0 < 4

-- the most pairs that are joined at once
abbrev pub max_pairs : ℕ
max_pairs = 128

-- the children of the nodes of t from `from` up to `to`, a pair for each: left + 256 × right
pub record Pairs (from to : ℕ) (t pairs : List ℕ) : Type 0 where
  pub room : length pairs ≡ max_pairs
  pub each : (u : ℕ) → from ≤ u → u < to → get_or pairs (u - from) 0 ≡ get_or t (2 * u) 0 + get_or t (2 * u + 1) 0 * 256

-- the nodes from `from` up to `to` now join the children that they had before, and the nodes behind them stay
pub record Level (from to : ℕ) (before after : List ℕ) : Type 0 where
  pub joins : (u : ℕ) → from ≤ u → u < to → get_or after u 0 ≡ TreeRule.join (get_or before (2 * u) 0) (get_or before (2 * u + 1) 0)
  pub rest : drop to after ≡ drop to before

-- the node buffer t is done from node `low` on: joining the others gives the tree
pub record DoneFrom (low n : ℕ) (tree t : List ℕ) : Type 0 where
  pub some : 1 ≤ low
  pub most : low ≤ n
  pub values : ValuesFrom low n t
  pub same : TreeRule.joined (low - 1) (drop low t) ≡ tree
