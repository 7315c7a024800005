-- The tree's rule held against the round-robin rule on small widths, by computing every case.
-- Assumes nothing.
use Rattle.std.specs.Prelude.{ℕ, ◌+◌, ◌/◌, ◌%◌, ◌^◌, Bool, true, List, ◌∷◌, map, ◌≡◌, refl, eqb, length}
use Rattle.std.specs.List.{list_all}
use Rattle.rules.specs.Head.{Head}
use Rattle.std.specs.Prelude.{None, Some}
use Rattle.rules.specs.Lists.{range, same}
use Rattle.rules.specs.RoundRobin.{start, order, granted}
use Rattle.rules.specs.Tree.{value, s1, s0, head_at, leaf, join, joined, nodes, goes_right, child, descend, reached, chosen}

-- the request set x: station i asks if bit i of x is set
pub asking : ℕ → ℕ → Bool
asking x i = eqb (x / 2 ^ i % 2) 1

-- none, and every station
pub heads : ℕ → List Head
heads n = None ∷ map Some (range 0 n)

-- from head h the tree grants whom the round-robin rule grants, whoever asks
pub agrees : ℕ → Head → Bool
agrees n h = list_all (λ x. same (chosen n (nodes n h (asking x))) (granted n 1 h (asking x))) (range 0 (2 ^ n))

-- of n stations, from none and from every head
abbrev pub Agree : ℕ → Type 0
Agree n = (list_all (agrees n) (heads n) ≡ true) × (length (heads n) ≡ n + 1)

-- so it does with 2 stations, and with 4
pub small_trees : Agree 2 × Agree 4
unfolding asking heads agrees start order granted value s1 s0 head_at leaf join joined nodes goes_right child descend reached chosen
small_trees = ((refl, refl), (refl, refl))
