-- What a node's value says of the stations below it: 000, Table 1, as 01, "The tree", states it. A subtree's stations are c
-- stations from a on; `asks w` says that station w asks.
-- Assumes nothing.
use Rattle.std.specs.Prelude.{ℕ, ◌+◌, ◌-◌, ◌*◌, ◌^◌, ◌<◌, ◌≡◌, Bool, true, false, cond, ◌&&◌, List, [], ◌∷◌, ltb, leb, get_or}
use Rattle.rules.specs.Head.{Head}
use Rattle.std.specs.Prelude.{None, Some}
use Rattle.rules.specs.Lists.{range, filter, count, before}
use Rattle.rules.specs.RoundRobin.{start, order, granted}
use Rattle.rules.specs.Tree.{value, nodes, reached, chosen}
pub mod Laws

-- S1: "the head is in it"
abbrev pub inside : Head → ℕ → ℕ → Bool
inside None a c = false
inside (Some h) a c = leb a h && ltb h (a + c)

-- the first of its stations that counts: "only stations at or after the head if the head is inside"
abbrev pub from : Head → ℕ → ℕ → ℕ
from None a c = a
from (Some h) a c = cond (inside (Some h) a c) h a

-- there is one
abbrev pub some : List ℕ → Bool
some [] = false
some (x ∷ xs) = true

-- S0: "some station in it asks", of those that count
abbrev pub asked : Head → (ℕ → Bool) → ℕ → ℕ → Bool
asked h asks a c = some (filter asks (range (from h a c) (a + c - from h a c)))

-- the value that the subtree's node has by the table
abbrev pub subtree : Head → (ℕ → Bool) → ℕ → ℕ → ℕ
subtree h asks a c = value (inside h a c) (asked h asks a c)

-- each node has the table's value: in a tree of 2^(j + d) stations the p-th node of level j, which is node 2^j + p, has the 2^d stations
-- from p × 2^d on below it
abbrev pub TableOne : Type 0
TableOne =
    (h : Head) (asks : ℕ → Bool) (j d p : ℕ) → p < 2 ^ j
    → get_or (nodes (2 ^ (j + d)) h asks) (2 ^ j + p) 0 ≡ subtree h asks (p * 2 ^ d) (2 ^ d)

-- the descent reaches the first asking station in order, whenever any asks
abbrev pub FirstReached : Type 0
FirstReached =
    (n k : ℕ) (h : Head) (asks : ℕ → Bool) → n ≡ 2 ^ k → start h < n → 0 < count asks (order n h)
    → let r = reached n (nodes n h asks) in (r < n) × (asks r ≡ true) × (count asks (before r (order n h)) ≡ 0)

-- so the tree grants whom the round-robin rule grants
abbrev pub ChosenGranted : Type 0
ChosenGranted =
    (n k : ℕ) (h : Head) (asks : ℕ → Bool) → n ≡ 2 ^ k → start h < n → chosen n (nodes n h asks) ≡ granted n 1 h asks
