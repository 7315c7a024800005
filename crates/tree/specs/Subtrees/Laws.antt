-- The tree follows the round-robin rule: each node's value means what 000's Table 1 says, the descent reaches the first asking
-- station in order, and so the tree grants whom the rule grants. All that is used of the rule are its laws.
-- Promises `below_power`, `table_one`, `first_reached` and `chosen_granted`. The rest are steps of their proofs.
-- Assumes nothing.
use Prim.Native.Nat.{ℕ, zero, suc, ◌+◌, ◌-◌, ◌*◌, ◌^◌, ◌<◌}
use Rattle.std.specs.Prelude.{◌≡◌, refl, true, false, List, [], ◌∷◌, ltb, length, get_or}
use Rattle.std.proofs.Math.Path.{sym, ap}
use Rattle.std.proofs.Common.{◌∙◌, zero-mul, pow_pos}
use Rattle.std.proofs.Math.Bool.{Bool}
use Rattle.std.proofs.Math.Nat.{zero-add}
use native.Mathlib.Omega.{arith}
use borrow.Author.Tests.{ltb-true, ltb-false}
use Rattle.rules.specs.Head.{Head}
use Rattle.std.specs.Prelude.{Some}
use Rattle.rules.specs.Lists.{filter, count, before}
use Rattle.rules.specs.Lists.Laws as ListsLaws
use Rattle.rules.specs.RoundRobin.{start, order, granted}
use Rattle.rules.proofs.RoundRobin.Laws as RoundRobinLaws
use Rattle.rules.specs.Tree.{s0, head_at, leaf, nodes, descend, reached, chosen}
use Rattle.rules.proofs.Tree.Laws as TreeLaws
use Rattle.search.specs.Places.{first}
use Rattle.tree.specs.Subtrees.{subtree}
use Rattle.tree.specs.Subtrees.Laws.Halves.{turn, value_of, reaches, turn_order}
mod Halves

-- a number is below its power of two
pub below_power : (k : ℕ) → k < 2 ^ k
below_power zero = omega arith
below_power (suc k) = omega (arith, below_power k)

-- Table 1 of 000: in a tree of 2^(j + d) stations, the p-th node of level j, which is node 2^j + p, has the 2^d stations from
-- p × 2^d on below it, and its value is the table's for them
pub table_one : (h : Head) (asks : ℕ → Bool) (j d p : ℕ) → p < 2 ^ j
    → get_or (nodes (2 ^ (j + d)) h asks) (2 ^ j + p) 0 ≡ subtree h asks (p * 2 ^ d) (2 ^ d)
table_one h asks j d p l = value_of (2 ^ (j + d)) h asks (pow_pos (j + d)) d j p (p * 2 ^ d) refl l refl

module _ (n k : ℕ) (h : Head) (asks : ℕ → Bool) (power : n ≡ 2 ^ k) (station : start h < n) where
  abbrev r : ℕ
  r = reached n (nodes n h asks)

  reached_is : (w : ℕ) (ws : List ℕ) → filter asks (order n h) ≡ w ∷ ws → r ≡ w
  unfolding reached
  reached_is w ws e =
      let whole : first (turn h asks 0 (2 ^ k)) ≡ Some w = rw (← power) (ap first (turn_order n h asks station ∙ e)) in
      let at : descend n (nodes n h asks) n 1 ≡ n + w =
      reaches n h asks (omega arith) k n 0 0 0 w (rw zero-add power) (omega arith) (sym (zero-mul (2 ^ k))) (omega (arith, below_power k)) whole in
      omega (arith, at)

  -- the descent reaches the first asking station in order, whenever any asks
  pub first_reached : 0 < count asks (order n h) → (r < n) × (asks r ≡ true) × (count asks (before r (order n h)) ≡ 0)
  first_reached any = by (filter asks (order n h)) refl
    where
      by : (ws : List ℕ) → filter asks (order n h) ≡ ws → (r < n) × (asks r ≡ true) × (count asks (before r (order n h)) ≡ 0)
      by [] e = absurd (omega (arith, sym (ListsLaws.length_filter asks (order n h)), ap length e))
      by (w ∷ ws) e =
          let f = ListsLaws.first_left asks (order n h) w ws e in
          (TreeLaws.reached_station n (nodes n h asks) (omega arith), rw (reached_is w ws e) f.0, rw (reached_is w ws e) f.1)

  -- a station reached asks if its node says so
  asks_there : s0 (get_or (nodes n h asks) (n + r) 0) ≡ asks r
  unfolding leaf
  asks_there =
      let at : r < n = TreeLaws.reached_station n (nodes n h asks) (omega arith) in
      ap s0 (TreeLaws.node_leaf n h asks (omega arith) r at) ∙ TreeLaws.s0_value (head_at h r) (asks r)

  -- where nobody asks in the order, no station does
  silent : (w : ℕ) → w < n → count asks (order n h) ≡ 0 → asks w ≡ false
  silent w l none =
      ListsLaws.split (asks w)
      (λ t. absurd (omega (arith, RoundRobinLaws.before_count n h asks w (omega arith) l t)))
      (λ f. f)

  -- so the tree grants whom the round-robin rule grants
  pub chosen_granted : chosen n (nodes n h asks) ≡ granted n 1 h asks
  unfolding chosen
  chosen_granted =
      ListsLaws.split (ltb 0 (count asks (order n h)))
      (λ t.
      let f = first_reached (ltb-true 0 (count asks (order n h)) t) in
      rw (asks_there, f.1) (sym (RoundRobinLaws.granted_one n h asks r (omega arith) f.0 f.1 f.2)))
      (λ f.
      let none : count asks (order n h) ≡ 0 = omega (arith, ltb-false 0 (count asks (order n h)) f) in
      rw (asks_there, silent r (TreeLaws.reached_station n (nodes n h asks) (omega arith)) none)
      (sym (RoundRobinLaws.granted_none n 1 h asks none)))
