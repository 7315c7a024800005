-- Laws of the tree's rule.
-- Assumes nothing.
use Rattle.std.specs.Prelude.{ℕ, zero, suc, ◌+◌, ◌-◌, ◌*◌, ◌/◌, ◌%◌, ◌≤◌, ◌<◌, ◌≡◌, refl, Bool, true, false, ◌&&◌, ◌||◌, List, [], ◌∷◌, map, eqb, ltb, length}
use Rattle.std.proofs.Common.{sym, ◌∙◌}
use Rattle.std.proofs.Math.Path.{ap}
use Rattle.std.proofs.Math.Bool.{not}
use Rattle.std.proofs.Math.Nat.{zero-add}
use native.Mathlib.Omega.{arith}
use Rattle.std.proofs.Math.ListN.{get_or}
use borrow.Author.Tests.{eqb-true, eqb-false, ltb-true, ltb-false, lt-ltb, le-ltb}
use Rattle.rules.specs.Head.{Head}
use Rattle.std.specs.Prelude.{None}
use Rattle.rules.specs.Lists.{range, filter, member}
use Rattle.rules.specs.Lists.Laws as ListsLaws
use Rattle.rules.specs.Theorems.{NodesHoldTree}
use Rattle.rules.specs.Tree.{value, s1, s0, head_at, leaf, join, joined, nodes, goes_right, child, descend, reached}

-- a value's S1 is the one it was made of
pub s1_value : (a b : Bool) → s1 (value a b) ≡ a
unfolding value s1
s1_value true true = refl
s1_value true false = refl
s1_value false true = refl
s1_value false false = refl

-- and so is its S0
pub s0_value : (a b : Bool) → s0 (value a b) ≡ b
unfolding value s0
s0_value true true = refl
s0_value true false = refl
s0_value false true = refl
s0_value false false = refl

-- a value is one of four
pub value_below : (a b : Bool) → value a b < 4
unfolding value
value_below true true = omega arith
value_below true false = omega arith
value_below false true = omega arith
value_below false false = omega arith

-- with no head no station has S1
pub leaf_none : (asks : ℕ → Bool) (i : ℕ) → s1 (leaf None asks i) ≡ false
unfolding leaf head_at
leaf_none asks i = s1_value false (asks i)

-- of the 16 pairs, numbered 4 × left + right, these choose right
pub right_pairs : filter (λ k. goes_right (k / 4) (k % 4)) (range 0 16) ≡ 0 ∷ 1 ∷ 2 ∷ 3 ∷ 7 ∷ 9 ∷ 11 ∷ 15 ∷ []
unfolding goes_right s0
right_pairs = refl

-- and so a pair chooses right exactly if its number is one of these
pub right_pair : (l r : ℕ) → l < 4 → r < 4 → goes_right l r ≡ member (l * 4 + r) (0 ∷ 1 ∷ 2 ∷ 3 ∷ 7 ∷ 9 ∷ 11 ∷ 15 ∷ [])
right_pair l r a b =
    let k = l * 4 + r in
    let left : k / 4 ≡ l = omega arith in
    let right : k % 4 ≡ r = omega arith in
    sym
    (ap (member k) (sym right_pairs)
    ∙ ListsLaws.member_filter (λ i. goes_right (i / 4) (i % 4)) k (range 0 16)
    ∙ rw (ListsLaws.member_range k 0 16 (omega arith) (omega arith), left, right))

-- byte 0 is 0
joined_zero : (p : ℕ) (rest : List ℕ) → get_or (joined p rest) 0 0 ≡ 0
unfolding joined
joined_zero zero rest = refl
joined_zero (suc p) rest = joined_zero p (join (get_or rest p 0) (get_or rest (suc p) 0) ∷ rest)

-- the joined nodes stand before the rest
joined_rest : (p : ℕ) (rest : List ℕ) (u i : ℕ) → u ≡ suc p + i → get_or (joined p rest) u 0 ≡ get_or rest i 0
unfolding joined
joined_rest zero rest u i e = let at : u ≡ suc i = omega arith in rw at
joined_rest (suc p) rest u i e = joined_rest p (join (get_or rest p 0) (get_or rest (suc p) 0) ∷ rest) u (suc i) (omega arith)

joined_length : (p : ℕ) (rest : List ℕ) → length (joined p rest) ≡ suc p + length rest
unfolding joined
joined_length zero rest = omega arith
joined_length (suc p) rest = omega (arith, joined_length p (join (get_or rest p 0) (get_or rest (suc p) 0) ∷ rest))

joined_node : (p : ℕ) (rest : List ℕ) (u : ℕ) → 1 ≤ u → u ≤ p
    → get_or (joined p rest) u 0 ≡ join (get_or (joined p rest) (2 * u) 0) (get_or (joined p rest) (2 * u + 1) 0)
unfolding joined
joined_node zero rest u l k = absurd (omega arith)
joined_node (suc p) rest u l k =
    let v = join (get_or rest p 0) (get_or rest (suc p) 0) in
    ListsLaws.split (eqb u (suc p))
    (λ t.
    let here : u ≡ suc p = eqb-true u (suc p) t in
    joined_rest p (v ∷ rest) u 0 (omega arith)
    ∙ sym (rw (joined_rest p (v ∷ rest) (2 * u) (suc p) (omega arith), joined_rest p (v ∷ rest) (2 * u + 1) (suc (suc p)) (omega arith))))
    (λ f. joined_node p (v ∷ rest) u l (omega (arith, eqb-false u (suc p) f)))

module _ (n : ℕ) (h : Head) (asks : ℕ → Bool) (some : 1 ≤ n) where
  -- the node buffer has two bytes for each station
  pub nodes_length_lem : length (nodes n h asks) ≡ 2 * n
  unfolding nodes
  nodes_length_lem = omega (arith, joined_length (n - 1) (map (leaf h asks) (range 0 n)), ListsLaws.length_table (leaf h asks) 0 n)

  -- byte 0 is 0
  pub node_zero : get_or (nodes n h asks) 0 0 ≡ 0
  unfolding nodes
  node_zero = joined_zero (n - 1) (map (leaf h asks) (range 0 n))

  -- station i is node n + i
  pub node_leaf : (i : ℕ) → i < n → get_or (nodes n h asks) (n + i) 0 ≡ leaf h asks i
  unfolding nodes
  node_leaf i l =
      joined_rest (n - 1) (map (leaf h asks) (range 0 n)) (n + i) i (omega arith)
      ∙ ListsLaws.get_d_table (leaf h asks) 0 n i l
      ∙ rw zero-add

  -- any other node joins its children
  pub node_joined : (u : ℕ) → 1 ≤ u → u < n
      → get_or (nodes n h asks) u 0 ≡ join (get_or (nodes n h asks) (2 * u) 0) (get_or (nodes n h asks) (2 * u + 1) 0)
  unfolding nodes
  node_joined u l k = joined_node (n - 1) (map (leaf h asks) (range 0 n)) u l (omega arith)

  -- each byte is the value of a node
  pub node_below : (u : ℕ) → u < 2 * n → get_or (nodes n h asks) u 0 < 4
  unfolding leaf join
  node_below u l =
      ListsLaws.split (ltb u n)
      (λ t.
      ListsLaws.split (eqb u 0)
      (λ z. rw (eqb-true u 0 z) (omega (arith, node_zero)))
      (λ z.
      omega (
        arith,
        node_joined u (omega (arith, eqb-false u 0 z)) (ltb-true u n t),
        value_below
            (s1 (get_or (nodes n h asks) (2 * u) 0) || s1 (get_or (nodes n h asks) (2 * u + 1) 0))
            (s0 (get_or (nodes n h asks) (2 * u + 1) 0)
            || s0 (get_or (nodes n h asks) (2 * u) 0) && not (s1 (get_or (nodes n h asks) (2 * u + 1) 0))),
      )))
      (λ f.
      let past : n ≤ u = ltb-false u n f in
      let at : n + (u - n) ≡ u = omega arith in
      let is : get_or (nodes n h asks) u 0 ≡ leaf h asks (u - n) = rw at at (node_leaf (u - n) (omega arith)) in
      omega (arith, is, value_below (head_at h (u - n)) (asks (u - n))))

-- a child's number
pub child_low : (t : List ℕ) (u : ℕ) → 2 * u ≤ child t u
unfolding child
child_low t u = omega arith

child_high : (t : List ℕ) (u : ℕ) → child t u ≤ 2 * u + 1
unfolding child
child_high t u = omega (arith, ListsLaws.bit_le (goes_right (get_or t (2 * u) 0) (get_or t (2 * u + 1) 0)))

-- the descent stops at a station's node
pub descend_stops : (n : ℕ) (t : List ℕ) (k u : ℕ) → n ≤ u → descend n t k u ≡ u
unfolding descend
descend_stops n t zero u l = refl
descend_stops n t (suc k) u l = rw (le-ltb u n l)

-- and goes on to a child from any other
pub descend_steps : (n : ℕ) (t : List ℕ) (k u : ℕ) → u < n → descend n t (suc k) u ≡ descend n t k (child t u)
unfolding descend
descend_steps n t k u l = rw (lt-ltb u n l)

-- u is a node on the way down from the root: `steps` are enough to come from it to a station's node, and that is where the
-- descent ends
pub record OnWay (n : ℕ) (t : List ℕ) (u : ℕ) : Type 0 where
  pub steps : ℕ
  pub enough : n ≤ u + steps
  pub same : descend n t steps u ≡ descend n t n 1
  pub low : 1 ≤ u
  pub high : u < 2 * n

module _ (n : ℕ) (t : List ℕ) where
  -- the root is
  pub way_begins : 1 ≤ n → OnWay n t 1
  way_begins l = record { steps = n; enough = omega arith; same = refl; low = omega arith; high = omega arith }

  -- the child that a node on the way chooses is
  pub way_goes_on : (u : ℕ) → u < n → OnWay n t u → OnWay n t (child t u)
  way_goes_on u l w =
      let left : w.steps ≡ suc (w.steps - 1) = omega (arith, w.enough) in
      record {
        steps = w.steps - 1;
        enough = omega (arith, w.enough, w.low, child_low t u);
        same = sym (descend_steps n t (w.steps - 1) u l) ∙ ap (λ (k : ℕ). descend n t k u) (sym left) ∙ w.same;
        low = omega (arith, w.low, child_low t u);
        high = omega (arith, child_high t u);
      }

  -- at a station's node it ends
  pub way_ends : (u : ℕ) → n ≤ u → OnWay n t u → u - n ≡ reached n t
  unfolding reached
  way_ends u l w = ap (λ (v : ℕ). v - n) (sym (descend_stops n t w.steps u l) ∙ w.same)

  -- so it ends at a station
  lands : (k u : ℕ) → n ≤ u + k → OnWay n t u → reached n t < n
  lands zero u l w = omega (arith, way_ends u (omega arith) w, w.high)
  lands (suc k) u l w =
      ListsLaws.split (ltb u n)
      (λ q. lands k (child t u) (omega (arith, w.low, child_low t u)) (way_goes_on u (ltb-true u n q) w))
      (λ q. omega (arith, way_ends u (ltb-false u n q) w, ltb-false u n q, w.high))

  pub reached_station : 1 ≤ n → reached n t < n
  reached_station l = lands n 1 (omega arith) (way_begins l)

-- so the node buffer holds the tree
pub nodes_hold_tree : NodesHoldTree
nodes_hold_tree n h asks some =
    record {
      bytes = nodes_length_lem n h asks some;
      zero_byte = node_zero n h asks some;
      stations = node_leaf n h asks some;
      joined = node_joined n h asks some;
    }
