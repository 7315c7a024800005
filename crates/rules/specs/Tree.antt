-- The tree's rule: 01, "The tree".
-- Assumes nothing.
use Rattle.std.specs.Prelude.{ℕ, zero, suc, ◌+◌, ◌-◌, ◌*◌, ◌/◌, ◌%◌, Bool, false, cond, not, ◌&&◌, ◌||◌, List, [], ◌∷◌, map, ltb, eqb, get_or}
use Rattle.rules.specs.Head.{Head}
use Rattle.std.specs.Prelude.{None, Some}
use Rattle.rules.specs.Lists.{bit, range, marks}

-- a node's value, of its two bits S1 and S0
unfoldable pub value : Bool → Bool → ℕ
value a b = 2 * bit a + bit b

-- the S1 of a value
unfoldable pub s1 : ℕ → Bool
s1 v = eqb (v / 2) 1

-- the S0 of a value
unfoldable pub s0 : ℕ → Bool
s0 v = eqb (v % 2) 1

-- the head is at station i
unfoldable pub head_at : Head → ℕ → Bool
head_at None i = false
head_at (Some h) i = eqb h i

-- a station's value: S1 for the head, S0 for its request (000, Table 1)
unfoldable pub leaf : Head → (ℕ → Bool) → ℕ → ℕ
leaf h asks i = value (head_at h i) (asks i)

-- 01's joining of left and right: the left's S0 counts only "where R's S1 is 0"
unfoldable pub join : ℕ → ℕ → ℕ
join l r = value (s1 l || s1 r) (s0 r || s0 l && not (s1 r))

-- the node buffer from its end: `rest` is the nodes from u + 1 on, so node u's children 2u and 2u + 1 stand in it at u - 1
-- and u; nodes u to 1 are joined, and byte 0 is 0
unfoldable pub joined : ℕ → List ℕ → List ℕ
joined zero rest = 0 ∷ rest
joined (suc p) rest = joined p (join (get_or rest p 0) (get_or rest (suc p) 0) ∷ rest)

-- 01's node buffer: byte 0, the joined nodes from the root on, and the stations, "station i is node N + i"
unfoldable pub nodes : ℕ → Head → (ℕ → Bool) → List ℕ
nodes n h asks = joined (n - 1) (map (leaf h asks) (range 0 n))

-- 01's choice at a node, for all pairs of child values (002, equation 13): right, or else left
unfoldable pub goes_right : ℕ → ℕ → Bool
goes_right l r = eqb r 3 || eqb l 0 || not (s0 l) && s0 r

-- the child that node u of the buffer t chooses
unfoldable pub child : List ℕ → ℕ → ℕ
child t u = 2 * u + bit (goes_right (get_or t (2 * u) 0) (get_or t (2 * u + 1) 0))

-- 01's "going down" in the buffer t: from node u to a station's node, in at most k steps
unfoldable pub descend : ℕ → List ℕ → ℕ → ℕ → ℕ
descend n t zero u = u
descend n t (suc k) u = cond (ltb u n) (descend n t k (child t u)) u

-- the station reached from the root: a node's number grows with each step, so n steps are enough
unfoldable pub reached : ℕ → List ℕ → ℕ
reached n t = descend n t n 1 - n

-- whom the tree grants: the station reached, if it asks
unfoldable pub chosen : ℕ → List ℕ → List ℕ
chosen n t = cond (s0 (get_or t (n + reached n t) 0)) (reached n t ∷ []) []

-- the grant buffer: 1 for the station granted
unfoldable pub grants : ℕ → List ℕ → List ℕ
grants n t = marks n (chosen n t)
