-- Steps of the laws above: the two halves of a subtree, the value that its node has, and the way down from it.
-- Assumes nothing.
use Prim.Native.Nat.{ℕ, zero, suc, ◌+◌, ◌-◌, ◌*◌, ◌^◌, ◌≤◌, ◌<◌}
use Rattle.std.specs.Prelude.{◌≡◌, refl, true, false, List, [], ◌∷◌, ◌++◌, eqb, ltb, leb, get_or}
use Rattle.std.proofs.Math.Path.{sym, ap}
use Rattle.std.proofs.Common.{◌∙◌, mul-add, add-mul, suc-mul, pow_pos, pow_mono}
use Rattle.std.proofs.Math.Bool.{Bool, cond}
use Rattle.std.proofs.Math.Nat.{mul-one, two-pow-succ}
use native.Mathlib.Omega.{arith}
use borrow.Author.Tests.{eqb-true, eqb-false, ltb-true, ltb-false, lt-ltb, le-ltb, leb-true, le-leb, lt-leb}
use Rattle.rules.specs.Head.{Head}
use Rattle.std.specs.Prelude.{None, Some}
use Rattle.rules.specs.Lists.{bit, range, filter}
use Rattle.rules.specs.Lists.Laws as ListsLaws
use Rattle.rules.specs.RoundRobin.{start, order}
use Rattle.rules.proofs.RoundRobin.Laws as RoundRobinLaws
use Rattle.rules.specs.Tree.{value, s1, s0, head_at, leaf, join, nodes, goes_right, child, descend}
use Rattle.rules.proofs.Tree.Laws as TreeLaws
use Rattle.search.specs.Places.{first}
use Rattle.tree.specs.Subtrees.{inside, from, some, subtree}

-- those that ask of the stations from one up to another
abbrev pub span : (ℕ → Bool) → ℕ → ℕ → List ℕ
span asks a b = filter asks (range a (b - a))

pub span_none : (asks : ℕ → Bool) (a : ℕ) → span asks a a ≡ []
span_none asks a = let none : a - a ≡ 0 = omega arith in rw none

pub span_parts : (asks : ℕ → Bool) (a b c : ℕ) → a ≤ b → b ≤ c → span asks a c ≡ span asks a b ++ span asks b c
span_parts asks a b c l u =
    let sum : c - a ≡ (b - a) + (c - b) = omega arith in
    let at : a + (b - a) ≡ b = omega arith in
    rw (sum, ListsLaws.range_append a (b - a) (c - b), at) (ListsLaws.filter_append asks (range a (b - a)) (range b (c - b)))

-- a subtree's stations that ask: those that count, and the others
abbrev pub high : Head → (ℕ → Bool) → ℕ → ℕ → List ℕ
high h asks a c = span asks (from h a c) (a + c)

abbrev pub low : Head → (ℕ → Bool) → ℕ → ℕ → List ℕ
low h asks a c = span asks a (from h a c)

-- two halves and the whole: the head is in the left half, in the right half, or in neither
pub data Halves (h : Head) (asks : ℕ → Bool) (a c : ℕ) : Type 0 where
  in_left : inside h a c ≡ true → inside h (a + c) c ≡ false → inside h a (c + c) ≡ true
      → high h asks a (c + c) ≡ high h asks a c ++ high h asks (a + c) c → low h asks a (c + c) ≡ low h asks a c
      → low h asks (a + c) c ≡ [] → Halves h asks a c
  in_right : inside h a c ≡ false → inside h (a + c) c ≡ true → inside h a (c + c) ≡ true
      → high h asks a (c + c) ≡ high h asks (a + c) c → low h asks a (c + c) ≡ high h asks a c ++ low h asks (a + c) c
      → low h asks a c ≡ [] → Halves h asks a c
  in_neither : inside h a c ≡ false → inside h (a + c) c ≡ false → inside h a (c + c) ≡ false
      → high h asks a (c + c) ≡ high h asks a c ++ high h asks (a + c) c → low h asks a (c + c) ≡ [] → low h asks a c ≡ []
      → low h asks (a + c) c ≡ [] → Halves h asks a c

-- where a head is
pub is_in : (k a c : ℕ) → a ≤ k → k < a + c → inside (Some k) a c ≡ true
is_in k a c l u = rw (le-leb a k l, lt-ltb k (a + c) u)

pub is_below : (k a c : ℕ) → k < a → inside (Some k) a c ≡ false
is_below k a c l = rw (lt-leb a k l)

pub is_above : (k a c : ℕ) → a ≤ k → a + c ≤ k → inside (Some k) a c ≡ false
is_above k a c l u = rw (le-leb a k l, le-ltb k (a + c) u)

-- no head in the whole
pub neither : (h : Head) (asks : ℕ → Bool) (a c : ℕ) → inside h a c ≡ false → inside h (a + c) c ≡ false → inside h a (c + c) ≡ false
    → from h a c ≡ a → from h (a + c) c ≡ a + c → from h a (c + c) ≡ a → Halves h asks a c
neither h asks a c i j k d e f =
    let all : a + (c + c) ≡ a + c + c = omega arith in
    in_neither i j k
    (rw (d, e, f, all) (span_parts asks a (a + c) (a + c + c) (omega arith) (omega arith)))
    (rw f (span_none asks a))
    (rw d (span_none asks a))
    (rw e (span_none asks (a + c)))

pub halves : (h : Head) (asks : ℕ → Bool) (a c : ℕ) → Halves h asks a c
halves None asks a c = neither None asks a c refl refl refl refl refl refl
halves (Some k) asks a c =
    let all : a + (c + c) ≡ a + c + c = omega arith in
    ListsLaws.split (ltb k a)
    (λ t.
    let l : k < a = ltb-true k a t in
    let i = is_below k a c l in
    let j = is_below k (a + c) c (omega arith) in
    let u = is_below k a (c + c) l in
    neither (Some k) asks a c i j u (rw i) (rw j) (rw u))
    (λ t.
    let l : a ≤ k = ltb-false k a t in
    ListsLaws.split (ltb k (a + c))
    (λ q.
    let m : k < a + c = ltb-true k (a + c) q in
    let i = is_in k a c l m in
    let j = is_below k (a + c) c m in
    let u = is_in k a (c + c) l (omega arith) in
    in_left i j u
    (rw (i, j, u, all) (span_parts asks k (a + c) (a + c + c) (omega arith) (omega arith)))
    (rw (i, u))
    (rw j (span_none asks (a + c))))
    (λ q.
    let m : a + c ≤ k = ltb-false k (a + c) q in
    ListsLaws.split (ltb k (a + c + c))
    (λ r.
    let v : k < a + c + c = ltb-true k (a + c + c) r in
    let i = is_above k a c l m in
    let j = is_in k (a + c) c m v in
    let u = is_in k a (c + c) l (omega arith) in
    in_right i j u
    (rw (j, u, all))
    (rw (i, j, u) (span_parts asks a (a + c) k (omega arith) m))
    (rw i (span_none asks a)))
    (λ r.
    let v : a + c + c ≤ k = ltb-false k (a + c + c) r in
    let i = is_above k a c l m in
    let j = is_above k (a + c) c m v in
    let u = is_above k a (c + c) l (omega arith) in
    neither (Some k) asks a c i j u (rw i) (rw j) (rw u))))

-- joining, by where the head is
pub join_left : (x y : List ℕ) → value true (some (x ++ y)) ≡ join (value true (some x)) (value false (some y))
unfolding value join s1 s0
join_left [] [] = refl
join_left [] (y ∷ ys) = refl
join_left (x ∷ xs) [] = refl
join_left (x ∷ xs) (y ∷ ys) = refl

pub join_right : (x y : List ℕ) → value true (some y) ≡ join (value false (some x)) (value true (some y))
unfolding value join s1 s0
join_right [] [] = refl
join_right [] (y ∷ ys) = refl
join_right (x ∷ xs) [] = refl
join_right (x ∷ xs) (y ∷ ys) = refl

pub join_neither : (x y : List ℕ) → value false (some (x ++ y)) ≡ join (value false (some x)) (value false (some y))
unfolding value join s1 s0
join_neither [] [] = refl
join_neither [] (y ∷ ys) = refl
join_neither (x ∷ xs) [] = refl
join_neither (x ∷ xs) (y ∷ ys) = refl

-- two subtrees side by side are joined to one
pub joins : (h : Head) (asks : ℕ → Bool) (a c : ℕ) → Halves h asks a c
    → subtree h asks a (c + c) ≡ join (subtree h asks a c) (subtree h asks (a + c) c)
joins h asks a c (in_left i j u e f g) = rw (i, j, u, e) (join_left (high h asks a c) (high h asks (a + c) c))
joins h asks a c (in_right i j u e f g) = rw (i, j, u, e) (join_right (high h asks a c) (high h asks (a + c) c))
joins h asks a c (in_neither i j u e f g o) = rw (i, j, u, e) (join_neither (high h asks a c) (high h asks (a + c) c))

-- choosing, by where the head is: the half with the one that comes first
pub lead_left : (x y z : List ℕ)
    → first ((x ++ y) ++ z) ≡ cond (goes_right (value true (some x)) (value false (some y))) (first (y ++ [])) (first (x ++ z))
unfolding value goes_right s0
lead_left [] [] z = refl
lead_left [] (y ∷ ys) z = refl
lead_left (x ∷ xs) [] z = refl
lead_left (x ∷ xs) (y ∷ ys) z = refl

pub lead_right : (x y z : List ℕ)
    → first (y ++ (x ++ z)) ≡ cond (goes_right (value false (some x)) (value true (some y))) (first (y ++ z)) (first (x ++ []))
unfolding value goes_right s0
lead_right [] [] z = refl
lead_right [] (y ∷ ys) z = refl
lead_right (x ∷ xs) [] z = refl
lead_right (x ∷ xs) (y ∷ ys) z = refl

pub lead_neither : (x y : List ℕ)
    → first ((x ++ y) ++ []) ≡ cond (goes_right (value false (some x)) (value false (some y))) (first (y ++ [])) (first (x ++ []))
unfolding value goes_right s0
lead_neither [] [] = refl
lead_neither [] (y ∷ ys) = refl
lead_neither (x ∷ xs) [] = refl
lead_neither (x ∷ xs) (y ∷ ys) = refl

-- a subtree's stations that ask, in order
abbrev pub turn : Head → (ℕ → Bool) → ℕ → ℕ → List ℕ
turn h asks a c = high h asks a c ++ low h asks a c

-- the choice leads to the half with the station that comes first
pub leads : (h : Head) (asks : ℕ → Bool) (a c : ℕ) → Halves h asks a c
    → first (turn h asks a (c + c))
    ≡ cond (goes_right (subtree h asks a c) (subtree h asks (a + c) c)) (first (turn h asks (a + c) c)) (first (turn h asks a c))
leads h asks a c (in_left i j u e f g) = rw (i, j, e, f, g) (lead_left (high h asks a c) (high h asks (a + c) c) (low h asks a c))
leads h asks a c (in_right i j u e f g) = rw (i, j, e, f, g) (lead_right (high h asks a c) (high h asks (a + c) c) (low h asks (a + c) c))
leads h asks a c (in_neither i j u e f g o) = rw (i, j, e, f, g, o) (lead_neither (high h asks a c) (high h asks (a + c) c))

-- one station: the head inside is at it, and it counts
pub from_one : (h : Head) (a : ℕ) → from h a 1 ≡ a
from_one None a = refl
from_one (Some k) a =
    ListsLaws.split (inside (Some k) a 1)
    (λ t.
    let b = ListsLaws.both (leb a k) (ltb k (a + 1)) t in
    rw t (omega (arith, leb-true a k b.0, ltb-true k (a + 1) b.1)))
    (λ f. rw f)

pub inside_one : (h : Head) (a : ℕ) → inside h a 1 ≡ head_at h a
unfolding head_at
inside_one None a = refl
inside_one (Some k) a =
    ListsLaws.split (eqb k a)
    (λ t. let e : k ≡ a = eqb-true k a t in rw t (is_in k a 1 (omega arith) (omega arith)))
    (λ f.
    rw f
    (ListsLaws.split (ltb k a)
    (λ t. is_below k a 1 (ltb-true k a t))
    (λ t. is_above k a 1 (ltb-false k a t) (omega (arith, ltb-false k a t, eqb-false k a f)))))

pub high_one : (h : Head) (asks : ℕ → Bool) (a : ℕ) → high h asks a 1 ≡ cond (asks a) (a ∷ []) []
high_one h asks a = let one : a + 1 - a ≡ 1 = omega arith in rw (from_one h a, one)

pub low_one : (h : Head) (asks : ℕ → Bool) (a : ℕ) → low h asks a 1 ≡ []
low_one h asks a = rw (from_one h a) (span_none asks a)

pub some_one : (b : Bool) (a : ℕ) → b ≡ some (cond b (a ∷ []) [])
some_one true a = refl
some_one false a = refl

-- a station's value is the table's for it alone
pub leaf_subtree : (h : Head) (asks : ℕ → Bool) (a : ℕ) → leaf h asks a ≡ subtree h asks a 1
unfolding leaf
leaf_subtree h asks a = rw (inside_one h a, high_one h asks a, ← some_one (asks a) a)

-- the children's first stations: those of node 2^j + p, with 2^(d+1) stations below it
pub twice : (p d : ℕ) → p * 2 ^ suc d ≡ (p + p) * 2 ^ d
twice p d = ap (λ (k : ℕ). p * k) (two-pow-succ d) ∙ mul-add p (2 ^ d) (2 ^ d) ∙ sym (add-mul p p (2 ^ d))

pub twice_more : (p d a : ℕ) → a ≡ (p + p) * 2 ^ d → a + 2 ^ d ≡ suc (p + p) * 2 ^ d
twice_more p d a e = rw e (sym (suc-mul (p + p) (2 ^ d)))

module _ (n : ℕ) (h : Head) (asks : ℕ → Bool) (stations : 1 ≤ n) where
  abbrev pub t : List ℕ
  t = nodes n h asks

  -- a node that is no station's
  pub inner : (d j p : ℕ) → n ≡ 2 ^ (j + suc d) → p < 2 ^ j → 2 ^ j + p < n
  inner d j p e l = omega (arith, pow_mono {i = suc j} {j = j + suc d} (omega arith))

  pub deeper : (d j : ℕ) → n ≡ 2 ^ (j + suc d) → n ≡ 2 ^ (suc j + d)
  deeper d j e = let same : j + suc d ≡ suc j + d = omega arith in rw same at e

  -- node 2^j + p has the stations from p × 2^d on below it, 2^d of them, and the table's value for them
  pub value_of : (d j p a : ℕ) → n ≡ 2 ^ (j + d) → p < 2 ^ j → a ≡ p * 2 ^ d → get_or t (2 ^ j + p) 0 ≡ subtree h asks a (2 ^ d)
  value_of zero j p a e l b =
      let all : j + 0 ≡ j = omega arith in
      let leaves : n ≡ 2 ^ j = rw all at e in
      let base : a ≡ p = b ∙ mul-one p in
      rw (← leaves, base) (TreeLaws.node_leaf n h asks stations p (omega arith) ∙ leaf_subtree h asks p)
  value_of (suc d) j p a e l b =
      let u = 2 ^ j + p in
      let below : u < n = inner d j p e l in
      let lefts : 2 * u ≡ 2 ^ suc j + (p + p) = omega arith in
      let rights : 2 * u + 1 ≡ 2 ^ suc j + suc (p + p) = omega arith in
      let base : a ≡ (p + p) * 2 ^ d = b ∙ twice p d in
      let left = value_of d (suc j) (p + p) a (deeper d j e) (omega arith) base in
      let right = value_of d (suc j) (suc (p + p)) (a + 2 ^ d) (deeper d j e) (omega arith) (twice_more p d a base) in
      TreeLaws.node_joined n h asks stations u (omega (arith, pow_pos j)) below
      ∙ rw (rights, lefts, left, right, two-pow-succ d) (sym (joins h asks a (2 ^ d) (halves h asks a (2 ^ d))))

  -- the one of a single station
  pub only : (a w : ℕ) → first (turn h asks a 1) ≡ Some w → a ≡ w
  only a w e =
      let one : turn h asks a 1 ≡ cond (asks a) (a ∷ []) [] ++ [] = rw (high_one h asks a, low_one h asks a) in
      let f : first (cond (asks a) (a ∷ []) [] ++ []) ≡ Some w = ap first (sym one) ∙ e in
      ListsLaws.split (asks a)
      (λ p. let g : Some a ≡ Some w = rw p at f in cc)
      (λ p. let g : None ≡ Some w = rw p at f in let z : ◌≡◌ {A = ℕ} 0 1 = cc in absurd (omega arith))

  -- from node 2^j + p the descent reaches the first that asks of the stations below it
  pub reaches : (d k j p a w : ℕ) → n ≡ 2 ^ (j + d) → p < 2 ^ j → a ≡ p * 2 ^ d → d ≤ k → first (turn h asks a (2 ^ d)) ≡ Some w
      → descend n t k (2 ^ j + p) ≡ n + w
  unfolding descend child
  reaches zero k j p a w e l b f first-is =
      let all : j + 0 ≡ j = omega arith in
      let leaves : n ≡ 2 ^ j = rw all at e in
      let base : a ≡ p = b ∙ mul-one p in
      let here : p ≡ w = sym base ∙ only a w first-is in
      rw (← leaves, here) (TreeLaws.descend_stops n t k (n + w) (omega arith))
  reaches (suc d) zero j p a w e l b f first-is = absurd (omega arith)
  reaches (suc d) (suc k) j p a w e l b f first-is =
      let u = 2 ^ j + p in
      let lefts : 2 * u ≡ 2 ^ suc j + (p + p) = omega arith in
      let rights : 2 * u + 1 ≡ 2 ^ suc j + suc (p + p) = omega arith in
      let base : a ≡ (p + p) * 2 ^ d = b ∙ twice p d in
      let more = twice_more p d a base in
      let left = value_of d (suc j) (p + p) a (deeper d j e) (omega arith) base in
      let right = value_of d (suc j) (suc (p + p)) (a + 2 ^ d) (deeper d j e) (omega arith) more in
      let choice : Bool = goes_right (subtree h asks a (2 ^ d)) (subtree h asks (a + 2 ^ d) (2 ^ d)) in
      let to : cond choice (first (turn h asks (a + 2 ^ d) (2 ^ d))) (first (turn h asks a (2 ^ d))) ≡ Some w =
      sym (leads h asks a (2 ^ d) (halves h asks a (2 ^ d))) ∙ (rw (two-pow-succ d) at first-is) in
      rw (lt-ltb u n (inner d j p e l), rights, lefts, left, right)
      (ListsLaws.split choice
      (λ q.
      let there : 2 ^ suc j + (p + p) + bit choice ≡ 2 ^ suc j + suc (p + p) = omega (arith, ap bit q) in
      rw there (reaches d k (suc j) (suc (p + p)) (a + 2 ^ d) w (deeper d j e) (omega arith) more (omega arith) (rw q at to)))
      (λ q.
      let there : 2 ^ suc j + (p + p) + bit choice ≡ 2 ^ suc j + (p + p) = omega (arith, ap bit q) in
      rw there (reaches d k (suc j) (p + p) a w (deeper d j e) (omega arith) base (omega arith) (rw q at to))))

-- the whole tree's stations that ask, in its order, are those in the rule's order
pub from_start : (n : ℕ) (h : Head) → start h < n → from h 0 n ≡ start h
from_start n None l = sym RoundRobinLaws.start_none
from_start n (Some k) l =
    let below : k < n = omega (arith, RoundRobinLaws.start_at k) in
    let is : inside (Some k) 0 n ≡ true = is_in k 0 n (omega arith) (omega arith) in
    rw is (sym (RoundRobinLaws.start_at k))

pub turn_order : (n : ℕ) (h : Head) (asks : ℕ → Bool) → start h < n → turn h asks 0 n ≡ filter asks (order n h)
turn_order n h asks l =
    let s = start h in
    let upper : 0 + n - s ≡ n - s = omega arith in
    let lower : s - 0 ≡ s = omega arith in
    rw (from_start n h l, upper, lower, RoundRobinLaws.order_runs n h) (sym (ListsLaws.filter_append asks (range s (n - s)) (range 0 s)))
