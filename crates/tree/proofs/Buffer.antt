-- The node buffer, byte by byte: the stations' nodes are written, then the others are joined, level by level.
-- Assumes nothing.
use Prim.Native.Nat.{ℕ, zero, suc, ◌+◌, ◌-◌, ◌*◌, ◌≤◌, ◌<◌}
use mathlib.Core.Path.{◌≡◌, refl, sym, ap, ◌∙◌}
use mathlib.Core.Bool.{Bool}
use mathlib.Core.List.{List, map}
use native.Mathlib.Nat.{zero-add, add-zero}
use native.Mathlib.Omega.{arith}
use lib.Dec.{eqb, ltb}
use lib.ListN.{length, get_or, set, take, drop, length-drop, length-set}
use lib.Seq.{length-take-le, get_or-set_same, get_or-set_other, get_or-drop, drop-cons, drop-drop, drop-set-lt, set_split, ext_get_or}
use borrow.Author.Count.{below_more}
use borrow.Author.Tests.{eqb-true, eqb-false, ltb-true, ltb-false}
use Rattle.std.proofs.Common.{[], ◌++◌, append-nil}
use Rattle.std.proofs.lemmas.List.{drop_at, drop_all}
use borrow.Rule.Slice.PartMut.{put_mid}
use Rattle.rules.specs.Head.{Head}
use Rattle.std.specs.Prelude.{None, Some}
use Rattle.rules.specs.Lists.{bit, range}
use Rattle.rules.specs.Lists.Laws as ListsLaws
use Rattle.rules.specs.Tree.{value, head_at, leaf, join, joined}
use Rattle.rules.proofs.Tree.Laws.{value_below}
use Rattle.arbiter.specs.Decisions.{requested}
use Rattle.search.specs.Places.{Bits}
use Rattle.tree.specs.Steps.{ValuesFrom, Level, DoneFrom}

-- bytes that hold what f says, each at its place
leaves : (f : ℕ → ℕ) (xs : List ℕ) → ((j : ℕ) → j < length xs → get_or xs j 0 ≡ f j) → xs ≡ map f (range 0 (length xs))
leaves f xs at =
    ext_get_or 0 xs (map f (range 0 (length xs))) (sym (ListsLaws.length_table f 0 (length xs)))
    (λ j l. at j l ∙ sym (ListsLaws.get_d_table f 0 (length xs) j l ∙ rw zero-add))

-- the stations' nodes hold the requests, and then the head is marked
module _ (xs : List ℕ) (bits : Bits xs) where
  -- a station's value is its request, and 2 more for the head
  leaf_value : (h : Head) (i : ℕ) → i < length xs → leaf h (requested xs) i ≡ 2 * bit (head_at h i) + get_or xs i 0
  unfolding leaf value
  leaf_value h i l =
      ListsLaws.split (eqb (get_or xs i 0) 1)
      (λ q. rw q (omega (arith, eqb-true (get_or xs i 0) 1 q)))
      (λ q. rw q (omega (arith, eqb-false (get_or xs i 0) 1 q, bits i l)))

  -- with no head they stay
  pub marked_none : xs ≡ map (leaf None (requested xs)) (range 0 (length xs))
  unfolding head_at
  marked_none = leaves (leaf None (requested xs)) xs (λ j l. omega (arith, leaf_value None j l))

  -- with the head at h, its byte is 2 more
  pub marked_at : (h : ℕ) → set xs h (get_or xs h 0 + 2) ≡ map (leaf (Some h) (requested xs)) (range 0 (length xs))
  unfolding head_at
  marked_at h =
      let v = get_or xs h 0 + 2 in
      rw (length-set xs h v) at
      (leaves (leaf (Some h) (requested xs)) (set xs h v)
      (λ j l.
      let here : j < length xs = omega (arith, length-set xs h v) in
      ListsLaws.split (eqb h j)
      (λ q.
      let same : j ≡ h = omega (arith, eqb-true h j q) in
      ap (λ (i : ℕ). get_or (set xs h v) i 0) same
      ∙ get_or-set_same xs h v 0 (omega arith)
      ∙ omega (arith, leaf_value (Some h) j here, ap bit q, ap (λ (i : ℕ). get_or xs i 0) same))
      (λ q.
      get_or-set_other xs h j v 0 (λ p. eqb-false h j q (omega arith))
      ∙ omega (arith, leaf_value (Some h) j here, ap bit q))))

-- the stations' nodes are the second half of the buffer
pub written : (f : ℕ → ℕ) (n : ℕ) (t xs : List ℕ) → length t ≡ 2 * n → xs ≡ map f (range 0 n)
    → drop n (put_mid n (length t - n) t xs) ≡ map f (range 0 n)
written f n t xs long is =
    let none : drop (length t - n) (drop n t) ≡ [] = drop_all (length t - n) (drop n t) (omega (arith, length-drop n t)) in
    drop_at (take n t) (xs ++ drop (length t - n) (drop n t)) n (length-take-le n t (omega arith))
    ∙ ap (λ (ys : List ℕ). xs ++ ys) none
    ∙ append-nil xs
    ∙ is

-- a station's byte is a node's value
pub leaves_low : (n : ℕ) (h : Head) (asks : ℕ → Bool) (t : List ℕ) → drop n t ≡ map (leaf h asks) (range 0 n) → ValuesFrom n n t
unfolding leaf
leaves_low n h asks t e u l k =
    let at : n + (u - n) ≡ u = omega arith in
    let here : get_or t u 0 ≡ leaf h asks (u - n) =
    rw at at (sym (get_or-drop n t (u - n) 0))
    ∙ ap (λ (xs : List ℕ). get_or xs (u - n) 0) e
    ∙ ListsLaws.get_d_table (leaf h asks) 0 n (u - n) (omega arith)
    ∙ rw zero-add in
    omega (arith, here, value_below (head_at h (u - n)) (asks (u - n)))

-- and so is a join
join_below : (l r : ℕ) → join l r < 4
unfolding join
join_below l r = value_below _ _

-- what holds from `from` up to u, and of u, holds up to u + 1
more : (P : ℕ → Type 0) (from u : ℕ) → ((x : ℕ) → from ≤ x → x < u → P x) → P u → (x : ℕ) → from ≤ x → x < u + 1 → P x
more P from u each here x h k = below_more (λ y. from ≤ y → P y) u (λ y k h. each y h k) (λ h. here) x k h

-- a level begins with none of its nodes joined
pub level_none : (from : ℕ) (t : List ℕ) → Level from from t t
level_none from t = record { joins = λ u l h. absurd (omega arith); rest = refl }

-- one more node is joined
pub level_more : (from u v : ℕ) (t s : List ℕ) → u < length s → v ≡ join (get_or t (2 * u) 0) (get_or t (2 * u + 1) 0)
    → Level from u t s → Level from (u + 1) t (set s u v)
level_more from u v t s l e d =
    record {
      joins = more _ from u
          (λ x h k. get_or-set_other s u x v 0 (λ p. omega arith) ∙ d.joins x h k)
          (get_or-set_same s u v 0 l ∙ e);
      rest = drop-set-lt (u + 1) s u v (omega arith) ∙ sym (drop-drop 1 u s) ∙ ap (drop 1) d.rest ∙ drop-drop 1 u t;
    }

-- node q + 1 joins its children, and the rest is the nodes behind it
joined_step : (t : List ℕ) (q : ℕ) → suc q < length t → get_or t (suc q) 0 ≡ join (get_or t (2 * suc q) 0) (get_or t (2 * suc q + 1) 0)
    → joined q (drop (suc q) t) ≡ joined (suc q) (drop (suc (suc q)) t)
unfolding joined
joined_step t q l e =
    let left : suc (suc q) + q ≡ 2 * suc q = omega arith in
    let right : suc (suc q) + suc q ≡ 2 * suc q + 1 = omega arith in
    ap (joined q) (drop-cons t (suc q) 0 l)
    ∙ rw (e, get_or-drop (suc (suc q)) t q 0, get_or-drop (suc (suc q)) t (suc q) 0, left, right)

-- and so do all of a run of nodes
joined_run : (t : List ℕ) (q k : ℕ) → suc q + k ≤ length t
    → ((u : ℕ) → suc q ≤ u → u < suc q + k → get_or t u 0 ≡ join (get_or t (2 * u) 0) (get_or t (2 * u + 1) 0))
    → joined q (drop (suc q) t) ≡ joined (q + k) (drop (suc q + k) t)
joined_run t q zero l each = rw (add-zero, add-zero)
joined_run t q (suc k) l each =
    let here : suc q + k ≡ q + suc k = omega arith in
    let next : suc (suc q) + k ≡ suc q + suc k = omega arith in
    joined_step t q (omega arith) (each (suc q) (omega arith) (omega arith))
    ∙ (rw (here, next) at (joined_run t (suc q) k (omega arith) (λ u l h. each u (omega arith) (omega arith))))

-- where the joining begins: the tree is what the buffer in hand leads to
pub done_begins : (low n : ℕ) (t : List ℕ) → 1 ≤ low → low ≤ n → ValuesFrom low n t → DoneFrom low n (joined (low - 1) (drop low t)) t
done_begins low n t l u values = record { some = l; most = u; values = values; same = refl }

-- the nodes from `from` up to `to` are joined, whose children all stand behind them: then the buffer is done from `from` on
module _ (from to n : ℕ) (tree t s : List ℕ) (low : 1 ≤ from) (up : from ≤ to) (level : to ≤ 2 * from) (long : length s ≡ 2 * n)
    (l : Level from to t s) (d : DoneFrom to n tree t) where
  -- what is behind them stays
  behind : (u : ℕ) → to ≤ u → get_or s u 0 ≡ get_or t u 0
  behind u h =
      let at : to + (u - to) ≡ u = omega arith in
      rw at at (sym (get_or-drop to s (u - to) 0) ∙ ap (λ (xs : List ℕ). get_or xs (u - to) 0) l.rest ∙ get_or-drop to t (u - to) 0)

  values : ValuesFrom from n s
  values u h k =
      ListsLaws.split (ltb u to)
      (λ q. omega (arith, l.joins u h (ltb-true u to q), join_below (get_or t (2 * u) 0) (get_or t (2 * u + 1) 0)))
      (λ q. let past = ltb-false u to q in omega (arith, behind u past, d.values u past k))

  run : (q : ℕ) → from ≡ suc q → joined (from - 1) (drop from s) ≡ joined (to - 1) (drop to s)
  run q e =
      let first : from - 1 ≡ q = omega arith in
      let end : suc q + (to - from) ≡ to = omega arith in
      let last : q + (to - from) ≡ to - 1 = omega arith in
      rw (first, e)
      (rw (last, end) at
      (joined_run s q (to - from) (omega (arith, d.most))
      (λ u h k.
      l.joins u (omega arith) (omega arith) ∙ rw (behind (2 * u) (omega arith), behind (2 * u + 1) (omega arith)))))

  pub done_level : DoneFrom from n tree s
  done_level =
      record {
        some = low;
        most = omega (arith, d.most);
        values = values;
        same = run (from - 1) (omega arith) ∙ ap (joined (to - 1)) l.rest ∙ d.same;
      }

-- the same for a single node
pub done_node : (u n v : ℕ) (tree t : List ℕ) → 1 < u → length t ≡ 2 * n
    → v ≡ join (get_or t (2 * (u - 1)) 0) (get_or t (2 * (u - 1) + 1) 0) → DoneFrom u n tree t → DoneFrom (u - 1) n tree (set t (u - 1) v)
done_node u n v tree t l long e d =
    let next : u - 1 + 1 ≡ u = omega arith in
    let one = level_more (u - 1) (u - 1) v t t (omega (arith, d.most)) e (level_none (u - 1) t) in
    done_level (u - 1) u n tree t (set t (u - 1) v) (omega arith) (omega arith) (omega arith)
    (length-set t (u - 1) v ∙ long)
    (rw next at one)
    d

-- all are joined, and byte 0 is set
pub joined_all : (t : List ℕ) → 0 < length t → set t 0 0 ≡ joined 0 (drop 1 t)
unfolding joined
joined_all t l = set_split t 0 0 l
