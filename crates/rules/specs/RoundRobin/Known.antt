-- 01, "Known turns": the twelve starred entries, as one list, and the claim that the rules give every one of them.
-- Assumes nothing.
use Rattle.std.specs.Prelude.{ℕ, Bool, true, ◌&&◌, List, [], ◌∷◌, ◌≡◌, refl, eqb, length}
use Rattle.std.specs.List.{list_all}
use Rattle.rules.specs.Head.{Head}
use Rattle.std.specs.Prelude.{None, Some}
use Rattle.rules.specs.Lists.{member, same}
use Rattle.rules.specs.RoundRobin.{start, order, granted, after, next}
use Rattle.rules.specs.Tree.{value, s1, s0, head_at, leaf, join, joined, nodes}
use Rattle.rules.specs.Bus as BusRule

-- an entry. A turn: width, pick count, head; who asks; who is granted, in turn order; the next head. The bus: width, pick count,
-- token, acknowledge byte; who asks; who is granted; the next token. The tree: width, head; who asks; the node buffer
pub data Entry : Type 0 where
  turn : ℕ → ℕ → Head → List ℕ → List ℕ → ℕ → Entry
  bus : ℕ → ℕ → ℕ → ℕ → List ℕ → List ℕ → ℕ → Entry
  tree : ℕ → Head → List ℕ → List ℕ → Entry

-- the entries in 01's order
pub starred : List Entry
starred =
    turn 4 1 (Some 2) (0 ∷ 1 ∷ []) (0 ∷ []) 1
    ∷ turn 4 1 (Some 3) (3 ∷ []) (3 ∷ []) 0
    ∷ turn 4 1 (Some 1) [] [] 1
    ∷ turn 4 1 None [] [] 3
    ∷ turn 4 1 None (2 ∷ 3 ∷ []) (2 ∷ []) 3
    ∷ turn 1 1 None [] [] 0
    ∷ turn 4 3 (Some 2) (0 ∷ 2 ∷ []) (2 ∷ 0 ∷ []) 1
    ∷ turn 4 2 (Some 3) (0 ∷ 1 ∷ 2 ∷ 3 ∷ []) (3 ∷ 0 ∷ []) 1
    ∷ turn 4 4 (Some 2) (0 ∷ 1 ∷ 2 ∷ 3 ∷ []) (2 ∷ 3 ∷ 0 ∷ 1 ∷ []) 2
    ∷ bus 4 1 2 1 (0 ∷ 1 ∷ []) (0 ∷ []) 3
    ∷ bus 4 1 2 0 (0 ∷ 1 ∷ []) (0 ∷ []) 2
    ∷ tree 4 (Some 2) (0 ∷ 1 ∷ []) (0 ∷ 2 ∷ 1 ∷ 2 ∷ 1 ∷ 1 ∷ 2 ∷ 0 ∷ [])
    ∷ []

-- the rules give this entry
pub right : Entry → Bool
right (turn n m h asking out to) =
    same (granted n m h (λ w. member w asking)) out && head_at (next n m h (λ w. member w asking)) to
right (bus n m t byte asking out to) =
    eqb m 1
    && same (BusRule.granted n t (λ w. member w asking)) out
    && eqb (BusRule.next n t (BusRule.acknowledged byte) (λ w. member w asking)) to
right (tree n h asking out) = same (nodes n h (λ w. member w asking)) out

-- they give every entry, and there are twelve
pub known : (list_all right starred ≡ true) × (length starred ≡ 12)
unfolding starred right start order granted after next BusRule.granted BusRule.after BusRule.next value s1 s0 head_at leaf join joined nodes
known = (refl, refl)
