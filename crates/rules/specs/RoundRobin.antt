-- The round-robin rule: 01, "The turn rule". It is shut: only the modules below this one see inside, all others go by Laws.
-- n is the width, 01's N; m is the pick count; h is the head; `asks w` says that station w asks.
-- Assumes nothing.
use Rattle.std.specs.Prelude.{ℕ, ◌+◌, ◌-◌, ◌%◌, Bool, List, [], ◌∷◌, ◌++◌, take}
use Rattle.rules.specs.Head.{Head}
use Rattle.std.specs.Prelude.{None, Some}
use Rattle.rules.specs.Lists.{range, filter, marks, last}
pub mod Laws
pub mod Known
pub mod Trees

-- the station that comes first: the head, or 0 where there is none
pub start : Head → ℕ
start None = 0
start (Some h) = h

-- 01's turn order: up from the first station to the last, then from 0 up to the first
pub order : ℕ → Head → List ℕ
order n h = range (start h) (n - start h) ++ range 0 (start h)

-- 01's "first m asking stations in turn order", in that order: all that ask, if they are fewer
pub granted : ℕ → ℕ → Head → (ℕ → Bool) → List ℕ
granted n m h asks = take m (filter asks (order n h))

-- 01's grant buffer: a byte for each station, 1 if it is granted and 0 if not
pub grants : ℕ → ℕ → Head → (ℕ → Bool) → List ℕ
grants n m h asks = marks n (granted n m h asks)

-- 01's next head once these are granted: "one past the one granted last in turn order"; if nobody is, a head stays and none
-- becomes n - 1
pub after : ℕ → Head → List ℕ → Head
after n h (g ∷ gs) = Some ((last g gs + 1) % n)
after n (Some h) [] = Some h
after n None [] = Some (n - 1)

-- 01's next head
pub next : ℕ → ℕ → Head → (ℕ → Bool) → Head
next n m h asks = after n h (granted n m h asks)
