-- The token bus's rule: 01, "The token bus". t is the token, a station number.
-- Assumes nothing.
use Rattle.std.specs.Prelude.{ℕ, ◌+◌, ◌%◌, Bool, true, false, List, [], ◌∷◌, eqb}
use Rattle.std.specs.Prelude.{Some}
use Rattle.rules.specs.RoundRobin as RoundRobinRule

-- who is granted: the first that asks in turn order "from the token, with one pick"
unfoldable pub granted : ℕ → ℕ → (ℕ → Bool) → List ℕ
granted n t asks = RoundRobinRule.granted n 1 (Some t) asks

-- the grant buffer
unfoldable pub grants : ℕ → ℕ → (ℕ → Bool) → List ℕ
grants n t asks = RoundRobinRule.grants n 1 (Some t) asks

-- an acknowledge byte that acknowledges: "acknowledge is 1"
abbrev pub acknowledged : ℕ → Bool
acknowledged byte = eqb byte 1

-- the token once these are granted: an acknowledged grant moves it one on from where it was, "whoever was granted"; otherwise
-- it stays
unfoldable pub after : ℕ → ℕ → Bool → List ℕ → ℕ
after n t true (g ∷ gs) = (t + 1) % n
after n t true [] = t
after n t false gs = t

-- the next token
unfoldable pub next : ℕ → ℕ → Bool → (ℕ → Bool) → ℕ
next n t ack asks = after n t ack (granted n t asks)
