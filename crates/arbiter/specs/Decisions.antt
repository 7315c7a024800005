-- What a cycle by the round-robin rule decides, apart from any state.
-- Assumes nothing.
use Rattle.std.specs.Prelude.{ℕ, ◌+◌, Bool, false, cond, List, [], ltb, length, Option, None, Some}
use Rattle.rules.specs.Head.{Head}
use Rattle.rules.specs.RoundRobin.{granted, after, next}
use Rattle.rules.specs.Pending.{more}
use Rattle.arbiter.specs.declared.Decision.{Decision}
use Rattle.search.specs.Places.{one_at}
pub mod Laws
pub mod OnePick

-- who asks by a buffer's bytes: station w does if its byte is 1
abbrev pub requested : List ℕ → ℕ → Bool
requested bytes w = one_at bytes w

-- how many are granted, the next head, and whether more are pending: some asking station is not granted
abbrev pub decision : ℕ → ℕ → Head → (ℕ → Bool) → Decision
decision n m h asks =
    let gs = granted n m h asks in record { count = length gs; next = next n m h asks; more = more n asks gs }

-- the same told by whom the cycle grants, and whether more are pending
abbrev pub deciding : ℕ → Head → List ℕ → Bool → Decision
deciding n h gs pending = record { count = length gs; next = after n h gs; more = pending }

-- what is decided where nobody is granted and no more are pending: the head is this
abbrev pub headed : Head → Decision
headed h = record { count = 0; next = h; more = false }

-- one past station w of n, and 0 after the last
abbrev pub past : ℕ → ℕ → ℕ
past n w = cond (ltb (w + 1) n) (w + 1) 0

-- the same as deciding, told by how many are granted and whom the cycle grants last; where it grants no one, nobody asks
abbrev pub counted : ℕ → Head → ℕ → Option ℕ → Bool → Decision
counted n h c None pending = deciding n h [] false
counted n h c (Some w) pending = record { count = c; next = Some (past n w); more = pending }
