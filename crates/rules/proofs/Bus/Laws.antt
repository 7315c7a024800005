-- Laws of the token bus's rule.
-- Assumes nothing.
use Rattle.std.specs.Prelude.{ℕ, ◌+◌, ◌%◌, ◌≤◌, ◌<◌, ◌≡◌, refl, Bool, true, false, ◌&&◌, List, [], ◌∷◌, eqb, length, get_or}
use Rattle.std.proofs.Common.{arith, mod-lt}
use Rattle.std.specs.Prelude.{Some}
use Rattle.std.specs.List.{list_any}
use Rattle.rules.specs.Lists.{bit, range, count, member, marks, before}
use Rattle.rules.specs.RoundRobin.{start, order}
use Rattle.rules.proofs.RoundRobin.Laws as RoundRobinLaws
use Rattle.rules.specs.Pending.{more}
use Rattle.rules.proofs.Pending.Laws as PendingLaws
use Rattle.rules.specs.Bus.{granted, grants, after, next}

-- the token is a head of the order
pub token_head : (n t : ℕ) → t < n → start (Some t) < n
token_head n t token = rw (RoundRobinLaws.start_at t) token

-- somebody is granted if somebody asks
pub granted_some : (n t w : ℕ) (asks : ℕ → Bool) → t < n → w < n → asks w ≡ true → 0 < length (granted n t asks)
unfolding granted
granted_some n t w asks token station asking =
    let head = token_head n t token in
    omega (arith, RoundRobinLaws.granted_length n 1 (Some t) asks, RoundRobinLaws.before_count n (Some t) asks w (omega arith) station asking)

-- with one pick nobody else is
pub granted_few : (n t : ℕ) (asks : ℕ → Bool) → length (granted n t asks) ≤ 1
unfolding granted
granted_few n t asks = omega (arith, RoundRobinLaws.granted_length n 1 (Some t) asks)

-- the grant buffer marks the granted
pub grants_marks : (n t : ℕ) (asks : ℕ → Bool) → grants n t asks ≡ marks n (granted n t asks)
unfolding granted grants
grants_marks n t asks = RoundRobinLaws.grants_marks n 1 (Some t) asks

-- the grant buffer is 1 for the granted, and 0 for the others
pub grants_member : (n t : ℕ) (asks : ℕ → Bool) (w : ℕ) → w < n → get_or (grants n t asks) w 0 ≡ bit (member w (granted n t asks))
unfolding granted grants
grants_member n t asks w station = RoundRobinLaws.grants_member n 1 (Some t) asks w station

-- as many of its bytes are 1 as stations are granted
pub grants_count : (n t : ℕ) (asks : ℕ → Bool) → t < n → count (λ b. eqb b 1) (grants n t asks) ≡ length (granted n t asks)
unfolding granted grants
grants_count n t asks token =
    let head = token_head n t token in RoundRobinLaws.grants_count n 1 (Some t) asks (omega arith)

-- more are pending if somebody asks and has a 0 in it
pub more_told : (n t : ℕ) (asks : ℕ → Bool) → t < n → more n asks (granted n t asks) ≡ list_any (λ w. asks w && eqb (get_or (grants n t asks) w 0) 0) (range 0 n)
unfolding granted grants
more_told n t asks token =
    let head = token_head n t token in PendingLaws.more_told n 1 (Some t) asks (omega (arith, head))

-- the station at the token is granted if it asks
pub grants_token : (n t : ℕ) (asks : ℕ → Bool) → t < n → asks t ≡ true → get_or (grants n t asks) t 0 ≡ 1
unfolding grants
grants_token n t asks token asking =
    let head = token_head n t token in
    let first : before t (order n (Some t)) ≡ [] = rw (RoundRobinLaws.start_at t) at (RoundRobinLaws.before_first n (Some t) head) in
    rw (RoundRobinLaws.grants_member n 1 (Some t) asks t token, RoundRobinLaws.granted_member n 1 (Some t) asks t (omega arith) token, asking, first)

-- without an acknowledge the token stays
pub next_unacknowledged : (n t : ℕ) (asks : ℕ → Bool) → next n t false asks ≡ t
unfolding next after
next_unacknowledged n t asks = refl

-- without a grant it stays too
pub next_idle : (n t : ℕ) (acknowledged : Bool) (asks : ℕ → Bool) → granted n t asks ≡ [] → next n t acknowledged asks ≡ t
unfolding next after
next_idle n t true asks e = rw e
next_idle n t false asks e = refl

after_grant : (n t : ℕ) (xs : List ℕ) → 0 < length xs → after n t true xs ≡ (t + 1) % n
unfolding after
after_grant n t [] h = absurd (omega arith)
after_grant n t (g ∷ gs) h = refl

-- an acknowledged grant moves it one on
pub next_acknowledged : (n t : ℕ) (asks : ℕ → Bool) → 0 < length (granted n t asks) → next n t true asks ≡ (t + 1) % n
unfolding next
next_acknowledged n t asks h = after_grant n t (granted n t asks) h

after_below : (n t : ℕ) (acknowledged : Bool) (xs : List ℕ) → t < n → after n t acknowledged xs < n
unfolding after
after_below n t true (g ∷ gs) h = mod-lt (t + 1) (omega arith)
after_below n t true [] h = h
after_below n t false xs h = h

-- the next token is a station
pub next_below : (n t : ℕ) (acknowledged : Bool) (asks : ℕ → Bool) → t < n → next n t acknowledged asks < n
unfolding next
next_below n t acknowledged asks h = after_below n t acknowledged (granted n t asks) h
