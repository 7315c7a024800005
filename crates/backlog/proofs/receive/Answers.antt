-- `receive` meets its contract: up to station i the arrivals are added and the requests are written.
-- Assumes nothing.
use Rattle.std.proofs.Common.{ℕ, ◌<◌, sym, ap, ◌∙◌, arith, length, length-take-le, ltb, ext_get_or}
use Rattle.rules.specs.Lists.{bit}
use Rattle.backlog.specs.Calls.{arrived}
use Rattle.backlog.specs.Calls.Laws.{arrived_length, arrived_at, requests_length, requests_at}
use Rattle.backlog.proofs.receive.Goals as goal

pub returns-clause-waiting_after : goal.returns-clause-waiting_after
returns-clause-waiting_after c =
    let a = c.args in
    ext_get_or 0 _ _ (omega (arith, c, arrived_length a.waiting.now a.arrivals.now))
    (λ k u. c.loop-i.invariant.added k (omega (arith, c)) ∙ sym (arrived_at a.waiting.now a.arrivals.now c.requires.arrivals_len k))

pub returns-clause-value : goal.returns-clause-value
returns-clause-value c =
    let a = c.args in
    let numbers = arrived a.waiting.now a.arrivals.now in
    let size = arrived_length a.waiting.now a.arrivals.now in
    let room = length-take-le (length a.waiting.now) a.room.now c.requires.room_len in
    ext_get_or 0 _ _ (omega (arith, c, requests_length numbers, size, room))
    (λ k u.
    let here : k < c.loop-i.i = omega (arith, c, room) in
    let number = c.loop-i.invariant.added k here ∙ sym (arrived_at a.waiting.now a.arrivals.now c.requires.arrivals_len k) in
    c.loop-i.invariant.asked k here ∙ ap (λ (n : ℕ). bit (ltb 0 n)) number ∙ sym (requests_at numbers k))
