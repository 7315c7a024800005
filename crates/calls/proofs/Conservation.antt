-- What a list with messages waiting keeps: each of its served cycles adds as many messages as arrive and takes as many as it grants.
-- Assumes nothing.
use Rattle.std.proofs.Common.{ℕ, ◌+◌, ◌≡◌, refl, sym, ap, arith, List, [], ◌∷◌, Bool, true, true≢false, get_or, eqb-true}
use Rattle.std.proofs.lemmas.List.Sums.{sum_by-cons}
use Rattle.std.specs.List.{sum, sum_by}
use Rattle.rules.specs.Lists.{bit, count}
use Rattle.rules.specs.Lists.Laws as ListsLaws
use Rattle.arbiter.specs.declared.State.{State}
use Rattle.arbiter.specs.Answers as Answers
use Rattle.arbiter.specs.Answers.{with_picks, number}
use Rattle.engines.specs.declared.Engine.{Engine}
use Rattle.backlog.proofs.Conservation.{kept_at_each, kept_in_all}
use Rattle.calls.specs.Calls.{Call, cycle, backlog_cycle, cycle_that, Made, made, Step, was_served, granted}
use Rattle.calls.specs.Messages.{has_messages, message_cycles, Finds, now_waiting, EachKept, AllKept}

-- so does a list, as each of its cycles does: `arrives` is what comes in, `goes` what is taken and `holds` what waits, of one station or of all
module _ (arrives goes : Made → ℕ) (holds : List ℕ → ℕ)
    (once : (s : State) (e : Engine) (arrivals waiting grants nodes : List ℕ) → let m = made s (cycle (backlog_cycle e arrivals waiting grants nodes)) in
    number m.answer ≡ 0 → arrives m + holds waiting ≡ goes m + holds m.messages.remaining) where
  -- one that was served
  one : (s : State) (c : Call) → let m = made s c in
      cycle_that has_messages m.call ≡ true → was_served m ≡ true → arrives m + holds m.messages.waiting ≡ goes m + holds m.messages.remaining
  one s (cycle (backlog_cycle e arrivals waiting grants nodes)) t z = once s e arrivals waiting grants nodes (eqb-true _ 0 z)
  one s _ t z = absurd (true≢false (sym t))

  kept : (s : State) (steps : List Step) (start : List ℕ) → let cycles = message_cycles s steps in
      Finds start cycles → sum_by arrives cycles + holds start ≡ sum_by goes cycles + holds (now_waiting start cycles)
  kept s [] start finds = refl
  kept s (k ∷ ks) start finds =
      let q = with_picks s k.picks in
      let m = made q k.call in
      let rest = message_cycles m.answer.state ks in
      ListsLaws.split (was_served m)
      (λ z.
      ListsLaws.split (cycle_that has_messages m.call)
      (λ t.
      let found : (m.messages.waiting ≡ start) × Finds m.messages.remaining rest = rw (z, t) at finds in
      rw (z, t)
      (omega (
        arith,
        ap holds found.0,
        one q k.call t z,
        kept m.answer.state ks m.messages.remaining found.1,
        sum_by-cons arrives m rest,
        sum_by-cons goes m rest,
      )))
      (λ f. rw (z, f) (kept m.answer.state ks start (rw (z, f) at finds))))
      (λ f. rw f (kept m.answer.state ks start (rw f at finds)))

-- a count as a sum
sum_bits : (p : Made → Bool) (ms : List Made) → sum_by (λ m. bit (p m)) ms ≡ count p ms
sum_bits p [] = refl
sum_bits p (m ∷ ms) = omega (arith, sum_by-cons (λ m. bit (p m)) m ms, sum_bits p ms)

pub each_kept : EachKept
each_kept s steps start w finds =
    rw (← sum_bits (granted w) (message_cycles s steps))
    (kept (λ m. get_or m.messages.arrivals w 0) (λ m. bit (granted w m)) (λ numbers. get_or numbers w 0)
    (λ s e arrivals waiting grants nodes z. omega (arith, kept_at_each e s arrivals waiting grants nodes z w)) s steps start finds)

pub all_kept : AllKept
all_kept s steps start finds =
    kept (λ m. sum m.messages.arrivals) (λ m. Answers.count m.answer) sum
    (λ s e arrivals waiting grants nodes z. kept_in_all e s arrivals waiting grants nodes z) s steps start finds
