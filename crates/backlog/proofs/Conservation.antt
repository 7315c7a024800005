-- What a cycle keeps: served, it adds as many messages as arrive and takes as many as it grants.
-- Assumes nothing.
use Rattle.std.proofs.Common.{ℕ, suc, ◌+◌, ◌≡◌, refl, sym, ap, ◌∙◌, arith, List, [], ◌∷◌, eqb, length, get_or}
use Rattle.std.proofs.lemmas.List.Sums.{sum_by-cons}
use Rattle.std.specs.List.{sum}
use Rattle.rules.specs.Lists.{bit, count}
use Rattle.rules.specs.Lists.Laws as ListsLaws
use Rattle.rules.proofs.RoundRobin.Laws as RoundRobinLaws
use Rattle.arbiter.specs.declared.Answer.{Answer}
use Rattle.arbiter.specs.declared.Granted.{Granted}
use Rattle.arbiter.specs.declared.State.{State}
use Rattle.arbiter.specs.Answers as Answers
use Rattle.arbiter.specs.Answers.{number}
use Rattle.arbiter.specs.Decisions.{requested}
use Rattle.engines.specs.declared.Engine.{Engine}
use Rattle.engines.specs.Calls as EngineCalls
use Rattle.backlog.specs.Calls.{BacklogEffect, arrived, requests, cycle}
use Rattle.backlog.specs.Calls.Laws.{lent_passed, passed_cycle, backlog_served, served_passes, granted_wait, arrived_length, arrived_at, taken_length, taken_at}
use Rattle.backlog.specs.Kept.{KeptAtEach, KeptInAll}

-- four lists of one length, of which at each place the first two make what the others do, the third by whether it holds a 1: so do the
-- sums of them
sums_kept : (xs ys gs zs : List ℕ) → length ys ≡ length xs → length gs ≡ length xs → length zs ≡ length xs
    → ((w : ℕ) → get_or xs w 0 + get_or ys w 0 ≡ bit (requested gs w) + get_or zs w 0)
    → sum ys + sum xs ≡ count (λ g. eqb g 1) gs + sum zs
sums_kept [] [] [] [] a b c each = refl
sums_kept (x ∷ xs) (y ∷ ys) (g ∷ gs) (z ∷ zs) a b c each =
    omega (
      arith,
      each 0,
      sums_kept xs ys gs zs (omega (arith, a)) (omega (arith, b)) (omega (arith, c)) (λ w. each (suc w)),
      sum_by-cons (λ v. v) x xs,
      sum_by-cons (λ v. v) y ys,
      sum_by-cons (λ v. v) z zs,
    )
sums_kept [] (y ∷ ys) gs zs a b c each = absurd (omega (arith, a))
sums_kept [] [] (g ∷ gs) zs a b c each = absurd (omega (arith, b))
sums_kept [] [] [] (z ∷ zs) a b c each = absurd (omega (arith, c))
sums_kept (x ∷ xs) [] gs zs a b c each = absurd (omega (arith, a))
sums_kept (x ∷ xs) (y ∷ ys) [] zs a b c each = absurd (omega (arith, b))
sums_kept (x ∷ xs) (y ∷ ys) (g ∷ gs) [] a b c each = absurd (omega (arith, c))

-- a served cycle
module _ (e : Engine) (s : State) (arrivals waiting grants nodes : List ℕ) (z : number (cycle e s arrivals waiting grants nodes).answer ≡ 0) where
  abbrev left : BacklogEffect
  left = cycle e s arrivals waiting grants nodes

  -- keeps the messages of each station
  pub kept_at : (w : ℕ) → get_or waiting w 0 + get_or arrivals w 0 ≡ bit (requested left.grants w) + get_or left.waiting w 0
  kept_at w =
      let p = served_passes e s arrivals waiting grants nodes z in
      let is = passed_cycle e s arrivals waiting grants nodes p in
      let l = lent_passed e s arrivals waiting grants nodes p in
      let after = arrived waiting arrivals in
      let o = EngineCalls.cycle e s (requests after) grants nodes in
      let at = arrived_at waiting arrivals (l.came ∙ sym l.counted) w in
      rw is
      (ListsLaws.split (requested o.grants w)
      (λ t. omega (arith, at, taken_at after o.grants w, granted_wait e s arrivals waiting grants nodes p w t, ap bit t))
      (λ f. omega (arith, at, taken_at after o.grants w, ap bit f)))

  -- and of all
  pub kept_all : sum arrivals + sum waiting ≡ Answers.count left.answer + sum left.waiting
  kept_all =
      let p = served_passes e s arrivals waiting grants nodes z in
      let is = passed_cycle e s arrivals waiting grants nodes p in
      let l = lent_passed e s arrivals waiting grants nodes p in
      let after = arrived waiting arrivals in
      let r = backlog_served e s arrivals waiting grants nodes z in
      let asks = requested (requests after) in
      let rule = RoundRobinLaws.grants_count s.width s.picks s.head asks (omega (arith, r.allows.station)) in
      let long : length left.grants ≡ s.width = ap length r.granted ∙ RoundRobinLaws.grants_length s.width s.picks s.head asks in
      let kept =
      sums_kept waiting arrivals left.grants left.waiting (l.came ∙ sym l.counted)
      (long ∙ sym l.counted)
      (ap (λ (o : BacklogEffect). length o.waiting) is ∙ taken_length after _ ∙ arrived_length waiting arrivals) kept_at in
      let counts : count (λ g. eqb g 1) left.grants ≡ Answers.count left.answer =
      rw (r.granted, rule) (sym (ap (λ (a : Answer Granted). Answers.count a) r.answers)) in
      rw counts at kept

pub kept_at_each : KeptAtEach
kept_at_each e s arrivals waiting grants nodes z w = kept_at e s arrivals waiting grants nodes z w

pub kept_in_all : KeptInAll
kept_in_all e s arrivals waiting grants nodes z = kept_all e s arrivals waiting grants nodes z
