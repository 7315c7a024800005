-- `count_round` meets its contract: what comes out of the network, with a 0 before it, is the running codes.
-- Assumes nothing.
use Rattle.std.proofs.Common.{ℕ, ◌-◌, ◌≤◌, ◌≡◌, refl, sym, ap, ◌∙◌, List, [], ◌∷◌, length, set, arith, append-nil}
use Rattle.std.specs.Int.Count.{ones}
use lib.ListN.{length-take}
use lib.Seq.{drop-length}
use borrow.Rule.Slice.PartMut.{put_mid}
use Rattle.rules.proofs.KoggeStone.Laws as KoggeStoneLaws
use Rattle.tracer.specs.Trace.{trace, end, computes, runs, leaves}
use Rattle.kogge_stone.proofs.count_round.Code as code
use Rattle.kogge_stone.proofs.count_round.Goals as goal

-- Read off the code: the network runs once, and the grants are read off
one_network : trace (code.function).body end
    ≡ computes
    (runs "thermometer::adder::Picks::new"
    (computes (computes (computes (runs "kogge_stone::network::run" (runs "kogge_stone::read_off" (leaves end)))))))
one_network = refl

-- what comes out of the network with a 0 before it, in a buffer l
led : (l net : List ℕ) → 1 ≤ length l → put_mid 1 (length (set l 0 0) - 1) (set l 0 0) net ≡ 0 ∷ net
led [] net e = absurd (omega arith)
led (x ∷ l) net e =
    let all : length (0 ∷ l) - 1 ≡ length l = omega arith in
    rw (all, drop-length l) (ap {B = List ℕ} (λ l. 0 ∷ l) (append-nil net))

pub read_off-requires-clause-counts_value : goal.read_off-requires-clause-counts_value
read_off-requires-clause-counts_value c =
    let y = c.args.cycle.now in
    let n = length y.requests.now in
    let most : ones c.new-picks.result.code ≡ y.picks = omega (arith, c.new-picks.ensures, y.picked, y.picks_bound) in
    led _ _ (simp length-take (omega arith))
    ∙ ap {B = List ℕ} (λ l. 0 ∷ l) (c.run-more.ensures.codes_after ∙ rw most)
    ∙ sym (KoggeStoneLaws.counts_shifted n y.picks y.head _)
    ∙ KoggeStoneLaws.counts_running n y.picks y.head _ (omega arith)

pub read_off-requires-clause-more_value : goal.read_off-requires-clause-more_value
read_off-requires-clause-more_value c =
    let y = c.args.cycle.now in
    let most : ones c.new-picks.result.code ≡ y.picks = omega (arith, c.new-picks.ensures, y.picked, y.picks_bound) in
    c.run-more.ensures.value ∙ rw most
