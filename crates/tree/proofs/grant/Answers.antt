-- `grant` meets its contract: the station reached has a grant byte.
-- Assumes nothing.
use Rattle.std.proofs.Common.{arith}
use Rattle.rules.proofs.Tree.Laws.{reached_station}
use Rattle.std.specs.Prelude.{◌≡◌, refl, List}
use mir.Syntax.{Symbol}
use Rattle.tracer.specs.Trace.{named, trace, end, computes, calls, runs, leaves, either}
use Rattle.tree.proofs.grant.Code as code
use Rattle.tree.proofs.grant.Goals as goal

-- Read off the code: one descent finds whom to grant, and that node says whether it asks
one_descent : (drops : List Symbol)
    × (trace (code.function).body end
    ≡ calls (named "core::slice::edits::slice+T::fill" drops)
    (runs "tree::nodes::Nodes::reached"
    (computes (computes (runs "tree::nodes::s0" (either (computes (leaves end)) end (leaves end)))))))
one_descent = (_, refl)

pub bounds-cycle-station : goal.bounds-cycle-station
bounds-cycle-station c =
    let t = c.args.tree.now in
    let y = c.args.cycle.now in
    omega (arith, c.reached-station.ensures, reached_station t.width t.bytes.now t.some, c.requires.width_value, y.grants_len, c.fill.ensures.len)
