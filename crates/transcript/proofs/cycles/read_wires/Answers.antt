-- `read_wires` meets its contract: the bytes are written up to the i-th.
-- Assumes nothing.
use Rattle.std.proofs.Common.{◌∙◌, sym, arith, ext_get_or}
use Rattle.std.proofs.lemmas.List.{get_or-map, length-map}
use Rattle.transcript.specs.Cycles.{wire}
use Rattle.transcript.proofs.cycles.read_wires.Goals as goal

pub returns : goal.returns
returns c =
    let line = c.args.line.now in
    ext_get_or 0 _ _ (omega (arith, c, length-map line wire))
    (λ k u. c.loop-i.invariant k (omega (arith, c)) ∙ sym (get_or-map wire line k 0 0 (omega (arith, c))))
