-- `print_line` meets its contract. The part of the grant buffer that is lent is all 0.
-- Assumes nothing.
use Rattle.std.proofs.lemmas.List.{take-replicate}
use Rattle.transcript.proofs.cycles.Progress.print_line.Goals as goal

pub advance-outcome-requires : goal.advance-outcome-requires
advance-outcome-requires c = take-replicate _ _ 0 c.args.self.now.wide
