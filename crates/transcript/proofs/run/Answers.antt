-- `run` meets its contract: an output at the start of a buffer that has room for any text.
-- Assumes nothing.
use Rattle.std.proofs.Common.{◌≡◌, ◌≤◌, sym, arith, length}
use lib.Seq.{length-take-le}
use Rattle.text.specs.Output.Laws.{put_length, put_whole, put_start}
use Rattle.transcript.specs.Text.{text}
use Rattle.transcript.specs.Text.Laws.{text_fits}
use Rattle.transcript.proofs.run.Goals as goal

pub returns : goal.returns
returns c =
    let p = c.print.ensures.put in
    let input = c.args.input.now in
    let end = c.print.new.out.at in
    let buffer = c.print.new.out.bytes.now in
    let fits = text_fits input in
    let ends : end ≡ length (text input) = omega (arith, put_whole p (omega arith)) in
    let within : end ≤ length buffer = omega (arith, put_length p) in
    record {
      value = ends;
      output_after = put_start p (omega arith);
      counts = (within, sym (length-take-le end buffer within));
      read_size = omega arith;
    }
