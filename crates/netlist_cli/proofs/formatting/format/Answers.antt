use Rattle.std.proofs.Common.{refl}
use Rattle.netlist_cli.proofs.Formatted.{put_writes, format_takes, format_unspent, formatted_is_put, unformatted_is_told}
use Rattle.netlist_cli.proofs.formatting.format.Goals as goal

pub returns-in-Ok : goal.returns-in-Ok
returns-in-Ok g c =
    let formats = rw c.in-Ok.is at c.format_edif.ensures in
    let put = c.put_all-written.ensures in
    let writes = put_writes g.O.Sink.receipt c.args.output.now c.put_all-written.new.sink c.in-Ok.text.items c.put_all-written.result (rw c.as_slice.ensures.value at put.all) (rw c.as_slice.ensures.value at put.front) put.cause (rw c.as_slice.ensures.value at put.accepted) in
    record {
      does = rw c.after_writing.ensures (formatted_is_put _ _ _ _ _ g.O.Sink.receipt _ _ c.args.output.now c.put_all-written.new.sink c.in-Ok.text c.put_all-written.result formats writes);
      taken = format_takes _ _ _ _ _ _ _ c.format_edif.result c.format_edif.ensures;
    }

pub of_read_error-requires : goal.of_read_error-requires
of_read_error-requires g c = format_unspent _ _ _ _ _ c.in-Err.error _ _ (rw c.in-Err.is at c.format_edif.ensures)

pub returns-in-Err : goal.returns-in-Err
returns-in-Err g c = record {
  does = rw c.of_read_error.ensures (unformatted_is_told _ _ _ _ _ g.O.Sink.receipt _ _ c.args.output.now c.args.output.now c.in-Err.error (rw c.in-Err.is at c.format_edif.ensures) refl);
  taken = format_takes _ _ _ _ _ _ _ c.format_edif.result c.format_edif.ensures;
}
