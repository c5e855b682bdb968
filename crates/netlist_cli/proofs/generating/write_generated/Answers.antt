use Rattle.netlist_cli.proofs.Unread.{ends_by_writing, line_is_put}
use Rattle.netlist_cli.proofs.generating.write_generated.Goals as goal

pub returns-in-Ok : goal.returns-in-Ok
returns-in-Ok g c =
    rw c.after_writing.ensures (record {
      does = line_is_put _ _ _ _ _ c.in-Ok.line c.put_text-written.result (rw c.in-Ok.is at c.line_of_generated.ensures) c.put_text-written.ensures;
      ends = ends_by_writing c.put_text-written.result;
    })
