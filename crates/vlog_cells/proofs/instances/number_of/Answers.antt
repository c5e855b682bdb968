use Rattle.std.proofs.Common.{bytes_eq, sym, ◌∙◌}
use Rattle.vlog_cells.proofs.Turns.{at_end}
use Rattle.vlog_cells.proofs.instances.number_of.Goals as goal

pub returns-in-None : goal.returns-in-None
returns-in-None c = c.len.ensures ∙ at_end (bytes_eq c.args.name.now) c.args.names.now (sym c.in-None.ensures)
