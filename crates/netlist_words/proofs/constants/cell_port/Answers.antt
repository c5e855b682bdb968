use Rattle.netlist_words.proofs.Dots.{cell_port_at, cell_port_none}
use Rattle.netlist_words.proofs.constants.cell_port.Goals as goal

pub returns-in_err-at : goal.returns-in_err-at
returns-in_err-at c = rw c.from_residual.ensures (cell_port_none c.args.word.now c.in_err-at.ensures)

pub returns : goal.returns
returns c = cell_port_at c.args.word.now c.in_ok-at.at c.in_ok-at.ensures.0 c.in_ok-at.ensures.1 c.in_ok-at.ensures.2
