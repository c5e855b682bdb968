use Rattle.net_flatten_fits.proofs.Names.{flattened_short}
use Rattle.net_flatten_fits.proofs.Values.{flattened_sound}
use Rattle.netlist_cli.proofs.flattening.flat_design.Goals as goal

pub returns-in-Ok : goal.returns-in-Ok
returns-in-Ok c =
    let flattens = rw c.in-Ok.is at c.flatten.ensures.answers in
    record {
      flat = record { valid = c.cells-cells.ensures.valid.valid; flattens = flattens; same = rw c.in-Ok.is at c.flatten.ensures.same };
      fits = record {
        short = flattened_short c.args.constants.now c.args.hier.now c.in-Ok.flat c.requires.named flattens;
        sound = flattened_sound c.args.constants.now c.args.hier.now c.in-Ok.flat c.requires.sound flattens;
      };
    }
