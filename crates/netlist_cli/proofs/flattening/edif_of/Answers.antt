use Rattle.edif_value_laws.proofs.Sound.{sound_design}
use Rattle.netlist_cli.proofs.flattening.edif_of.Goals as goal

pub returns : goal.returns
returns c = record {
  valid = c.cells-cells.ensures.valid.valid;
  same = c.in_ok-file.ensures.same;
  value = c.in_ok-file.ensures.value (sound_design c.args.flat c.requires.short c.requires.sound);
}
