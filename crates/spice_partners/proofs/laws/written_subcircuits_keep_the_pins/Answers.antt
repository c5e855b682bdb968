use Rattle.spice_partners.proofs.Same.{same_pins}
use Rattle.spice_partners.proofs.laws.written_subcircuits_keep_the_pins.Goals as goal

pub returns : goal.returns
returns c = λ design file valid keeps are. same_pins design valid keeps file are
