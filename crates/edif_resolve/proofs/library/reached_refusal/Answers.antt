use Rattle.edif_design.specs.References.{place_in}
use Rattle.edif_resolve.proofs.Walking.{unreached}
use Rattle.edif_resolve.proofs.library.reached_refusal.Goals as goal

pub returns-then-not-is_reached : goal.returns-then-not-is_reached
returns-then-not-is_reached c = unreached c.args.tabled.now c.args.number (place_in c.args.library c.args.cell.now) c.is_reached.result c.is_reached.ensures c.if-not-is_reached.true
