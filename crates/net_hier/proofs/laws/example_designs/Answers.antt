use Rattle.net_hier.proofs.Example.{other_design, same_cells_here}
use Rattle.net_hier.proofs.ExampleValid.{tied_valid, translated_valid, untied_valid}
use Rattle.net_hier.proofs.laws.example_designs.Goals as goal

pub returns-clause-valid : goal.returns-clause-valid
returns-clause-valid c = (tied_valid, translated_valid, untied_valid)

pub returns-clause-same : goal.returns-clause-same
returns-clause-same c = same_cells_here

pub returns-clause-other : goal.returns-clause-other
returns-clause-other c = other_design
