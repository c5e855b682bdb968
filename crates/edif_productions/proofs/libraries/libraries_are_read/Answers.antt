use Rattle.std.proofs.Common.{true, false}
use Rattle.edif_values.specs.declared.keyword.Keyword.TheVariants as k
use Rattle.edif_productions.proofs.Combining.{whole_form}
use Rattle.edif_productions.proofs.LibraryTexts.{interfaces, all_contents, views, cells, scales, library_bodies, designs}
use Rattle.edif_productions.proofs.libraries.libraries_are_read.Goals as goal

pub returns-clause-interface : goal.returns-clause-interface
returns-clause-interface c = interfaces

pub returns-clause-contents : goal.returns-clause-contents
returns-clause-contents c = all_contents

pub returns-clause-view : goal.returns-clause-view
returns-clause-view c = views

pub returns-clause-cell : goal.returns-clause-cell
returns-clause-cell c = cells

pub returns-clause-scale : goal.returns-clause-scale
returns-clause-scale c = scales

pub returns-clause-library : goal.returns-clause-library
returns-clause-library c = whole_form k.Library (library_bodies false)

pub returns-clause-external : goal.returns-clause-external
returns-clause-external c = whole_form k.External (library_bodies true)

pub returns-clause-design : goal.returns-clause-design
returns-clause-design c = designs
