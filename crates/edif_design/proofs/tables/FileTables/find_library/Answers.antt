use Rattle.std.proofs.Common.{◌∙◌, ap}
use Rattle.edif_lookup.specs.Tables.{meant_by}
use Rattle.edif_design.specs.References.{library_candidates}
use Rattle.edif_design.proofs.Finding.{library_found}
use Rattle.edif_design.proofs.tables.FileTables.find_library.Goals as goal

pub returns : goal.returns
returns c =
    c.in_ok-found.ensures
    ∙ (library_found c.self.inside.file.now c.self.inside.places.items c.self.inside.views.items c.self.inside.libraries c.self.inside.cells.items c.self.invariant c.args.spelling.now
    ∙ ap (λ file. meant_by (library_candidates file c.args.spelling.now)) c.self.view_is)
