use Rattle.std.proofs.Common.{◌∙◌, ap}
use Rattle.edif_lookup.specs.Tables.{meaning}
use Rattle.edif_lookup.proofs.Naming.{meaning-named}
use Rattle.edif_design.specs.Parts.{numbered}
use Rattle.edif_design.specs.CellRules.{port_ident}
use Rattle.edif_rules.specs.Idents.{ports_meaning}
use Rattle.edif_rules.specs.Lists.{seen}
use Rattle.edif_rules.proofs.tables.PortTable.find.Goals as goal

pub returns : goal.returns
returns c =
    c.in_ok-found.ensures
    ∙ (ap (λ definitions. meaning definitions c.args.spelling.now) c.self.invariant
    ∙ (meaning-named port_ident (numbered (seen c.self.inside.ports.items)) c.args.spelling.now ∙ ap (λ items. ports_meaning items c.args.spelling.now) c.self.view_is))
