use Rattle.std.proofs.Common.{◌∙◌, ap}
use Rattle.edif_lookup.specs.Tables.{meaning}
use Rattle.edif_lookup.proofs.Naming.{meaning-named}
use Rattle.edif_design.specs.Parts.{numbered}
use Rattle.edif_rules.specs.Idents.{instance_ident, instances_meaning}
use Rattle.edif_rules.specs.Lists.{seen}
use Rattle.edif_rules.proofs.tables.InstanceTable.find.Goals as goal

pub returns : goal.returns
returns c =
    c.in_ok-found.ensures
    ∙ (ap (λ definitions. meaning definitions c.args.spelling.now) c.self.invariant
    ∙ (meaning-named instance_ident (numbered (seen c.self.inside.instances.items)) c.args.spelling.now ∙ ap (λ items. instances_meaning items c.args.spelling.now) c.self.view_is))
