use Rattle.std.proofs.Common.{◌∙◌, ap}
use Rattle.std.specs.Option.{option_copied}
use Rattle.edif_design.specs.Tables.{linked_number, linked_refusal}
use Rattle.edif_design.proofs.LinkLaws.{link_number, link_refusal}
use Rattle.edif_design.proofs.tables.FileTables.link.Goals as goal

pub returns-clause-number : goal.returns-clause-number
returns-clause-number c = ap linked_number c.in_ok-linked.ensures ∙ link_number c.args.self.now c.args.home c.args.cell.now c.args.spelling.now (option_copied c.args.library)

pub returns-clause-refusal : goal.returns-clause-refusal
returns-clause-refusal c = ap linked_refusal c.in_ok-linked.ensures ∙ link_refusal c.args.self.now c.args.home c.args.cell.now c.args.spelling.now (option_copied c.args.library)
