use Rattle.std.proofs.Common.{◌∙◌, ap}
use Rattle.edif_lookup.specs.Refusals.{lower, lowest}
use Rattle.edif_design.specs.CellRules.{link_refusals}
use Rattle.edif_design.specs.References.{link_meant, number_meant}
use Rattle.edif_rules.proofs.InstanceLaws.{instance_found}
use Rattle.edif_rules.proofs.instances.instance_refusal.Goals as goal

pub returns : goal.returns
returns c =
    instance_found c.args.tables.now c.args.home c.args.cell.now c.args.instance.now c.args.ident_taken c.args.name_taken c.bytes.result.now c.original.result.now
    c.linked_number.result c.in_ok-ident.ident c.linked_refusal-link.result c.in_ok-view.view c.in_ok-name.name c.lower-3.result c.bytes.ensures.bytes c.original.ensures c.in_ok-ident.ensures
    (c.linked_number.ensures ∙ (c.in_ok-linked.ensures.number ∙ (λ j. number_meant (link_meant c.args.tables.now c.args.home (c.library_of.ensures j) (c.bytes-2.ensures.bytes j)))))
    (c.linked_refusal-link.ensures ∙ (c.in_ok-linked.ensures.refusal ∙ (λ j. lowest (link_refusals c.args.tables.now c.args.home c.args.cell.now (c.library_of.ensures j) (c.bytes-2.ensures.bytes j)))))
    c.in_ok-view.ensures c.in_ok-name.ensures
    (c.lower-3.ensures ∙ ap (λ o. lower o c.in_ok-name.name) (c.lower-2.ensures ∙ ap (λ o. lower o c.in_ok-view.view) c.lower.ensures))
