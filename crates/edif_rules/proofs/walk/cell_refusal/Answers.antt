use Rattle.std.proofs.Common.{◌∙◌, ap, arith, length, sym}
use Rattle.std.proofs.lemmas.List.{length-map}
use Rattle.edif_lookup.specs.Refusals.{in_order, lower, lowest}
use Rattle.edif_lookup.proofs.Orders.{lowest-append}
use Rattle.edif_values.specs.Names.{original}
use Rattle.edif_design.specs.CellRules.{cell_refusals, contents_refusals, port_refusals}
use Rattle.edif_design.specs.Parts.{cell_contents, instance_in, ports}
use Rattle.edif_design.specs.References.{file_cells, numbers_meant, place_in}
use Rattle.edif_rules.proofs.SizeLaws.{few_contents, few_of}
use Rattle.edif_rules.proofs.WalkLaws.{scope_is}
use Rattle.edif_rules.proofs.walk.cell_refusal.Goals as goal

pub of-requires : goal.of-requires
of-requires c = c.requires.few

pub of-requires-2 : goal.of-requires-2
of-requires-2 c =
    omega (
      arith,
      c.requires.few,
      few_contents c.args.cell.now,
      few_of instance_in (cell_contents c.args.cell.now),
      ap length c.in_ok-instances_of.ensures,
      length-map c.in_ok-instances_of.field-0.items (λ r. r.now),
    )

pub contents_refusal-requires-clause-scope : goal.contents_refusal-requires-clause-scope
contents_refusal-requires-clause-scope c =
    scope_is (file_cells c.args.tables.now) c.args.cell.now (numbers_meant c.args.tables.now (place_in c.args.home c.args.cell.now)) _ c.in_ok-own.ensures
    (c.in_ok-instances.ensures ∙ c.in_ok-instances_of.ensures) c.requires.below c.requires.port_tables

pub contents_refusal-requires-clause-few : goal.contents_refusal-requires-clause-few
contents_refusal-requires-clause-few c = c.requires.few

pub returns : goal.returns
unfolding cell_refusals
returns c =
    let place = place_in c.args.home c.args.cell.now in
    c.lower.ensures
    ∙ ((λ j. lower
    ((c.in_ok-first.ensures ∙ (λ k. lowest (in_order (port_refusals (c.original.ensures k)) ((c.ports.ensures ∙ c.in_ok-own.ensures) k)))) j)
    (c.in_ok-next.ensures j))
    ∙ sym (lowest-append (in_order (port_refusals (original c.args.cell.now.name)) (ports c.args.cell.now)) (in_order (contents_refusals c.args.tables.now place) (cell_contents c.args.cell.now))))
