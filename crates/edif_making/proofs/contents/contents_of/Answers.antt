use Rattle.std.proofs.Common.{◌++◌, List, [], ap, map, subst, sym, ◌∙◌}
use Rattle.std.specs.List.{AllByRecursion}
use Rattle.std.proofs.lemmas.List.{length-map}
use Rattle.net_hier.specs.declared.cells.HInst.{HInst}
use Rattle.edif_values.specs.declared.view.ContentsItem.TheVariants as contents_items
use Rattle.edif_plans.specs.AddedNames.{AreNamedFor}
use Rattle.edif_plans.specs.Made.{AreAddedTo}
use Rattle.edif_plans.specs.NetNames.{name_of_class}
use Rattle.edif_plans.specs.References.{CanRefer, CellPlan}
use Rattle.edif_plans.proofs.Needed.{idents_count}
use Rattle.edif_making.specs.Whole.{whole_cell}
use Rattle.edif_making.proofs.Bare.{all_bare, bare_fits, bare_nets, bare_plan}
use Rattle.edif_making.proofs.CellLaws.{added_in_plan, refs_there, cell_plan_fits}
use Rattle.edif_making.proofs.MadeNets.{nets_for}
use Rattle.edif_making.proofs.contents.contents_of.Goals as goal

pub instances_with-requires-clause-counted : goal.instances_with-requires-clause-counted
instances_with-requires-clause-counted c = c.requires.whole.are_classes.below

pub instances_written-requires-clause-heads : goal.instances_written-requires-clause-heads
instances_written-requires-clause-heads c = λ place inst there. c.requires.plan.heads inst.cell (c.requires.whole.is_good.instances_in_range place inst there)

pub instances_written-requires-clause-constants : goal.instances_written-requires-clause-constants
instances_written-requires-clause-constants c = added_in_plan c.args.plan.now c.args.classes c.in_ok-instances.instances.added c.in_ok-instances.ensures.added.values c.requires.constants

pub instances_written-requires-clause-idents : goal.instances_written-requires-clause-idents
instances_written-requires-clause-idents c =
    let added : AreAddedTo c.args.own c.args.classes c.in_ok-instances.instances = subst (λ (l : List HInst). AreAddedTo l c.args.classes c.in_ok-instances.instances) c.items.ensures c.in_ok-instances.ensures.added in
    sym (idents_count c.args.own c.args.classes c.in_ok-instances.instances added)

pub instances_written-requires-clause-short : goal.instances_written-requires-clause-short
instances_written-requires-clause-short c = c.in_ok-instances.ensures.added.short

pub with_nets-requires-clause-fits : goal.with_nets-requires-clause-fits
with_nets-requires-clause-fits c =
    let shown = c.args.shown.now in
    let inside = c.args.inside.now in
    let joins = c.requires.whole.joins in
    let found = c.in_ok-instances.instances in
    let added : AreAddedTo c.args.own c.args.classes found = subst (λ (l : List HInst). AreAddedTo l c.args.classes found) c.items.ensures c.in_ok-instances.ensures.added in
    let belows = c.as_slice.ensures.value ∙ (c.in_ok-belows.ensures ∙ ap (map (λ (one : HInst). one.cell)) c.items-2.ensures) in
    let cell_plan : CellPlan = record { cells = c.args.cells.now; plan = c.args.plan.now; cell = whole_cell shown c.args.own inside joins; head = c.args.head.now; instances = found } in
    bare_fits c.args.cells.now c.args.plan.now c.args.head.now found shown.name shown.ports c.args.own inside.nets joins inside.props c.as_slice.result.now belows
    (cell_plan_fits cell_plan c.args.classes c.requires.plan c.requires.ports c.requires.whole.is_good added)

pub with_nets-requires-clause-there : goal.with_nets-requires-clause-there
with_nets-requires-clause-there c =
    let shown = c.args.shown.now in
    let inside = c.args.inside.now in
    let joins = c.requires.whole.joins in
    let found = c.in_ok-instances.instances in
    let added : AreAddedTo c.args.own c.args.classes found = subst (λ (l : List HInst). AreAddedTo l c.args.classes found) c.items.ensures c.in_ok-instances.ensures.added in
    let belows = c.as_slice.ensures.value ∙ (c.in_ok-belows.ensures ∙ ap (map (λ (one : HInst). one.cell)) c.items-2.ensures) in
    let cell_plan : CellPlan = record { cells = c.args.cells.now; plan = c.args.plan.now; cell = whole_cell shown c.args.own inside joins; head = c.args.head.now; instances = found } in
    all_bare c.args.cells.now c.args.plan.now c.args.head.now found shown.name shown.ports c.args.own inside.nets joins inside.props c.as_slice.result.now belows c.in_ok-members.members
    (subst (AllByRecursion (AllByRecursion (CanRefer cell_plan))) (sym c.in_ok-members.ensures) (refs_there cell_plan c.args.classes c.requires.whole.are_classes c.requires.whole.is_good added c.requires.constants))

pub with_nets-requires-clause-idents : goal.with_nets-requires-clause-idents
with_nets-requires-clause-idents c = c.in_ok-idents.ensures.len ∙ length-map c.in_ok-members.members (name_of_class c.args.inside.now.nets c.args.shown.now.ports)

pub returns : goal.returns
returns c =
    let shown = c.args.shown.now in
    let inside = c.args.inside.now in
    let found = c.in_ok-instances.instances in
    let added : AreAddedTo c.args.own c.args.classes found = subst (λ (l : List HInst). AreAddedTo l c.args.classes found) c.items.ensures c.in_ok-instances.ensures.added in
    let belows = c.as_slice.ensures.value ∙ (c.in_ok-belows.ensures ∙ ap (map (λ (one : HInst). one.cell)) c.items-2.ensures) in
    let bare : CellPlan = bare_plan c.args.cells.now c.args.plan.now c.args.head.now found shown.name shown.ports c.args.own inside.nets [] inside.props c.as_slice.result.now belows in
    let first = c.in_ok-first.ensures in
    let nets = c.in_ok-items.ensures.nets in
    record {
      instances = found;
      made_instances = first.made;
      nets = nets;
      are_items = c.in_ok-items.ensures.are_behind ∙ ap (λ l. l ++ map contents_items.Net nets) first.are_made;
      are_added = added;
      are_named = subst (λ (l : List HInst). AreNamedFor c.args.constants.now l found.added) c.items.ensures c.in_ok-instances.ensures.named;
      are_instances = first.hold;
      are_nets = bare_nets c.args.cells.now c.args.plan.now c.args.head.now found shown.name shown.ports c.args.own inside.nets [] inside.props c.as_slice.result.now belows c.args.classes _ nets
          (nets_for bare c.args.classes c.in_ok-members.members c.in_ok-idents.idents nets c.in_ok-members.ensures c.in_ok-idents.ensures c.in_ok-items.ensures.hold);
    }
