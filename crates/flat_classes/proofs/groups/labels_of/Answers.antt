use Rattle.std.proofs.Common.{◌++◌, ap, arith, get_or, refl, subst, subst₂, sym, ◌∙◌}
use Rattle.std.proofs.lemmas.List.{append-nil, take_all}
use Rattle.flat_numbers.specs.Layout.{base_of}
use Rattle.flat_numbers.specs.Tables.{rows_in}
use Rattle.flat_numbers.proofs.Bounds.{room}
use Rattle.flat_classes.specs.TerminalNumbers.{HaveLabels, port_labels}
use Rattle.flat_classes.specs.Terminals.{bits_of_ports, ports_at}
use Rattle.flat_classes.specs.declared.flat.Terminal.TheVariants.{Port}
use Rattle.flat_classes.proofs.PortLabels.{labels_added, labels_passed, labels_whole, ports_fit, top_cell, top_labelled}
use Rattle.flat_classes.proofs.TerminalLaws.{inner_pins}
use Rattle.flat_classes.proofs.groups.labels_of.Goals as goal
use Rattle.flat_classes.proofs.groups.labels_of.Goals.{then-leaf-ne0+in_ok-push_labels-2, else-leaf-ne0}

pub push_labels-requires-clause-spot : goal.push_labels-requires-clause-spot
push_labels-requires-clause-spot c = top_cell c.args.hier.now c.requires.are_tables.0 c.args.tables.now.layout c.args.tables.now.belows (rows_in c.args.tables.now.offsets.items) c.requires.are_tables.1

pub loop-leaf-init : goal.loop-leaf-init
loop-leaf-init c =
    let top = top_cell c.args.hier.now c.requires.are_tables.0 c.args.tables.now.layout c.args.tables.now.belows (rows_in c.args.tables.now.offsets.items) c.requires.are_tables.1 in
    let fits = ports_fit c.args.hier.now c.requires.are_tables.0 c.args.tables.now.layout c.args.tables.now.belows (rows_in c.args.tables.now.offsets.items) c.requires.are_tables.1 0 top.0 top.1 in
    let e = c.in_ok-push_labels.ensures ∙ ap (λ w. w ++ port_labels c.args.hier.now.cells c.args.tables.now.layout.spots.items (base_of c.args.tables.now.layout.bases.items c.args.tables.now.layout.count) c.args.labels.now 0) c.new-found.ensures.items in
    subst₂ (HaveLabels c.args.hier.now.cells c.args.tables.now.layout.spots.items (base_of c.args.tables.now.layout.bases.items c.args.tables.now.layout.count) c.args.labels.now) (sym (append-nil (bits_of_ports (λ port bit. Port port bit) 0 (ports_at c.args.hier.now.cells c.args.tables.now.layout.spots.items 0)))) (sym e) (top_labelled c.args.hier.now.cells c.args.tables.now.layout.spots.items (base_of c.args.tables.now.layout.bases.items c.args.tables.now.layout.count) c.args.labels.now (omega (arith, fits, c.requires.labels)))

pub loop-leaf-preserved : goal.loop-leaf-preserved
loop-leaf-preserved c =
    let at = c.requires.leaves c.loop-leaf.leaf-index 0 c.loop-leaf-test.true in
    let fits = ports_fit c.args.hier.now c.requires.are_tables.0 c.args.tables.now.layout c.args.tables.now.belows (rows_in c.args.tables.now.offsets.items) c.requires.are_tables.1 (get_or c.args.leaves.now c.loop-leaf.leaf-index 0) at.0 at.1 in
    elim c.if-leaf-ne0.branch [
      | then-leaf-ne0+in_ok-push_labels-2 w ↦ labels_added c.args.hier.now.cells c.args.tables.now.layout.spots.items (base_of c.args.tables.now.layout.bases.items c.args.tables.now.layout.count) c.args.labels.now c.args.leaves.now c.loop-leaf.leaf-index (bits_of_ports (λ port bit. Port port bit) 0 (ports_at c.args.hier.now.cells c.args.tables.now.layout.spots.items 0)) c.loop-leaf.found.items c.if-leaf-ne0.found.items c.loop-leaf-test.true w.if-leaf-ne0.true (omega (arith, fits, c.requires.labels)) (ap (λ v. v.items) w.found-is ∙ w.in_ok-push_labels-2.ensures) c.loop-leaf.invariant
      | else-leaf-ne0 w ↦ labels_passed c.args.hier.now.cells c.args.tables.now.layout.spots.items (base_of c.args.tables.now.layout.bases.items c.args.tables.now.layout.count) c.args.labels.now c.args.leaves.now c.loop-leaf.leaf-index (bits_of_ports (λ port bit. Port port bit) 0 (ports_at c.args.hier.now.cells c.args.tables.now.layout.spots.items 0)) c.loop-leaf.found.items c.if-leaf-ne0.found.items c.loop-leaf-test.true w.if-leaf-ne0.false (ap (λ v. v.items) w.found-is) c.loop-leaf.invariant
    ]

pub bounds-labels-0 : goal.bounds-labels-0
bounds-labels-0 c = let two = room c.args.hier.now c.requires.are_tables.0 c.args.tables.now.layout c.args.tables.now.belows (rows_in c.args.tables.now.offsets.items) c.requires.are_tables.1 in omega (arith, two, c.requires.labels)

pub bounds-labels-1 : goal.bounds-labels-1
bounds-labels-1 c = let two = room c.args.hier.now c.requires.are_tables.0 c.args.tables.now.layout c.args.tables.now.belows (rows_in c.args.tables.now.offsets.items) c.requires.are_tables.1 in omega (arith, two, c.requires.labels)

pub returns : goal.returns
returns c =
    let all = take_all c.loop-leaf.leaf-index c.args.leaves.now c.loop-leaf-test.false in
    let have : HaveLabels c.args.hier.now.cells c.args.tables.now.layout.spots.items (base_of c.args.tables.now.layout.bases.items c.args.tables.now.layout.count) c.args.labels.now (bits_of_ports (λ port bit. Port port bit) 0 (ports_at c.args.hier.now.cells c.args.tables.now.layout.spots.items 0) ++ inner_pins c.args.hier.now.cells c.args.tables.now.layout.spots.items c.args.leaves.now) c.loop-leaf.found.items =
    subst (λ ls. HaveLabels c.args.hier.now.cells c.args.tables.now.layout.spots.items (base_of c.args.tables.now.layout.bases.items c.args.tables.now.layout.count) c.args.labels.now (bits_of_ports (λ port bit. Port port bit) 0 (ports_at c.args.hier.now.cells c.args.tables.now.layout.spots.items 0) ++ inner_pins c.args.hier.now.cells c.args.tables.now.layout.spots.items ls) c.loop-leaf.found.items) all c.loop-leaf.invariant in
    labels_whole c.args.hier.now.cells c.args.tables.now.layout.spots.items (base_of c.args.tables.now.layout.bases.items c.args.tables.now.layout.count) c.args.labels.now (bits_of_ports (λ port bit. Port port bit) 0 (ports_at c.args.hier.now.cells c.args.tables.now.layout.spots.items 0) ++ inner_pins c.args.hier.now.cells c.args.tables.now.layout.spots.items c.args.leaves.now) c.loop-leaf.found.items c.push.new.self.items c.shrink_to_fit.new.self.items
    (get_or c.args.labels.now 0 0) (get_or c.args.labels.now 1 0) refl refl c.in_ok-push.ensures.items (c.shrink_to_fit.ensures.items ∙ c.in_ok-push-2.ensures.items) have
